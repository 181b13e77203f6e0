-- What the call `repeat` answers is a held button's repeat, as `Played` feeds it back: its bytes read as Repeated, with the pad and the code of a place
-- that reads pressed. The place is due, so its record is there and pressed, and the lookup of its code finds it; the event's time is no later than the
-- clock, and its code has four bytes, so the bytes hold all of the event.
use Prim.Native.Nat.{ℕ, zero, suc, ◌+◌, ◌-◌, ◌/◌, ◌<◌, ◌≤◌}
use Rattle.std.specs.Prelude.{Bool, cond, ◌&&◌, List, ◌≡◌, ltb, leb, Ok, Some}
use Rattle.std.proofs.Math.Bool.{true, false}
use Rattle.std.proofs.Math.Path.{refl, ap}
use Rattle.std.proofs.Common.{◌∙◌, subst, arith, ltb-true, leb-true}
use Rattle.std.specs.Float.Ieee.{fits, of_bits}
use Rattle.std.proofs.Math.ListN.{get_or}
use Rattle.rules.specs.declared.Hub.{Hub}
use Rattle.rules.specs.declared.Event.{Event}
use Rattle.rules.specs.declared.ButtonData.{ButtonData}
use Rattle.rules.specs.declared.RawRecord.{RawRecord}
use Rattle.rules.specs.Names.{places_per_pad, nowhere, last_time, last_wait, is_button}
use Rattle.rules.specs.Forms.{name_fits}
use Rattle.rules.specs.Refusals.{unless_fits, time_fits, repeat_refusal}
use Rattle.rules.specs.Dispatch.{button_name}
use Rattle.rules.specs.Events.{kind_of, name_of, code_of, value_of, form_of, event_bytes}
use Rattle.rules.specs.State.{read_pressed}
use Rattle.rules.specs.Hub.{place_in, name_in, pressed_at, past_button}
use Rattle.rules.specs.Repeat.{wait_of, due_of, first_due, repeated_of, repeated_at, due_place, repeat_by, repeat_of}
use Rattle.wire.specs.Laws.{InLimits, event-read-back, event-of-form}
use Rattle.theory_history.specs.Lemmas.Truth.{false-true}
use Rattle.theory_history.specs.Lemmas.Accepted.{first-zero, fits-zero}
use Rattle.theory_history.specs.Played.{Played, Repeats}
use Rattle.theory_history.specs.Lemmas.Touched.{found}
use Rattle.theory_history.specs.Lemmas.Small.{Small}

-- ---- what an answer says

repeat-due : (number : ℕ) (stands : Bool) (e d : Event) → repeat_by number stands d ≡ Ok (Some e) → (number ≡ 0) × (stands ≡ true) × (d ≡ e)
repeat-due zero true e d is = (refl, refl, cc)
repeat-due zero false e d is = let z : ◌≡◌ {A = ℕ} 0 1 = cc in absurd (omega arith)
repeat-due (suc number) stands e d is = let z : ◌≡◌ {A = ℕ} 0 1 = cc in absurd (omega arith)

-- the clock is inside the limits
clock-small : (after every clock : ℕ) → repeat_refusal after every clock ≡ 0 → clock ≤ last_time
unfolding repeat_refusal time_fits
clock-small after every clock ok =
    let settings = leb after last_wait && (leb 1 every && leb every last_wait) in
    leb-true clock last_time (fits-zero (time_fits clock) 12 (omega arith) (first-zero (unless_fits settings 15) (unless_fits (time_fits clock) 12) ok).1)

-- ---- a place that is due

module _ (hasbutton : List Bool) (buttons : List ButtonData) (after every clock : ℕ) where
  abbrev button : ℕ → ButtonData
  button k = get_or buttons k past_button

  record Due (k : ℕ) : Type 0 where
    pub known : get_or hasbutton k false ≡ true
    pub pressed : (button k).pressed ≡ true
    pub time : (button k).stamp + wait_of (button k) after every ≤ clock

  due-by : (k : ℕ) (known down past long : Bool) → get_or hasbutton k false ≡ known → (button k).pressed ≡ down → leb (button k).stamp clock ≡ past
      → leb (wait_of (button k) after every) (clock - (button k).stamp) ≡ long → (known && (down && (past && long))) ≡ true → Due k
  due-by k true true true true t p s w e =
      let stamp = leb-true (button k).stamp clock s in
      let wait = leb-true (wait_of (button k) after every) (clock - (button k).stamp) w in
      record { known = t; pressed = p; time = omega arith }
  due-by k true true true false t p s w e = false-true e
  due-by k true true false long t p s w e = false-true e
  due-by k true false past long t p s w e = false-true e
  due-by k false down past long t p s w e = false-true e

  due-here : (k : ℕ) (joined : Bool) → (joined && due_of (get_or hasbutton k false) (button k) after every clock) ≡ true → Due k
  unfolding due_of
  due-here k true e = due-by k _ _ _ _ refl refl refl refl e
  due-here k false e = false-true e

  -- the scan stops at a place that is due
  scan-due : (connected : List Bool) (n k : ℕ) → first_due connected hasbutton buttons after every clock n k < nowhere
      → Due (first_due connected hasbutton buttons after every clock n k)
  unfolding first_due
  scan-due connected zero k inside = absurd (omega arith)
  scan-due connected (suc n) k inside = by _ refl inside (scan-due connected n (k + 1))
    where
      rest : ℕ
      rest = first_due connected hasbutton buttons after every clock n (k + 1)

      by : (here : Bool) → (get_or connected (k / places_per_pad) false && due_of (get_or hasbutton k false) (button k) after every clock) ≡ here
          → cond here k rest < nowhere → (rest < nowhere → Due rest) → Due (cond here k rest)
      by true e inside later = due-here k (get_or connected (k / places_per_pad) false) e
      by false e inside later = later inside

place-due : (h : Hub) (after every clock : ℕ) → due_place h after every clock < nowhere
    → Due h.hasbutton h.buttons after every clock (due_place h after every clock)
unfolding due_place
place-due h after every clock inside = scan-due h.hasbutton h.buttons after every clock h.connected nowhere 0 inside

-- ---- the event's bytes

button-named : (n : ℕ) (is : Bool) → is_button n ≡ is → is_button (button_name n) ≡ true
unfolding button_name
button-named n true e = rw (e, e)
button-named n false e = rw e (unfold is_button in refl)

module _ {h : Hub} {rs : List RawRecord} (w : Played h rs) (small : Small h) (after every clock : ℕ) (in-time : clock ≤ last_time) (k : ℕ)
    (inside : k < nowhere) (due : Due h.hasbutton h.buttons after every clock k) where
  abbrev event : Event
  event = repeated_at h k after every

  in-limits : InLimits event
  unfolding repeated_at repeated_of kind_of name_of code_of value_of name_fits fits of_bits
  in-limits =
      let time = due.time in
      let code = small.code k in
      record { named = button-named (name_in h (k / places_per_pad) k) _ refl; code = omega arith; time = omega arith; value = tt }

  is_held : pressed_at h (place_in h (k / places_per_pad) (get_or h.codes k 0)) ≡ true
  unfolding pressed_at read_pressed
  is_held = rw ((found w).at k inside due.known, due.known) due.pressed

  held-repeats : Repeats h (event_bytes event)
  unfolding repeated_at repeated_of
  held-repeats =
      let back = event-of-form event in-limits in
      record {
        form = form_of event;
        read = event-read-back event in-limits;
        name = button_name (name_in h (k / places_per_pad) k);
        code = get_or h.codes k 0;
        is = ap (λ (e : Event). e.event) back;
        held = ap (λ (e : Event). pressed_at h (place_in h e.pad (get_or h.codes k 0))) back ∙ is_held;
      }

-- "a repeat is fed back through `update`": what the call answers may be fed back
pub repeats : {h : Hub} {rs : List RawRecord} → Played h rs → Small h → (after every clock : ℕ) (e : Event)
    → repeat_of h after every clock ≡ Ok (Some e) → Repeats h (event_bytes e)
unfolding repeat_of
repeats {h} w small after every clock e answered =
    let k = due_place h after every clock in
    let (ok, stands, is) = repeat-due (repeat_refusal after every clock) (ltb k nowhere) e (repeated_at h k after every) answered in
    let inside = ltb-true k nowhere stands in
    subst (λ (d : Event). Repeats h (event_bytes d)) is
    (held-repeats w small after every clock (clock-small after every clock ok) k inside (place-due h after every clock inside))
