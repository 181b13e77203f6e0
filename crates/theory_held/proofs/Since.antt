-- W-206 on the hub: on every hub that the public calls reach, a button record that is read by code is what the events of its pad and code tell that were
-- applied since the pad's last Connected, or registration. So its `since` is the time at which it last went from not pressed to pressed. By induction on the
-- calls.
use Prim.Native.Nat.{ℕ, zero, suc, ◌+◌, ◌<◌}
use Rattle.std.specs.Prelude.{Bool, false, cond, ◌≡◌, eqb, ltb, Float, None, Ok, Option, Some}
use Rattle.std.proofs.Math.Bool.{true}
use mathlib.Core.List.{List, []}
use Rattle.std.proofs.Math.Path.{refl}
use Rattle.std.proofs.Common.{sym, ◌∙◌, eqb-true, ltb-true, ltb-false}
use Rattle.std.proofs.Math.ListN.{get_or-eq_default}
use native.Mathlib.Omega.{arith}
use Rattle.std.proofs.lemmas.Bool.{eqb-false}
use Rattle.rules.specs.declared.Hub.{Hub}
use Rattle.rules.specs.declared.Event.{Event}
use Rattle.rules.specs.declared.NextRecord.{NextRecord}
use Rattle.rules.specs.declared.ButtonData.{ButtonData}
use Rattle.rules.specs.declared.EventForm.{EventForm}
use Rattle.rules.specs.Names.{nowhere}
use Rattle.rules.specs.Forms.{read_event}
use Rattle.rules.specs.Refusals.{thresholds_refusal, is_registered, form_refusal, insert_refusal, unless_fits}
use Rattle.rules.specs.Events.{form_event}
use Rattle.rules.specs.State.{read_pressed}
use Rattle.rules.specs.Hub.{place_in, has_button_at, button_at}
use Rattle.rules.specs.Step.{marked_of, filtered_hub, pushed_of, updated_at, updated_of, step_event, step_hub}
use Rattle.rules.specs.Calls.{fresh_hub, idle_hub, new_by, new_of, registered_at, register_refusal, register_by, register_as, renamed_at, rename_refusal, rename_by, rename_of, form_place, update_form_by, update_by, update_of, inserted_at, insert_form_by, insert_by, insert_of, counted_at, inc_of, reset_of}
use Rattle.rules.specs.Queries.{pad_refusal, found_by, button_by_code}
use Rattle.theory_calls.specs.Reach.{Reached, new, register, rename, step, update, insert, inc, reset}
use Rattle.theory_history.specs.Lemmas.Truth.{false-true}
use Rattle.theory_history.specs.Lemmas.Cells.{Long}
use Rattle.theory_held.specs.Lengths.{reached-long}
use Rattle.theory_held.specs.Held.{pressed_by, held_since, Told}
use Rattle.theory_held.specs.Applied.{joins, connects, noted, fed_form, fed, applied_to}
use Rattle.theory_held.proofs.Stages.{Tells, applied, step-tells, register-new, register-old}

-- what holds of a registered pad and a code that has a place
abbrev Holds : Hub → ℕ → ℕ → List Event → Type 0
Holds h p c es = p < h.pads → place_in h p c < nowhere → Tells h p c es

module _ (p c : ℕ) where
  new-holds : (number : ℕ) (pressed released : Float) (reversed filters updates : Bool) (es : List Event)
      → Holds (new_by number (fresh_hub pressed released reversed filters updates)).hub p c es
  unfolding fresh_hub idle_hub
  new-holds zero pressed released reversed filters updates es short here = absurd (omega arith)
  new-holds (suc number) pressed released reversed filters updates es short here = absurd (omega arith)

  module _ (h : Hub) (es : List Event) (w : Holds h p c es) where
    register-by : (sheet : List ℕ) (next : Bool) → eqb h.pads p ≡ next → Long h → Holds (register_by 0 h sheet).hub p c (cond next [] es)
    register-by sheet true e long short here = register-new h sheet p c long (eqb-true h.pads p e) here
    register-by sheet false e long short here =
        let other = eqb-false h.pads p e in
        let old : p < h.pads = earlier h.pads p (unfold registered_at in short) other in
        register-old h sheet p c long old es (w old) here
      where
        earlier : (pads q : ℕ) → q < pads + 1 → (pads ≡ q → ⊥) → q < pads
        earlier pads q short other = omega arith

    register-holds : (number : ℕ) (sheet : List ℕ) → Long h
        → Holds (register_by number h sheet).hub p c (cond (joins (register_by number h sheet).answer p) [] es)
    register-holds zero sheet long = register-by sheet (eqb h.pads p) refl long
    register-holds (suc number) sheet long = w

    rename-holds : (number pad : ℕ) (list : List ℕ) → Holds (rename_by number h pad list).hub p c es
    unfolding renamed_at
    rename-holds zero pad list = w
    rename-holds (suc number) pad list = w

    step-holds : (l : NextRecord) → Long h → Holds (step_hub h l) p c (noted h.updates p c (step_event h l) (cond (connects l p) [] es))
    step-holds l long short here =
        let stands : p < h.pads = unfold step_hub updated_of updated_at filtered_hub pushed_of marked_of in short in
        let place : place_in h p c < nowhere = unfold step_hub updated_of updated_at filtered_hub pushed_of marked_of in here in
        step-tells h p c place long es (w stands place) l

    update-holds : (r : Option EventForm) → Long h → Holds (update_by r h).hub p c (fed r h p c es)
    unfolding updated_of updated_at
    update-holds (Some f) long = by (form_refusal f h.pads (form_place h f))
      where
        by : (number : ℕ) → Holds (update_form_by number h f).hub p c (fed_form number f p c es)
        by zero = λ short here. applied h p c here long (form_event f) es (w short here) true
        by (suc number) = w
    update-holds None long = w

    insert-holds : (r : Option EventForm) → Holds (insert_by r h).hub p c es
    unfolding inserted_at
    insert-holds (Some f) = by (insert_refusal f h.pads (form_place h f) h.waiting)
      where
        by : (number : ℕ) → Holds (insert_form_by number h f).hub p c es
        by zero = w
        by (suc number) = w
    insert-holds None = w

  holds : {h : Hub} (w : Reached h) → Holds h p c (applied_to p c w)
  unfolding applied_to new_of register_as rename_of update_of insert_of inc_of reset_of counted_at
  holds (new pressed released reversed filters updates) = new-holds (thresholds_refusal pressed released) pressed released reversed filters updates []
  holds (register {h} archived sheet w) = register-holds h (applied_to p c w) (holds w) (register_refusal archived h.pads sheet) sheet (reached-long w)
  holds (rename {h} pad list w) = rename-holds h (applied_to p c w) (holds w) (rename_refusal h pad list) pad list
  holds (step {h} l w) = step-holds h (applied_to p c w) (holds w) l (reached-long w)
  holds (update {h} event w) = update-holds h (applied_to p c w) (holds w) (read_event event) (reached-long w)
  holds (insert {h} event w) = insert-holds h (applied_to p c w) (holds w) (read_event event)
  holds (inc {h} w) = holds w
  holds (reset {h} w) = holds w

-- ---- what is read

-- an answer with a record: the pad is registered, and the record is there
answered : {A : Type 0} (number : ℕ) (there : Bool) (stored b : A) → found_by number there stored ≡ Ok (Some b)
    → (number ≡ 0) × (there ≡ true) × (stored ≡ b)
answered zero true stored b e = (refl, refl, cc)
answered zero false stored b e = let z : ◌≡◌ {A = ℕ} 0 1 = cc in absurd (omega arith)
answered (suc number) there stored b e = let z : ◌≡◌ {A = ℕ} 0 1 = cc in absurd (omega arith)

registered : (pads p : ℕ) (below : Bool) → ltb p pads ≡ below → unless_fits (is_registered pads p) 6 ≡ 0 → p < pads
unfolding is_registered
registered pads p true e fits = ltb-true p pads e
registered pads p false e fits = let z : ◌≡◌ {A = ℕ} 6 0 = rw e at fits in absurd (omega arith)

module _ {h : Hub} (w : Reached h) (p c : ℕ) (b : ButtonData) (e : button_by_code h p c ≡ Ok (Some b)) where
  stands : (inside : Bool) → ltb (place_in h p c) nowhere ≡ inside → has_button_at h (place_in h p c) ≡ true → place_in h p c < nowhere
  stands true i has = ltb-true (place_in h p c) nowhere i
  stands false i has =
      let past = ltb-false (place_in h p c) nowhere i in
      let none : has_button_at h (place_in h p c) ≡ false = get_or-eq_default h.hasbutton false {n = place_in h p c} (omega (arith, (reached-long w).hasbutton)) in
      false-true (sym none ∙ has)

  told : Told (applied_to p c w) true b
  unfolding button_by_code
  told =
      let a = answered (pad_refusal h p) (has_button_at h (place_in h p c)) (button_at h (place_in h p c)) b e in
      let short = registered h.pads p (ltb p h.pads) refl a.0 in
      rw (a.1, a.2) at (holds p c w short (stands (ltb (place_in h p c) nowhere) refl a.1))

  -- "the time at which it last went from not pressed to pressed"
  pub since-read : b.since ≡ held_since (applied_to p c w)
  since-read = told.since-is

  -- where pressed is what the record reads
  pub pressed-read : b.pressed ≡ pressed_by (applied_to p c w)
  pressed-read = unfold read_pressed in told.pressed-is
