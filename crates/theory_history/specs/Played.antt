-- The calls that demand 3 speaks of, and the records that were taken: a fresh hub with filters and updates on, registration, steps that take a record on an
-- empty queue or serve an event that waits, the counter, and a repeat that is fed back while its button is held.
use Rattle.std.specs.Prelude.{ℕ, zero, suc, ◌*◌, ◌<◌, Bool, true, false, List, [], ◌∷◌, ◌≡◌, refl, eqb, ltb, Float, length, set, Option, Some}
use Rattle.std.proofs.Common.{◌∙◌, ap, length-set, arith}
use Rattle.rules.specs.declared.Hub.{Hub}
use Rattle.rules.specs.declared.Event.{Event}
use Rattle.rules.specs.declared.EventForm.{EventForm}
use Rattle.rules.specs.declared.EventType.TheVariants.{Repeated}
use Rattle.rules.specs.declared.RawRecord.{RawRecord}
use Rattle.rules.specs.Names.{pad_limit, places_per_pad}
use Rattle.rules.specs.Forms.{read_event}
use Rattle.rules.specs.Refusals.{thresholds_refusal, record_refusal, form_refusal}
use Rattle.rules.specs.Events.{form_event}
use Rattle.rules.specs.Hub.{place_in, pressed_at}
use Rattle.rules.specs.Step.{updated_of, updated_at, record_kind, step_hub}
use Rattle.rules.specs.Calls.{fresh_hub, new_by, new_of, register_refusal, registered_at, register_by, register_as, form_place, update_form_by, update_by, update_of, counted_at, inc_of, reset_of}
use Rattle.theory_calls.specs.Reach as reach
use Rattle.theory_calls.specs.Reach.{Reached}
use Rattle.theory_history.specs.Lemmas.Marks.{all_same, cleared-length}
use Rattle.theory_history.specs.Lemmas.Steps.{Ready, set-down, step-ready, look, look_at}

-- a held button's repeat, as bytes
pub record Repeats (h : Hub) (bytes : List ℕ) : Type 0 where
  pub form : EventForm
  pub read : read_event bytes ≡ Some form
  pub name : ℕ
  pub code : ℕ
  pub is : (form_event form).event ≡ Repeated name code
  pub held : pressed_at h (place_in h (form_event form).pad code) ≡ true

-- a hub that is played, and the records that were taken, the newest first
pub data Played : Hub → List RawRecord → Type 0 where
  fresh : (pressed released : Float) (reversed : Bool) → thresholds_refusal pressed released ≡ 0
      → Played (new_of pressed released reversed true true).hub []
  register : {h : Hub} {rs : List RawRecord} (archived : Bool) (sheet : List ℕ) → Played h rs → Played (register_as archived h sheet).hub rs
  take : {h : Hub} {rs : List RawRecord} (r : RawRecord) → h.waiting ≡ 0 → record_refusal (look_at r) h.pads (record_kind h r) ≡ 0 → Played h rs
      → Played (step_hub h (look_at r)) (r ∷ rs)
  serve : {h : Hub} {rs : List RawRecord} → 0 < h.waiting → Played h rs → Played (step_hub h look) rs
  inc : {h : Hub} {rs : List RawRecord} → Played h rs → Played (inc_of h) rs
  reset : {h : Hub} {rs : List RawRecord} → Played h rs → Played (reset_of h) rs
  repeat : {h : Hub} {rs : List RawRecord} (bytes : List ℕ) → Repeats h bytes → Played h rs → Played (update_of h bytes).hub rs

-- such a hub is reached by the public calls
pub reached : {h : Hub} {rs : List RawRecord} → Played h rs → Reached h
reached (fresh pressed released reversed ok) = reach.new pressed released reversed true true
reached (register archived sheet w) = reach.register archived sheet (reached w)
reached (take r none ok w) = reach.step (look_at r) (reached w)
reached (serve some w) = reach.step look (reached w)
reached (inc w) = reach.inc (reached w)
reached (reset w) = reach.reset (reached w)
reached (repeat bytes is w) = reach.update bytes (reached w)

-- ---- filters and updates stay on, and no pad is renamed

fresh-ready : (pressed released : Float) (reversed : Bool) → Ready (fresh_hub pressed released reversed true true)
unfolding fresh_hub
fresh-ready pressed released reversed =
    record {
      filters = refl;
      updates = refl;
      long = record { hasbutton = refl; buttons = refl; hasaxis = refl };
      named = λ p. all_same pad_limit p false;
    }

new-ready : (number : ℕ) (pressed released : Float) (reversed : Bool) → number ≡ 0
    → Ready (new_by number (fresh_hub pressed released reversed true true)).hub
new-ready zero pressed released reversed e = fresh-ready pressed released reversed
new-ready (suc number) pressed released reversed e = absurd (omega arith)

register-ready : (number : ℕ) (h : Hub) (sheet : List ℕ) → Ready h → Ready (register_by number h sheet).hub
unfolding registered_at
register-ready zero h sheet w =
    record {
      filters = w.filters;
      updates = w.updates;
      long =
          record {
            hasbutton = cleared-length places_per_pad h.hasbutton (places_per_pad * h.pads) ∙ w.long.hasbutton;
            buttons = w.long.buttons;
            hasaxis = cleared-length places_per_pad h.hasaxis (places_per_pad * h.pads) ∙ w.long.hasaxis;
          };
      named = λ p. set-down h.renamed h.pads p (eqb p h.pads) (ltb h.pads (length h.renamed)) refl refl (w.named p);
    }
register-ready (suc number) h sheet w = w

update-ready : (h : Hub) (e : Event) → Ready h → Ready (updated_of true h e)
unfolding updated_of updated_at
update-ready h e w =
    record {
      filters = w.filters;
      updates = w.updates;
      long =
          record {
            hasbutton = length-set-of h.hasbutton _ _ ∙ w.long.hasbutton;
            buttons = length-set-of h.buttons _ _ ∙ w.long.buttons;
            hasaxis = length-set-of h.hasaxis _ _ ∙ w.long.hasaxis;
          };
      named = w.named;
    }
  where
    length-set-of : {A : Type 0} (xs : List A) (i : ℕ) (a : A) → length (set xs i a) ≡ length xs
    length-set-of xs i a = simp length-set

form-ready : (number : ℕ) (h : Hub) (f : EventForm) → Ready h → Ready (update_form_by number h f).hub
form-ready zero h f w = update-ready h (form_event f) w
form-ready (suc number) h f w = w

counted_ready : (h : Hub) (n : ℕ) → Ready h → Ready (counted_at h n)
unfolding counted_at
counted_ready h n w =
    record {
      filters = w.filters;
      updates = w.updates;
      long = record { hasbutton = w.long.hasbutton; buttons = w.long.buttons; hasaxis = w.long.hasaxis };
      named = w.named;
    }

-- what becomes of a repeat that is fed back
abbrev pub refusal : (h : Hub) (bytes : List ℕ) → Repeats h bytes → ℕ
refusal h bytes is = form_refusal is.form h.pads (form_place h is.form)

pub update-is : (h : Hub) (bytes : List ℕ) (is : Repeats h bytes) → (update_of h bytes).hub ≡ (update_form_by (refusal h bytes is) h is.form).hub
unfolding update_of
update-is h bytes is = ap (λ (r : Option EventForm). (update_by r h).hub) is.read

pub ready : {h : Hub} {rs : List RawRecord} → Played h rs → Ready h
unfolding new_of register_as inc_of reset_of
ready (fresh pressed released reversed ok) = new-ready (thresholds_refusal pressed released) pressed released reversed ok
ready (register {h} archived sheet w) = register-ready (register_refusal archived h.pads sheet) h sheet (ready w)
ready (take {h} r none ok w) = step-ready h (look_at r) (ready w)
ready (serve {h} some w) = step-ready h look (ready w)
ready (inc {h} w) = counted_ready h _ (ready w)
ready (reset {h} w) = counted_ready h 0 (ready w)
ready (repeat {h} bytes is w) = rw (update-is h bytes is) (form-ready (refusal h bytes is) h is.form (ready w))
