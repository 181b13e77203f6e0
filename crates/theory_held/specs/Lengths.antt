-- The columns of the state are as long as a fresh hub's on every hub that the public calls reach: a mark is set or taken off, and a record stored, where it stands.
use Rattle.std.specs.Prelude.{ℕ, zero, suc, ◌*◌, Bool, List, ◌≡◌, refl, Float, length, set, None, Option, Some}
use Rattle.std.proofs.Common.{◌∙◌, length-set}
use Rattle.rules.specs.declared.Hub.{Hub}
use Rattle.rules.specs.declared.Event.{Event}
use Rattle.rules.specs.declared.NextRecord.{NextRecord}
use Rattle.rules.specs.declared.EventForm.{EventForm}
use Rattle.rules.specs.Names.{places_per_pad}
use Rattle.rules.specs.Forms.{read_event}
use Rattle.rules.specs.Refusals.{thresholds_refusal, form_refusal, insert_refusal}
use Rattle.rules.specs.Events.{form_event}
use Rattle.rules.specs.Step.{marked_of, marks_cleared, filtered_hub, pushed_of, taken_of, updated_at, updated_of, step_event, step_hub}
use Rattle.rules.specs.Calls.{fresh_hub, idle_hub, new_by, new_of, registered_at, register_refusal, register_by, register_as, renamed_at, rename_refusal, rename_by, rename_of, form_place, update_form_by, update_by, update_of, inserted_at, insert_form_by, insert_by, insert_of, counted_at, inc_of, reset_of}
use Rattle.theory_calls.specs.Reach.{Reached, new, register, rename, step, update, insert, inc, reset}
use Rattle.theory_history.specs.Lemmas.Cells.{Long}
use Rattle.theory_history.specs.Lemmas.Marks.{cleared-length}

set-length : {A : Type 0} (xs : List A) (i : ℕ) (a : A) → length (set xs i a) ≡ length xs
set-length xs i a = simp length-set

-- a hub with the same columns
same-long : (h g : Hub) → g.hasbutton ≡ h.hasbutton → g.buttons ≡ h.buttons → g.hasaxis ≡ h.hasaxis → Long h → Long g
same-long h g marks records axes w = record { hasbutton = rw marks w.hasbutton; buttons = rw records w.buttons; hasaxis = rw axes w.hasaxis }

new-long : (number : ℕ) (pressed released : Float) (reversed filters updates : Bool)
    → Long (new_by number (fresh_hub pressed released reversed filters updates)).hub
unfolding fresh_hub idle_hub
new-long zero pressed released reversed filters updates = record { hasbutton = refl; buttons = refl; hasaxis = refl }
new-long (suc number) pressed released reversed filters updates = record { hasbutton = refl; buttons = refl; hasaxis = refl }

register-long : (number : ℕ) (h : Hub) (sheet : List ℕ) → Long h → Long (register_by number h sheet).hub
unfolding registered_at
register-long zero h sheet w =
    record {
      hasbutton = cleared-length places_per_pad h.hasbutton (places_per_pad * h.pads) ∙ w.hasbutton;
      buttons = w.buttons;
      hasaxis = cleared-length places_per_pad h.hasaxis (places_per_pad * h.pads) ∙ w.hasaxis;
    }
register-long (suc number) h sheet w = w

rename-long : (number : ℕ) (h : Hub) (pad : ℕ) (list : List ℕ) → Long h → Long (rename_by number h pad list).hub
unfolding renamed_at
rename-long zero h pad list w = same-long h _ refl refl refl w
rename-long (suc number) h pad list w = w

updated-long : (on : Bool) (h : Hub) (e : Event) → Long h → Long (updated_of on h e)
unfolding updated_of updated_at
updated-long on h e w =
    record {
      hasbutton = set-length h.hasbutton _ _ ∙ w.hasbutton;
      buttons = set-length h.buttons _ _ ∙ w.buttons;
      hasaxis = set-length h.hasaxis _ _ ∙ w.hasaxis;
    }

-- a step before it updates the state
pub taken-long : (h : Hub) (l : NextRecord) → Long h → Long (filtered_hub (marked_of h l.raw) (taken_of h l))
unfolding filtered_hub pushed_of marked_of
taken-long h l w =
    let n = marks_cleared l.raw.kind places_per_pad in
    record {
      hasbutton = cleared-length n h.hasbutton (places_per_pad * l.raw.pad) ∙ w.hasbutton;
      buttons = w.buttons;
      hasaxis = cleared-length n h.hasaxis (places_per_pad * l.raw.pad) ∙ w.hasaxis;
    }

update-long : (r : Option EventForm) (h : Hub) → Long h → Long (update_by r h).hub
update-long (Some f) h w = by (form_refusal f h.pads (form_place h f))
  where
    by : (number : ℕ) → Long (update_form_by number h f).hub
    by zero = updated-long _ h (form_event f) w
    by (suc number) = w
update-long None h w = w

insert-long : (r : Option EventForm) (h : Hub) → Long h → Long (insert_by r h).hub
unfolding inserted_at
insert-long (Some f) h w = by (insert_refusal f h.pads (form_place h f) h.waiting)
  where
    by : (number : ℕ) → Long (insert_form_by number h f).hub
    by zero = same-long h _ refl refl refl w
    by (suc number) = w
insert-long None h w = w

pub reached-long : {h : Hub} → Reached h → Long h
unfolding new_of register_as rename_of step_hub update_of insert_of inc_of reset_of counted_at
reached-long (new pressed released reversed filters updates) =
    new-long (thresholds_refusal pressed released) pressed released reversed filters updates
reached-long (register {h} archived sheet w) = register-long (register_refusal archived h.pads sheet) h sheet (reached-long w)
reached-long (rename {h} pad list w) = rename-long (rename_refusal h pad list) h pad list (reached-long w)
reached-long (step {h} l w) = updated-long h.updates _ (step_event h l) (taken-long h l (reached-long w))
reached-long (update {h} event w) = update-long (read_event event) h (reached-long w)
reached-long (insert {h} event w) = insert-long (read_event event) h (reached-long w)
reached-long (inc {h} w) = same-long h _ refl refl refl (reached-long w)
reached-long (reset {h} w) = same-long h _ refl refl refl (reached-long w)
