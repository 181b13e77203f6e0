-- W-213 on the hub: "It must equal the fresh count over the records after every call". Every step keeps the summary, and every hub that the public calls reach has
-- it, wherever a pump stopped. By induction on the calls.
use Rattle.std.specs.Prelude.{ℕ, zero, suc, ◌+◌, ◌*◌, Bool, true, false, List, ◌≡◌, Float, None, Option, Some}
use Rattle.std.proofs.Math.Path.{refl}
use Rattle.std.proofs.Common.{arith}
use Rattle.rules.specs.declared.Hub.{Hub}
use Rattle.rules.specs.declared.NextRecord.{NextRecord}
use Rattle.rules.specs.declared.EventForm.{EventForm}
use Rattle.rules.specs.Names.{pad_limit, places_per_pad, nowhere}
use Rattle.rules.specs.Forms.{read_event}
use Rattle.rules.specs.Refusals.{thresholds_refusal, form_refusal, insert_refusal}
use Rattle.rules.specs.Events.{form_event}
use Rattle.rules.specs.State.{read_pressed}
use Rattle.rules.specs.Hub.{pressed_at}
use Rattle.rules.specs.Step.{step_hub}
use Rattle.rules.specs.Pump.{pump_of}
use Rattle.rules.specs.Calls.{fresh_hub, idle_hub, new_by, new_of, register_refusal, register_by, register_as, renamed_at, rename_refusal, rename_by, rename_of, form_place, update_form_by, update_by, update_of, inserted_at, insert_form_by, insert_by, insert_of, counted_at, inc_of, reset_of}
use Rattle.theory_calls.specs.Reach.{Reached, new, register, rename, step, update, insert, inc, reset, pump-keeps}
use Rattle.theory_history.specs.Lemmas.Marks.{all_same}
use Rattle.theory_registered.specs.Columns.{accepted, either-taken}
use Rattle.theory_down.specs.Summed.{Summed, reads_on, axis_on, OnPad, by-pads, on-pad, sums-alike, sums_none}
use Rattle.theory_down.proofs.Stages.{Whole, Placed, Good, updated-good, updated-placed}
use Rattle.theory_down.proofs.Cleared.{Same, same_good, same-placed, step-good, step-placed, registered-good, registered-placed}

-- ---- a step keeps it, on any hub whose arrays have their lengths; so does a pump, wherever it stops

pub step-summed : (h : Hub) (l : NextRecord) → Whole h → Summed h → Summed (step_hub h l)
step-summed h l whole w = by-pads (step_hub h l) (step-good h l (record { whole = whole; pads = on-pad h w })).pads

pub pump-summed : (h : Hub) (batch : List ℕ) (place : ℕ) (out : List ℕ) (allowance : ℕ) → Whole h → Summed h
    → Summed (pump_of h batch place out allowance).pumped.hub
pump-summed h batch place out allowance whole w =
    by-pads _ (pump-keeps Good step-good h batch place out allowance (record { whole = whole; pads = on-pad h w })).pads

-- ---- what each call keeps

pub record Kept (h : Hub) : Type 0 where
  pub good : Good h
  pub placed : Placed h

same_kept : (h g : Hub) → Same h g → Kept h → Kept g
same_kept h g s w = record { good = same_good h g s w.good; placed = same-placed h g s w.placed }

-- nothing is down on a fresh hub, and no pad is registered
module _ (pressed released : Float) (reversed filters updates : Bool) where
  abbrev fresh : Hub
  fresh = fresh_hub pressed released reversed filters updates

  none : (i : ℕ) → pressed_at fresh i ≡ false
  unfolding fresh_hub pressed_at read_pressed
  none i = rw (all_same nowhere i false)

  fresh-pad : (p : ℕ) → OnPad fresh p
  unfolding fresh_hub
  fresh-pad p =
      sums-alike (all_same pad_limit p 0) (all_same pad_limit p 0) (all_same pad_limit p 0) (λ k short. refl) (λ k short. refl)
      (sums_none (λ k. reads_on fresh p k) (λ k. axis_on fresh p k) (λ k short. none (places_per_pad * p + k)))

  fresh_kept : Kept fresh
  unfolding fresh_hub
  fresh_kept =
      record {
        good =
            record {
              whole = record { hasbutton = refl; buttons = refl; down = refl; held = refl; heldaxes = refl };
              pads = λ p few. fresh-pad p;
            };
        placed = record { found = λ i inside registered reads. absurd (omega arith) };
      }

new-kept : (number : ℕ) (h : Hub) → Kept h → Kept (new_by number h).hub
unfolding idle_hub
new-kept zero h w = w
new-kept (suc number) h w = fresh_kept _ _ _ _ _

register-kept : (archived : Bool) (h : Hub) (sheet : List ℕ) → Kept h → (number : ℕ) → register_refusal archived h.pads sheet ≡ number
    → Kept (register_by number h sheet).hub
register-kept archived h sheet w zero e =
    let few = (accepted h.pads sheet (either-taken archived h.pads sheet e)).0 in
    record { good = registered-good h sheet few w.good; placed = registered-placed h sheet few w.good.whole w.placed }
register-kept archived h sheet w (suc number) e = w

rename-kept : (number : ℕ) (h : Hub) (pad : ℕ) (list : List ℕ) → Kept h → Kept (rename_by number h pad list).hub
unfolding renamed_at
rename-kept zero h pad list w = same_kept h _ refl w
rename-kept (suc number) h pad list w = w

step_kept : (h : Hub) (l : NextRecord) → Kept h → Kept (step_hub h l)
step_kept h l w = record { good = step-good h l w.good; placed = step-placed h l w.good.whole w.placed }

update-kept : (r : Option EventForm) (h : Hub) → Kept h → Kept (update_by r h).hub
update-kept (Some f) h w = by (form_refusal f h.pads (form_place h f))
  where
    by : (number : ℕ) → Kept (update_form_by number h f).hub
    by zero =
        record { good = updated-good true h (form_event f) w.good; placed = updated-placed true h (form_event f) w.good.whole w.placed }
    by (suc number) = w
update-kept None h w = w

insert-kept : (r : Option EventForm) (h : Hub) → Kept h → Kept (insert_by r h).hub
unfolding inserted_at
insert-kept (Some f) h w = by (insert_refusal f h.pads (form_place h f) h.waiting)
  where
    by : (number : ℕ) → Kept (insert_form_by number h f).hub
    by zero = same_kept h _ refl w
    by (suc number) = w
insert-kept None h w = w

counted-kept : (h : Hub) (n : ℕ) → Kept h → Kept (counted_at h n)
unfolding counted_at
counted-kept h n w = same_kept h _ refl w

-- ---- every hub that is reached

pub reached-kept : {h : Hub} → Reached h → Kept h
unfolding new_of register_as rename_of update_of insert_of inc_of reset_of
reached-kept (new pressed released reversed filters updates) =
    new-kept (thresholds_refusal pressed released) _ (fresh_kept pressed released reversed filters updates)
reached-kept (register {h} archived sheet w) = register-kept archived h sheet (reached-kept w) (register_refusal archived h.pads sheet) refl
reached-kept (rename {h} pad list w) = rename-kept (rename_refusal h pad list) h pad list (reached-kept w)
reached-kept (step {h} l w) = step_kept h l (reached-kept w)
reached-kept (update {h} event w) = update-kept (read_event event) h (reached-kept w)
reached-kept (insert {h} event w) = insert-kept (read_event event) h (reached-kept w)
reached-kept (inc {h} w) = counted-kept h _ (reached-kept w)
reached-kept (reset {h} w) = counted-kept h 0 (reached-kept w)

-- "It must equal the fresh count over the records after every call"
pub reached-summed : {h : Hub} → Reached h → Summed h
reached-summed {h} w = by-pads h (reached-kept w).good.pads

-- and the arrays have their lengths
pub reached-whole : {h : Hub} → Reached h → Whole h
reached-whole w = (reached-kept w).good.whole
