-- "The queue holds 64. It never overflows": for every hub that the public calls lead to, whatever they are given, what waits weighs at most 64, so at
-- most 64 events wait and each that is queued finds room. By induction on the calls.
use Prim.Native.Nat.{ℕ, zero, suc, ◌-◌, ◌<◌, ◌≤◌}
use Rattle.std.specs.Prelude.{Bool, true, false, cond, List, ◌++◌, ◌≡◌, refl, ltb, eqb, Float, length, get_or, None, Option, Some}
use Rattle.std.proofs.Common.{ap, ◌∙◌, arith, ltb-true, ltb-false}
use Rattle.std.proofs.lemmas.Bool.{eqb-false}
use Rattle.rules.specs.declared.Hub.{Hub}
use Rattle.rules.specs.declared.EventForm.{EventForm}
use Rattle.rules.specs.declared.NextRecord.{NextRecord}
use Rattle.rules.specs.Names.{insert_limit, queue_room}
use Rattle.rules.specs.Forms.{read_event}
use Rattle.rules.specs.Refusals.{thresholds_refusal, form_refusal, insert_refusal, unless_fits}
use Rattle.rules.specs.Events.{form_event}
use Rattle.rules.specs.Hub.{past_slot}
use Rattle.rules.specs.Step.{head_after, updated_at, updated_of, step_hub}
use Rattle.rules.specs.Calls.{fresh_hub, idle_hub, new_by, new_of, registered_at, register_refusal, register_by, register_as, renamed_at, rename_refusal, rename_by, rename_of, form_place, update_form_by, update_by, update_of, insert_form_by, insert_by, insert_of, counted_at, inc_of, reset_of}
use Rattle.theory_calls.specs.Waiting.{ring_list, waiting_list, Away, rest_of}
use Rattle.theory_calls.specs.Weight.{weigh}
use Rattle.theory_calls.specs.Queue.{Sound, sound-waiting, pushes_in, step-ring, others-stay, insert-sound}
use Rattle.theory_calls.specs.Reach.{Reached, new, register, rename, step, update, insert, inc, reset}
use Rattle.theory_calls.proofs.Queue.{nothing-lost, never-rises, at-most-four}

-- ---- a step keeps the ring sound

module _ (h : Hub) (l : NextRecord) (z : Sound h) where
  pub step-sound : Sound (step_hub h l)
  step-sound = record { ring = step-ring h l ∙ z.ring; light = by (ltb 0 h.waiting) refl }
    where
      by : (waits : Bool) → ltb 0 h.waiting ≡ waits → weigh (waiting_list (step_hub h l)) ≤ queue_room
      by true e =
          let most = z.light in
          omega (arith, never-rises h l z (ltb-true 0 h.waiting e))
      by false e =
          let empty = ltb-false 0 h.waiting e in
          let none : h.waiting ≡ 0 = omega arith in
          omega (arith, at-most-four h l z none)

-- ---- each call keeps the ring sound

-- a hub with the same queue is as sound
same_queue : (h g : Hub) → g.queue ≡ h.queue → g.head ≡ h.head → g.waiting ≡ h.waiting → Sound h → Sound g
unfolding waiting_list
same_queue h g q d w z = record { ring = ap length q ∙ z.ring; light = unfold waiting_list in rw (q, d, w) z.light }

fresh-sound : (pressed released : Float) (reversed filters updates : Bool) → Sound (fresh_hub pressed released reversed filters updates)
unfolding fresh_hub waiting_list ring_list weigh
fresh-sound pressed released reversed filters updates = record { ring = refl; light = omega arith }

new-sound : (number : ℕ) (h : Hub) → Sound h → Sound (new_by number h).hub
new-sound zero h z = z
new-sound (suc number) h z = unfold idle_hub in fresh-sound _ _ _ _ _

register-sound : (number : ℕ) (h : Hub) (sheet : List ℕ) → Sound h → Sound (register_by number h sheet).hub
unfolding registered_at
register-sound zero h sheet z = same_queue h _ refl refl refl z
register-sound (suc number) h sheet z = z

rename-sound : (number : ℕ) (h : Hub) (pad : ℕ) (list : List ℕ) → Sound h → Sound (rename_by number h pad list).hub
unfolding renamed_at
rename-sound zero h pad list z = same_queue h _ refl refl refl z
rename-sound (suc number) h pad list z = z

update-form-sound : (number : ℕ) (h : Hub) (f : EventForm) → Sound h → Sound (update_form_by number h f).hub
unfolding updated_of updated_at
update-form-sound zero h f z = same_queue h _ refl refl refl z
update-form-sound (suc number) h f z = z

update-sound : (r : Option EventForm) (h : Hub) → Sound h → Sound (update_by r h).hub
update-sound (Some f) h z = update-form-sound (form_refusal f h.pads (form_place h f)) h f z
update-sound None h z = z

-- an insert that is not refused found fewer than 16 waiting
few-by : (none few : Bool) (number : ℕ) → eqb number 0 ≡ none → cond none (unless_fits few 13) number ≡ 0 → few ≡ true
few-by true true number e z = refl
few-by true false number e z = absurd (omega arith)
few-by false few number e z = absurd (eqb-false number 0 e z)

few-waited : (f : EventForm) (pads place waiting : ℕ) → insert_refusal f pads place waiting ≡ 0 → waiting < insert_limit
unfolding insert_refusal
few-waited f pads place waiting z =
    ltb-true waiting insert_limit (few-by (eqb (form_refusal f pads place) 0) (ltb waiting insert_limit) (form_refusal f pads place) refl z)

insert-form-sound : (number : ℕ) (h : Hub) (f : EventForm) → insert_refusal f h.pads (form_place h f) h.waiting ≡ number → Sound h
    → Sound (insert_form_by number h f).hub
insert-form-sound zero h f e z = insert-sound h (form_event f) z.ring (few-waited f h.pads (form_place h f) h.waiting e)
insert-form-sound (suc number) h f e z = z

insert-call-sound : (r : Option EventForm) (h : Hub) → Sound h → Sound (insert_by r h).hub
insert-call-sound (Some f) h z = insert-form-sound (insert_refusal f h.pads (form_place h f) h.waiting) h f refl z
insert-call-sound None h z = z

-- ---- every hub that is reached

pub reached-sound : {h : Hub} → Reached h → Sound h
unfolding new_of register_as rename_of update_of insert_of inc_of reset_of counted_at
reached-sound (new pressed released reversed filters updates) =
    new-sound (thresholds_refusal pressed released) _ (fresh-sound pressed released reversed filters updates)
reached-sound (register {h} archived sheet w) = register-sound (register_refusal archived h.pads sheet) h sheet (reached-sound w)
reached-sound (rename {h} pad list w) = rename-sound (rename_refusal h pad list) h pad list (reached-sound w)
reached-sound (step {h} l w) = step-sound h l (reached-sound w)
reached-sound (update {h} event w) = update-sound (read_event event) h (reached-sound w)
reached-sound (insert {h} event w) = insert-call-sound (read_event event) h (reached-sound w)
reached-sound (inc {h} w) = same_queue h _ refl refl refl (reached-sound w)
reached-sound (reset {h} w) = same_queue h _ refl refl refl (reached-sound w)

-- ---- 01's sentences

-- "The queue holds 64. It never overflows": the weighted sum
pub never-overflows : {h : Hub} → Reached h → weigh (waiting_list h) ≤ 64
never-overflows w = (reached-sound w).light

-- at most 64 wait
pub waiting-small : {h : Hub} → Reached h → h.waiting ≤ 64
waiting-small {h} w = sound-waiting h (reached-sound w)

-- no event is ever lost: after a step there waits what waited behind the event taken, then all that the step queued
pub reached-keeps : {h : Hub} (l : NextRecord) → Reached h → waiting_list (step_hub h l) ≡ rest_of h ++ pushes_in h l
reached-keeps {h} l w = nothing-lost h l (reached-sound w)

-- nor does one move: a slot that is none of the next places behind those that wait, as many as the step queues, holds what it held
pub reached-stays : {h : Hub} (l : NextRecord) → Reached h → (k : ℕ)
    → Away (head_after h.head h.waiting) (h.waiting - 1) (length (pushes_in h l)) k
    → get_or (step_hub h l).queue k past_slot ≡ get_or h.queue k past_slot
reached-stays {h} l w = others-stay h l (reached-sound w)
