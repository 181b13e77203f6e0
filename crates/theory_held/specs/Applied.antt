-- The events that were applied to the state: of one pad and code, since the pad's last Connected, or registration, the newest first. What the public calls
-- were given and answered decides it; the hub's columns of records do not. Definitions only.
use Rattle.std.specs.Prelude.{ℕ, zero, suc, Bool, true, false, cond, ◌&&◌, List, [], ◌∷◌, eqb, Err, None, Ok, Option, Result, Some}
use Rattle.rules.specs.declared.Hub.{Hub}
use Rattle.rules.specs.declared.Event.{Event}
use Rattle.rules.specs.declared.EventForm.{EventForm}
use Rattle.rules.specs.declared.NextRecord.{NextRecord}
use Rattle.rules.specs.declared.Refusal.{Refusal}
use Rattle.rules.specs.Forms.{read_event, kind_connected}
use Rattle.rules.specs.Refusals.{form_refusal}
use Rattle.rules.specs.Events.{code_of, form_event}
use Rattle.rules.specs.Step.{step_event}
use Rattle.rules.specs.Calls.{register_as, form_place}
use Rattle.theory_calls.specs.Reach.{Reached, new, register, rename, step, update, insert, inc, reset}

-- whether an event is of a pad and code
unfoldable pub concerns : ℕ → ℕ → Event → Bool
concerns p c e = eqb e.pad p && eqb (code_of e) c

-- one event more, where it is applied and of that pad and code
abbrev pub noted : Bool → ℕ → ℕ → Event → List Event → List Event
noted on p c e es = cond (on && concerns p c e) (e ∷ es) es

-- `update` applies the event that it reads, if it does not refuse it
abbrev pub fed_form : ℕ → EventForm → ℕ → ℕ → List Event → List Event
fed_form zero f p c es = noted true p c (form_event f) es
fed_form (suc number) f p c es = es

abbrev pub fed : Option EventForm → Hub → ℕ → ℕ → List Event → List Event
fed (Some f) h p c es = fed_form (form_refusal f h.pads (form_place h f)) f p c es
fed None h p c es = es

-- a pad begins anew where it is registered, and where its Connected is taken
abbrev pub joins : Result ℕ Refusal → ℕ → Bool
joins (Ok q) p = eqb q p
joins (Err e) p = false

abbrev pub connects : NextRecord → ℕ → Bool
connects l p = eqb l.raw.kind kind_connected && eqb l.raw.pad p

unfoldable pub applied_to : {h : Hub} → ℕ → ℕ → Reached h → List Event
unfolding concerns
applied_to p c (new pressed released reversed filters updates) = []
applied_to p c (register {h} archived sheet w) = cond (joins (register_as archived h sheet).answer p) [] (applied_to p c w)
applied_to p c (rename pad list w) = applied_to p c w
applied_to p c (step {h} l w) = noted h.updates p c (step_event h l) (cond (connects l p) [] (applied_to p c w))
applied_to p c (update {h} event w) = fed (read_event event) h p c (applied_to p c w)
applied_to p c (insert event w) = applied_to p c w
applied_to p c (inc w) = applied_to p c w
applied_to p c (reset w) = applied_to p c w
