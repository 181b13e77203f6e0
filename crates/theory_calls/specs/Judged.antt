-- What is said of a call that is judged by a refusal: `judged`, for the pump `pump_judged`. (For each type of answer one law, that what an answer says is what is
-- judged: `proofs/Judged.antt`.) And no pump ends while it is to go on. By induction on its steps.
use Rattle.std.specs.Prelude.{ℕ, zero, suc, ◌-◌, ◌*◌, Bool, true, false, cond, ◌&&◌, List, [], ◌∷◌, ◌≡◌, refl, eqb, ltb, length, None, Option, Some}
use Rattle.std.proofs.Common.{◌∙◌, arith}
use Rattle.std.specs.Float.{binary32}
use Rattle.std.specs.Float.Ieee.{to_bits}
use Rattle.rules.specs.declared.Hub.{Hub}
use Rattle.rules.specs.declared.EventForm.{EventForm}
use Rattle.rules.specs.declared.ButtonData.{ButtonData}
use Rattle.rules.specs.declared.AxisData.{AxisData}
use Rattle.rules.specs.Forms.{event_size}
use Rattle.rules.specs.Refusals.{form_refusal, insert_refusal}
use Rattle.rules.specs.Step.{next_record_of, step_refusal}
use Rattle.rules.specs.Pump.{Progress, Verdict, going, stopping, refusing, drained, full, paused, stop_of, verdict_by, verdict_of}
use Rattle.rules.specs.Pump.{stepped, start_of}
use Rattle.rules.specs.Calls.{form_place}
use Rattle.rules.specs.Answers.{Said, served, refused, bit}

-- the refusal's number alone; where it is 0, the values
abbrev pub judged : ℕ → List ℕ → Said
judged zero values = served values
judged (suc number) values = refused (suc number) []

-- the values of what is there, and none of what is absent
abbrev pub present : Bool → List ℕ → List ℕ
present here values = cond here values []

-- ---- the values of a record

abbrev pub button_values : ButtonData → List ℕ
button_values b = to_bits binary32 b.value ∷ b.stamp ∷ b.counter ∷ bit b.pressed ∷ bit b.repeating ∷ b.since ∷ []

abbrev pub axis_values : AxisData → List ℕ
axis_values a = to_bits binary32 a.value ∷ a.stamp ∷ a.counter ∷ []

-- ---- update and insert_event: 8 for bytes that are no event, else what the event's fields give

abbrev pub event_refusal : (EventForm → ℕ) → Option EventForm → ℕ
event_refusal fields (Some f) = fields f
event_refusal fields None = 8

-- 6, 9, 11, 12
abbrev pub update_refusal : Hub → EventForm → ℕ
update_refusal h f = form_refusal f h.pads (form_place h f)

-- the same, then 13
abbrev pub queue_refusal : Hub → EventForm → ℕ
queue_refusal h f = insert_refusal f h.pads (form_place h f) h.waiting

-- ---- the pump

-- how and where a run ends
pub record Ending : Type 0 where
  pub verdict : Verdict
  pub progress : Progress

-- a run of at most `left` steps makes a step while the verdict is to go on
unfoldable pub ending_of : ℕ → Verdict → List ℕ → Progress → Ending
unfolding verdict_of stepped
ending_of zero v s p = record { verdict = v; progress = p }
ending_of (suc left) going s p = ending_of left (verdict_of left s (stepped s p)) s (stepped s p)
ending_of (suc left) (stopping why) s p = record { verdict = stopping why; progress = p }
ending_of (suc left) (refusing number) s p = record { verdict = refusing number; progress = p }

abbrev pub pump_ending : Hub → List ℕ → ℕ → List ℕ → ℕ → Ending
pump_ending h s place out allowance = ending_of allowance (verdict_of allowance s (start_of h place out)) s (start_of h place out)

-- "The answer holds reason, place, events written, and the number of steps made"; of a refused record "its place is answered with the events and steps
-- so far". No pump ends while it is to go on (`pump-stops`)
abbrev pub ending_says : Verdict → Progress → Said
ending_says going p = served (paused ∷ p.at ∷ p.events ∷ p.steps ∷ [])
ending_says (stopping why) p = served (why ∷ p.at ∷ p.events ∷ p.steps ∷ [])
ending_says (refusing number) p = refused number (p.at ∷ p.events ∷ p.steps ∷ [])

-- "14 comes first, then 8 for a place past the end, both with the place given and no events or steps"
abbrev pub pump_judged : ℕ → ℕ → Ending → Said
pump_judged zero place e = ending_says e.verdict e.progress
pump_judged (suc number) place e = refused (suc number) (place ∷ 0 ∷ 0 ∷ [])

-- with the allowance spent a pump is Paused at the latest
stopping-ends : (why : ℕ) → stopping why ≡ going → ⊥
stopping-ends why goes = let z : ◌≡◌ {A = ℕ} 0 1 = cc in omega arith

refusing-ends : (number : ℕ) → refusing number ≡ going → ⊥
refusing-ends number goes = let z : ◌≡◌ {A = ℕ} 0 1 = cc in omega arith

spent-stops : (done short : Bool) (refusal : ℕ) → verdict_by (cond done drained (cond short full paused)) refusal ≡ going → ⊥
spent-stops true short refusal = stopping-ends drained
spent-stops false true refusal = stopping-ends full
spent-stops false false refusal = stopping-ends paused

run-stops : (left : ℕ) (v : Verdict) (s : List ℕ) (p : Progress) → verdict_of left s p ≡ v → (ending_of left v s p).verdict ≡ going → ⊥
unfolding ending_of verdict_of stop_of
run-stops zero v s p is goes =
    spent-stops (eqb p.hub.waiting 0 && eqb (length s - p.at) 0) (ltb (length p.out - event_size * p.events) event_size)
    (step_refusal p.hub (next_record_of p.hub.waiting s p.at)) (is ∙ goes)
run-stops (suc left) going s p is goes = run-stops left (verdict_of left s (stepped s p)) s (stepped s p) refl goes
run-stops (suc left) (stopping why) s p is goes = stopping-ends why goes
run-stops (suc left) (refusing number) s p is goes = refusing-ends number goes

pub pump-stops : (h : Hub) (s : List ℕ) (place : ℕ) (out : List ℕ) (allowance : ℕ) → (pump_ending h s place out allowance).verdict ≡ going → ⊥
pump-stops h s place out allowance = run-stops allowance (verdict_of allowance s (start_of h place out)) s (start_of h place out) refl
