-- The pump: steps until Drained, Full or Paused, or until a record is refused; and what it answers, writes and leaves. Definitions only.
use Rattle.std.specs.Prelude.{ℕ, zero, suc, ◌+◌, ◌-◌, ◌*◌, Bool, true, false, cond, ◌&&◌, List, ◌++◌, length, take, drop, eqb, ltb}
use Rattle.rules.specs.declared.Hub.{Hub}
use Rattle.rules.specs.declared.Event.{Event}
use Rattle.rules.specs.declared.NextRecord.{NextRecord}
use Rattle.rules.specs.declared.Pumped.{Pumped}
use Rattle.rules.specs.declared.PumpAnswer.{PumpAnswer}
use Rattle.rules.specs.declared.PumpAnswer.TheVariants as pump_answer
use Rattle.rules.specs.Forms.{record_size, event_size}
use Rattle.rules.specs.Refusals.{pump_refusal}
use Rattle.rules.specs.Places.{one_if}
use Rattle.rules.specs.Events.{event_bytes}
use Rattle.rules.specs.Filters.{kept_of}
use Rattle.rules.specs.Step.{next_record_of, step_refusal, step_event, step_hub}

-- where a pump stands: the hub, its place in the batch, the out buffer, the events written and the steps made
pub record Progress : Type 0 where
  pub hub : Hub
  pub at : ℕ
  pub out : List ℕ
  pub events : ℕ
  pub steps : ℕ

-- what a pump leaves: its answer with the hub, and every byte of the out buffer
pub record Run : Type 0 where
  pub pumped : Pumped
  pub out : List ℕ

-- ---- before each step

abbrev pub go_on : ℕ
go_on = 0

abbrev pub drained : ℕ
drained = 1

abbrev pub full : ℕ
full = 2

abbrev pub paused : ℕ
paused = 3

-- "queue empty and batch used up gives Drained; under 22 bytes of out left gives Full; allowance spent gives Paused"
unfoldable pub stop_of : ℕ → ℕ → ℕ → ℕ → ℕ
stop_of waiting rest room left =
    cond (eqb waiting 0 && eqb rest 0) drained (cond (ltb room event_size) full (cond (eqb left 0) paused go_on))

-- to go on, to stop for a reason, or to refuse the next record
pub data Verdict : Type 0 where
  going : Verdict
  stopping : ℕ → Verdict
  refusing : ℕ → Verdict

abbrev pub verdict_by : ℕ → ℕ → Verdict
verdict_by zero zero = going
verdict_by zero (suc number) = refusing (suc number)
verdict_by (suc why) refusal = stopping (suc why)

-- left: what is left of the allowance
unfoldable pub verdict_of : ℕ → List ℕ → Progress → Verdict
unfolding stop_of step_refusal next_record_of
verdict_of left s p =
    verdict_by (stop_of p.hub.waiting (length s - p.at) (length p.out - event_size * p.events) left)
    (step_refusal p.hub (next_record_of p.hub.waiting s p.at))

-- ---- a step

-- "Each event goes into the out buffer's part starting at 22 times the events already written"; "Bytes past the written events stay"
unfoldable pub out_after : List ℕ → ℕ → Event → List ℕ
unfolding event_bytes
out_after out n e = take (event_size * n) out ++ (event_bytes e ++ drop event_size (drop (event_size * n) out))

-- a record was taken where nothing waited
unfoldable pub place_after : ℕ → ℕ → ℕ
place_after waiting at = cond (ltb 0 waiting) at (at + record_size)

unfoldable pub stepped_by : Progress → NextRecord → Progress
unfolding step_hub step_event place_after out_after kept_of
stepped_by p l =
    record {
      hub = step_hub p.hub l;
      at = place_after p.hub.waiting p.at;
      out = cond (kept_of p.hub.filters (step_event p.hub l)) (out_after p.out p.events (step_event p.hub l)) p.out;
      events = p.events + one_if (kept_of p.hub.filters (step_event p.hub l));
      steps = p.steps + 1;
    }

unfoldable pub stepped : List ℕ → Progress → Progress
unfolding stepped_by next_record_of
stepped s p = stepped_by p (next_record_of p.hub.waiting s p.at)

-- ---- the run

abbrev pub stop_answer : ℕ → ℕ → ℕ → ℕ → PumpAnswer
stop_answer why place events steps =
    pick (eqb why drained) (eqb why full)
  where
    pick : Bool → Bool → PumpAnswer
    pick true b = pump_answer.Drained place events steps
    pick false true = pump_answer.Full place events steps
    pick false false = pump_answer.Paused place events steps

abbrev pub ended : PumpAnswer → Progress → Run
ended a p = record { pumped = record { hub = p.hub; answer = a }; out = p.out }

-- how a pump ends that does not go on
abbrev pub ended_by : Verdict → Progress → Run
ended_by going p = ended (pump_answer.Paused p.at p.events p.steps) p
ended_by (stopping why) p = ended (stop_answer why p.at p.events p.steps) p
ended_by (refusing number) p = ended (pump_answer.Refused number p.at p.events p.steps) p

-- at most `left` steps; the verdict on where the pump stands is an argument, so that the checker computes no step that is not made
unfoldable pub run_of : ℕ → Verdict → List ℕ → Progress → Run
unfolding verdict_of stepped
run_of zero v s p = ended_by v p
run_of (suc left) going s p = run_of left (verdict_of left s (stepped s p)) s (stepped s p)
run_of (suc left) (stopping why) s p = ended_by (stopping why) p
run_of (suc left) (refusing number) s p = ended_by (refusing number) p

-- ---- the call: "14 comes first, then 8 for a place past the end, both with the place given and no events or steps"

abbrev pub start_of : Hub → ℕ → List ℕ → Progress
start_of h place out = record { hub = h; at = place; out = out; events = 0; steps = 0 }

abbrev pub pump_by : ℕ → Hub → List ℕ → ℕ → List ℕ → ℕ → Run
pump_by zero h s place out allowance = run_of allowance (verdict_of allowance s (start_of h place out)) s (start_of h place out)
pump_by (suc number) h s place out allowance = ended (pump_answer.Refused (suc number) place 0 0) (start_of h place out)

unfoldable pub pump_of : Hub → List ℕ → ℕ → List ℕ → ℕ → Run
unfolding run_of verdict_of pump_refusal
pump_of h s place out allowance = pump_by (pump_refusal (length s) (length out) place) h s place out allowance
