-- "before the next is taken": the steps that what waits still needs serve it, each at most one event of it, and take no record. So where a pump made no more
-- steps than events waited, its place is the place given.
use Rattle.std.specs.Prelude.{ℕ, suc, ◌+◌, ◌-◌, ◌<◌, ◌≤◌, List, ◌≡◌, refl, length}
use Rattle.std.proofs.Common.{◌∙◌, ap, length-append, arith, lt-ltb}
use Rattle.rules.specs.declared.Hub.{Hub}
use Rattle.rules.specs.declared.NextRecord.{NextRecord}
use Rattle.rules.specs.Step.{next_record_of, step_hub}
use Rattle.rules.specs.Pump.{Progress, place_after, stepped_by, stepped, pump_of}
use Rattle.theory_calls.specs.Waiting.{rest_of, waiting-length, ring-length}
use Rattle.theory_calls.specs.Queue.{pushes_in}
use Rattle.theory_calls.specs.Reach.{Reached, step}
use Rattle.theory_calls.proofs.Reach.{reached-keeps}
use Rattle.theory_calls.specs.Machines.{said, place_said, steps_said}
use Rattle.theory_calls.specs.Runs.{Goes, pump-holds}

-- a step takes at most one of what waits
step_waits : (h : Hub) (l : NextRecord) → Reached h → h.waiting ≤ (step_hub h l).waiting + 1
unfolding rest_of
step_waits h l w =
    let kept = ap length (reached-keeps l w) ∙ length-append (rest_of h) (pushes_in h l) in
    let after = waiting-length (step_hub h l) in
    let rest : length (rest_of h) ≡ h.waiting - 1 = ring-length h.queue _ (h.waiting - 1) in
    omega arith

waited-place : (waiting at : ℕ) → 0 < waiting → place_after waiting at ≡ at
unfolding place_after
waited-place waiting at some = rw (lt-ltb 0 waiting some)

-- where a pump stands that began at a place while so many waited
record Serves (place waited : ℕ) (p : Progress) : Type 0 where
  reached : Reached p.hub
  stays : p.steps ≤ waited → p.at ≡ place
  waits : p.steps ≤ waited → waited ≤ p.steps + p.hub.waiting

serves_on : (s : List ℕ) (place waited left : ℕ) (p : Progress) → Goes (suc left) s p → Serves place waited p → Serves place waited (stepped s p)
unfolding stepped stepped_by
serves_on s place waited left p goes w =
    let l = next_record_of p.hub.waiting s p.at in
    record {
      reached = step l w.reached;
      stays =
          λ few.
          let old : p.steps ≤ waited = omega arith in
          waited-place p.hub.waiting p.at (omega (arith, w.waits old)) ∙ w.stays old;
      waits =
          λ few.
          let old : p.steps ≤ waited = omega arith in
          omega (arith, w.waits old, step_waits p.hub l w.reached);
    }

pub pump-before : (h : Hub) (s : List ℕ) (place : ℕ) (out : List ℕ) (allowance : ℕ) → Reached h
    → steps_said (said pump_of h s place out allowance) ≤ h.waiting → place_said (said pump_of h s place out allowance) ≡ place
pump-before h s place out allowance w few =
    (pump-holds s (Serves place h.waiting) (serves_on s place h.waiting) h place out allowance
    (record { reached = w; stays = λ none. refl; waits = λ none. omega arith })).stays few
