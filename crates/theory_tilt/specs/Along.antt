-- Events and state do not change (W-205): a pump that notes the report as it goes, in one walk, makes the run of `Pump.antt` (and reports what `pump_tilt` says:
-- `tilt-is` of `proofs/Along`). By one induction over what is left of the allowance, since a step writes the report and reads nothing of it.
use Rattle.std.specs.Prelude.{ℕ, zero, suc, List, ◌≡◌, refl, length}
use Rattle.numbers.specs.declared.Tilt.{Tilt}
use Rattle.numbers.specs.declared.Tilt.TheVariants.{Unmet}
use Rattle.rules.specs.declared.Hub.{Hub}
use Rattle.rules.specs.declared.PumpAnswer.TheVariants.{Refused}
use Rattle.rules.specs.Refusals.{pump_refusal}
use Rattle.rules.specs.Step.{next_record_of}
use Rattle.rules.specs.Pump.{Progress, Run, Verdict, going, stopping, refusing, verdict_of, stepped, ended, ended_by, run_of, start_of, pump_by, pump_of}
use Rattle.rules.specs.Tilt.{latest, step_met, noted}

-- ---- the pump with the report inside

-- where it stands: where the pump does, and what was noted last
pub record Noting : Type 0 where
  pub progress : Progress
  pub tilt : Tilt

-- what it leaves
pub record Report : Type 0 where
  pub run : Run
  pub tilt : Tilt

-- a step notes what it meets, with the hub before it
unfoldable pub noting_step : List ℕ → Noting → Noting
noting_step s n =
    record {
      progress = stepped s n.progress;
      tilt = latest (step_met n.progress.hub (next_record_of n.progress.hub.waiting s n.progress.at)) n.tilt;
    }

abbrev pub reported : Verdict → Noting → Report
reported v n = record { run = ended_by v n.progress; tilt = n.tilt }

unfoldable pub noting_run : ℕ → Verdict → List ℕ → Noting → Report
unfolding verdict_of noting_step
noting_run zero v s n = reported v n
noting_run (suc left) going s n = noting_run left (verdict_of left s (noting_step s n).progress) s (noting_step s n)
noting_run (suc left) (stopping why) s n = reported (stopping why) n
noting_run (suc left) (refusing number) s n = reported (refusing number) n

abbrev pub beginning : Hub → ℕ → List ℕ → Noting
beginning h place out = record { progress = start_of h place out; tilt = Unmet }

abbrev pub noting_by : ℕ → Hub → List ℕ → ℕ → List ℕ → ℕ → Report
noting_by zero h s place out allowance = noting_run allowance (verdict_of allowance s (start_of h place out)) s (beginning h place out)
noting_by (suc number) h s place out allowance = record { run = ended (Refused (suc number) place 0 0) (start_of h place out); tilt = Unmet }

unfoldable pub noting_of : Hub → List ℕ → ℕ → List ℕ → ℕ → Report
unfolding noting_run verdict_of pump_refusal
noting_of h s place out allowance = noting_by (pump_refusal (length s) (length out) place) h s place out allowance

-- ---- its run

same-run : (left : ℕ) (v : Verdict) (s : List ℕ) (n : Noting) → (noting_run left v s n).run ≡ run_of left v s n.progress
unfolding noting_run noting_step run_of
same-run zero v s n = refl
same-run (suc left) going s n = same-run left (verdict_of left s (stepped s n.progress)) s (noting_step s n)
same-run (suc left) (stopping why) s n = refl
same-run (suc left) (refusing number) s n = refl

-- the run without its report is the run
pub run-stays : (h : Hub) (s : List ℕ) (place : ℕ) (out : List ℕ) (allowance : ℕ) → (noting_of h s place out allowance).run ≡ pump_of h s place out allowance
unfolding noting_of pump_of
run-stays h s place out allowance = by (pump_refusal (length s) (length out) place)
  where
    by : (number : ℕ) → (noting_by number h s place out allowance).run ≡ pump_by number h s place out allowance
    by zero = same-run allowance (verdict_of allowance s (start_of h place out)) s (beginning h place out)
    by (suc number) = refl

-- ---- its report

-- what a step notes is what the law book notes of it
pub step-notes : (s : List ℕ) (n : Noting) → (noting_step s n).tilt ≡ noted s n.progress n.tilt
unfolding noting_step noted
step-notes s n = refl
