-- The report is what the law book says (W-205): the pump of `specs/Along`, which notes the report as it goes, reports what `pump_tilt` says. By one induction over
-- what is left of the allowance, since a step notes what the law book notes of it.
use Rattle.std.specs.Prelude.{ℕ, zero, suc, List, ◌≡◌, refl, length}
use Rattle.std.proofs.Common.{◌∙◌, ap}
use Rattle.numbers.specs.declared.Tilt.{Tilt}
use Rattle.rules.specs.declared.Hub.{Hub}
use Rattle.rules.specs.Refusals.{pump_refusal}
use Rattle.rules.specs.Pump.{Verdict, going, stopping, refusing, verdict_of, stepped, start_of}
use Rattle.rules.specs.Tilt.{tilt_run, pump_tilt_by, pump_tilt}
use Rattle.theory_tilt.specs.Along.{Noting, beginning, noting_by, noting_of, noting_run, noting_step, step-notes}

-- ---- its report

same-tilt : (left : ℕ) (v : Verdict) (s : List ℕ) (n : Noting) → (noting_run left v s n).tilt ≡ tilt_run left v s n.progress n.tilt
unfolding noting_run tilt_run
same-tilt zero v s n = refl
same-tilt (suc left) going s n =
    same-tilt left (verdict_of left s (noting_step s n).progress) s (noting_step s n)
    ∙ ap (λ (t : Tilt). tilt_run left (verdict_of left s (stepped s n.progress)) s (stepped s n.progress) t) (step-notes s n)
same-tilt (suc left) (stopping why) s n = refl
same-tilt (suc left) (refusing number) s n = refl

pub tilt-is : (h : Hub) (s : List ℕ) (place : ℕ) (out : List ℕ) (allowance : ℕ) → (noting_of h s place out allowance).tilt ≡ pump_tilt h s place out allowance
unfolding noting_of pump_tilt
tilt-is h s place out allowance = by (pump_refusal (length s) (length out) place)
  where
    by : (number : ℕ) → (noting_by number h s place out allowance).tilt ≡ pump_tilt_by number h s place out allowance
    by zero = same-tilt allowance (verdict_of allowance s (start_of h place out)) s (beginning h place out)
    by (suc number) = refl
