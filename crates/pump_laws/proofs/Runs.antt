-- Where a run goes on, it makes a step more: the law of `specs/Runs.antt` that counts on the room for an event (`roomy`). By the verdict, which is then `going`.
use Rattle.std.specs.Prelude.{ℕ, suc, ◌-◌, ◌*◌, ◌≤◌, ◌≡◌, List, length}
use Rattle.std.proofs.Math.Path.{refl, ap}
use Rattle.std.proofs.Common.{sym, ◌∙◌, arith}
use Rattle.numbers.specs.declared.Tilt.{Tilt}
use Rattle.rules.specs.declared.Hub.{Hub}
use Rattle.rules.specs.Forms.{event_size}
use Rattle.rules.specs.Step.{next_record_of, step_refusal}
use Rattle.rules.specs.Pump.{Progress, going, verdict_by, stop_of, stepped, run_of}
use Rattle.rules.specs.Tilt.{noted, tilt_run}
use Rattle.pump_laws.specs.Runs.{standing, run_by, rest, goes, roomy, verdict-is, by-verdict}

module _ (h : Hub) (s : List ℕ) (at : ℕ) (out : List ℕ) (events steps left : ℕ) (before : Tilt) {why : ℕ}
    (stop : why ≡ stop_of h.waiting (length s - at) (length out - event_size * events) left) where
  abbrev here : Progress
  here = standing h at out events steps

  module _ {number : ℕ} (z : why ≤ 0) (refusal : number ≡ step_refusal h (next_record_of h.waiting s at)) where
    goes_on : (k : ℕ) (p : Progress) → run_by (suc k) going s p before ≡ rest k s (stepped s p) (noted s p before)
    unfolding run_of tilt_run
    goes_on k p = refl

    -- a step more
    pub run-goes :
        {p : Progress} {tilt : Tilt} →
        number ≤ 0 →
        p ≡ stepped s here →
        tilt ≡ noted s here before →
        rest left s here before ≡ rest (left - 1) s p tilt
    run-goes {p} y e met =
        let g = roomy h.waiting (length s - at) (length out - event_size * events) left stop z in
        let k : left ≡ suc (left - 1) = omega arith in
        rw (e, met)
        (by-verdict h s at out events steps left before stop (verdict-is h s at out events steps left before stop ∙ ap (verdict_by why) (sym refusal) ∙ goes why number z y)
        ∙ ap (λ (n : ℕ). run_by n going s here before) k
        ∙ goes_on (left - 1) here)
