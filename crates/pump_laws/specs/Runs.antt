-- How a run goes from where it stands, and its report with it (W-205): it stops, it refuses the next record, or it makes a step. By the verdict, which the code
-- works out in two tests.
use Rattle.std.specs.Prelude.{ℕ, zero, suc, ◌-◌, ◌*◌, ◌≤◌, ◌<◌, ◌≡◌, Bool, true, false, cond, ◌&&◌, ◌||◌, List, length, eqb, ltb}
use Rattle.std.proofs.Math.Path.{refl, ap}
use Rattle.std.proofs.Common.{sym, ◌∙◌, arith, ltb-false}
use Rattle.numbers.specs.declared.Tilt.{Tilt}
use Rattle.numbers.specs.declared.Tilt.TheVariants.{Unmet}
use Rattle.rules.specs.declared.Hub.{Hub}
use Rattle.rules.specs.declared.Pumped.{Pumped}
use Rattle.rules.specs.declared.PumpAnswer.{PumpAnswer}
use Rattle.rules.specs.declared.PumpAnswer.TheVariants as pump_answer
use Rattle.rules.specs.Names.{buffer_limit}
use Rattle.rules.specs.Forms.{event_size}
use Rattle.rules.specs.Refusals.{pump_refusal}
use Rattle.rules.specs.Step.{next_record_of, step_refusal}
use Rattle.rules.specs.Pump.{Progress, Run, Verdict, going, stopping, refusing, verdict_by, verdict_of, stop_of, stop_answer, ended, ended_by, run_of, start_of, pump_by, pump_of}
use Rattle.rules.specs.Tilt.{tilt_run, pump_tilt_by, pump_tilt}

-- a run, and what is reported beside it
pub record Reported : Type 0 where
  pub run : Run
  pub tilt : Tilt

-- what a call leaves: its answer with the hub, the out buffer, and the report
abbrev pub leaves : Pumped → List ℕ → Tilt → Reported
leaves p out tilt = record { run = record { pumped = p; out = out }; tilt = tilt }

abbrev pub standing : Hub → ℕ → List ℕ → ℕ → ℕ → Progress
standing h at out events steps = record { hub = h; at = at; out = out; events = events; steps = steps }

abbrev pub run_by : ℕ → Verdict → List ℕ → Progress → Tilt → Reported
run_by left v s p before = record { run = run_of left v s p; tilt = tilt_run left v s p before }

-- the run that is left from where the pump stands, `before` being what was met so far
abbrev pub rest : ℕ → List ℕ → Progress → Tilt → Reported
rest left s p before = run_by left (verdict_of left s p) s p before

-- the whole call
abbrev pub call : Hub → List ℕ → ℕ → List ℕ → ℕ → Reported
call h s place out allowance = record { run = pump_of h s place out allowance; tilt = pump_tilt h s place out allowance }

-- run and report, each by itself
pub each : {r q : Reported} → r ≡ q → (r.run ≡ q.run) × (r.tilt ≡ q.tilt)
each e = (ap (λ (r : Reported). r.run) e, ap (λ (r : Reported). r.tilt) e)

-- ---- the verdict

stops : (why refusal : ℕ) → 0 < why → verdict_by why refusal ≡ stopping why
stops zero refusal h = absurd (omega arith)
stops (suc why) refusal h = refl

refuses : (why refusal : ℕ) → why ≤ 0 → 0 < refusal → verdict_by why refusal ≡ refusing refusal
refuses zero zero z h = absurd (omega arith)
refuses zero (suc number) z h = refl
refuses (suc why) refusal z h = absurd (omega arith)

pub goes : (why refusal : ℕ) → why ≤ 0 → refusal ≤ 0 → verdict_by why refusal ≡ going
goes zero zero z h = refl
goes zero (suc number) z h = absurd (omega arith)
goes (suc why) refusal z h = absurd (omega arith)

ends-stopping :
    (left why : ℕ) (s : List ℕ) (p : Progress) (before : Tilt) →
    run_by left (stopping why) s p before ≡ record { run = ended_by (stopping why) p; tilt = before }
unfolding run_of tilt_run
ends-stopping zero why s p before = refl
ends-stopping (suc left) why s p before = refl

ends-refusing :
    (left number : ℕ) (s : List ℕ) (p : Progress) (before : Tilt) →
    run_by left (refusing number) s p before ≡ record { run = ended_by (refusing number) p; tilt = before }
unfolding run_of tilt_run
ends-refusing zero number s p before = refl
ends-refusing (suc left) number s p before = refl

-- ---- where a stop is answered, and where none is

-- where no stop is answered there is room for an event and a step left
pub record Roomy (room left : ℕ) : Type 0 where
  pub room-left : event_size ≤ room
  pub step_left : 0 < left

no_stop : (a b c : Bool) → cond a 1 (cond b 2 (cond c 3 0)) ≤ 0 → (b ≡ false) × (c ≡ false)
no_stop false false false h = (refl, refl)
no_stop true b c h = absurd (omega arith)
no_stop false true c h = absurd (omega arith)
no_stop false false true h = absurd (omega arith)

some_left : (left : ℕ) → eqb left 0 ≡ false → 0 < left
some_left zero e = absurd (let z : ◌≡◌ {A = ℕ} 0 1 = ap (λ (b : Bool). cond b 0 1) e in omega arith)
some_left (suc left) e = omega arith

pub roomy : (waiting more room left : ℕ) {why : ℕ} → why ≡ stop_of waiting more room left → why ≤ 0 → Roomy room left
unfolding stop_of
roomy waiting more room left e z =
    let g = no_stop (eqb waiting 0 && eqb more 0) (ltb room event_size) (eqb left 0) (rw e at z) in
    record { room-left = ltb-false room event_size g.0; step_left = some_left left g.1 }

-- ---- the laws of a run

module _ (h : Hub) (s : List ℕ) (at : ℕ) (out : List ℕ) (events steps left : ℕ) (before : Tilt) {why : ℕ}
    (stop : why ≡ stop_of h.waiting (length s - at) (length out - event_size * events) left) where
  abbrev here : Progress
  here = standing h at out events steps

  -- the verdict, by the reason that the code worked out
  pub verdict-is : verdict_of left s here ≡ verdict_by why (step_refusal h (next_record_of h.waiting s at))
  unfolding verdict_of
  verdict-is = rw stop

  pub by-verdict : {v : Verdict} → verdict_of left s here ≡ v → rest left s here before ≡ run_by left v s here before
  by-verdict e = ap (λ (v : Verdict). run_by left v s here before) e

  pub run-stops : {a : PumpAnswer} → 0 < why → a ≡ stop_answer why at events steps → leaves (record { hub = h; answer = a }) out before ≡ rest left s here before
  run-stops p e =
      rw e
      (sym (by-verdict (verdict-is ∙ stops why (step_refusal h (next_record_of h.waiting s at)) p) ∙ ends-stopping left why s here before))

  module _ {number : ℕ} (z : why ≤ 0) (refusal : number ≡ step_refusal h (next_record_of h.waiting s at)) where
    pub run-refuses :
        0 < number → leaves (record { hub = h; answer = pump_answer.Refused number at events steps }) out before ≡ rest left s here before
    run-refuses p =
        sym
        (by-verdict (verdict-is ∙ ap (verdict_by why) (sym refusal) ∙ refuses why number z p) ∙ ends-refusing left number s here before)

-- ---- the call

-- what a call that is not refused may count on
pub record Accepted (batch out place : ℕ) : Type 0 where
  pub batch-small : batch ≤ buffer_limit
  pub out-small : out ≤ buffer_limit
  pub place-small : place ≤ batch

not-refused : (a b c : Bool) → cond (a || b) 14 (cond c 8 0) ≤ 0 → (a ≡ false) × (b ≡ false) × (c ≡ false)
not-refused false false false h = (refl, refl, refl)
not-refused true b c h = absurd (omega arith)
not-refused false true c h = absurd (omega arith)
not-refused false false true h = absurd (omega arith)

pub accepted : (batch out place : ℕ) {number : ℕ} → number ≡ pump_refusal batch out place → number ≤ 0 → Accepted batch out place
unfolding pump_refusal
accepted batch out place e z =
    let g = not-refused (ltb buffer_limit batch) (ltb buffer_limit out) (ltb batch place) (rw e at z) in
    record {
      batch-small = ltb-false buffer_limit batch g.0;
      out-small = ltb-false buffer_limit out g.1;
      place-small = ltb-false batch place g.2;
    }

-- a call by its refusal's number
abbrev call_by : ℕ → Hub → List ℕ → ℕ → List ℕ → ℕ → Reported
call_by number h s place out allowance = record { run = pump_by number h s place out allowance; tilt = pump_tilt_by number h s place out allowance }

by_number :
    (number : ℕ) (h : Hub) (s : List ℕ) (place : ℕ) (out : List ℕ) (allowance : ℕ) →
    0 < number →
    call_by number h s place out allowance ≡ record { run = ended (pump_answer.Refused number place 0 0) (start_of h place out); tilt = Unmet }
by_number zero h s place out allowance p = absurd (omega arith)
by_number (suc number) h s place out allowance p = refl

by-none :
    (number : ℕ) (h : Hub) (s : List ℕ) (place : ℕ) (out : List ℕ) (allowance : ℕ) →
    number ≤ 0 →
    call_by number h s place out allowance ≡ rest allowance s (start_of h place out) Unmet
by-none zero h s place out allowance z = refl
by-none (suc number) h s place out allowance z = absurd (omega arith)

module _ (h : Hub) (s : List ℕ) (place : ℕ) (out : List ℕ) (allowance : ℕ) {number : ℕ} (e : number ≡ pump_refusal (length s) (length out) place) where
  call-by : call h s place out allowance ≡ call_by number h s place out allowance
  unfolding pump_of pump_tilt
  call-by = ap (λ (n : ℕ). call_by n h s place out allowance) (sym e)

  pub pump-refuses : 0 < number → leaves (record { hub = h; answer = pump_answer.Refused number place 0 0 }) out Unmet ≡ call h s place out allowance
  pump-refuses p = sym (call-by ∙ by_number number h s place out allowance p)

  pub pump-runs : number ≤ 0 → rest allowance s (standing h place out 0 0) Unmet ≡ call h s place out allowance
  pump-runs z = sym (call-by ∙ by-none number h s place out allowance z)
