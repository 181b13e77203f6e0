-- The report in parts (W-205): a call that is allowed a + b steps reports what two calls do, one that is allowed a, and one that goes on where that ended and is
-- allowed b: the second's report, and the first's where the second has none. So nothing has to be kept from call to call. By the shift of `theory_calls`' Parts:
-- what was written and counted before moves neither verdict nor step, and what a step meets is told by the hub and the place alone.
use Prim.Native.Nat.{ℕ, zero, suc, ◌+◌, ◌*◌, ◌≤◌}
use Rattle.std.specs.Prelude.{List, ◌≡◌, length, take}
use Rattle.std.proofs.Math.Path.{refl, sym, ap}
use Rattle.std.proofs.Common.{◌∙◌, length-drop, take-append-drop, length-take-le, zero-add, suc-add, arith}
use Rattle.numbers.specs.declared.Tilt.{Tilt}
use Rattle.numbers.specs.declared.Tilt.TheVariants.{Unmet, Inside, Between, Full}
use Rattle.rules.specs.declared.Hub.{Hub}
use Rattle.rules.specs.Forms.{event_size}
use Rattle.rules.specs.Refusals.{pump_refusal}
use Rattle.rules.specs.Step.{next_record_of}
use Rattle.rules.specs.Pump.{Progress, Run, Verdict, going, stopping, refusing, verdict_of, stepped, run_of, start_of, pump_by, pump_of}
use Rattle.rules.specs.Tilt.{latest, step_met, noted, tilt_run, pump_tilt_by, pump_tilt}
use Rattle.theory_calls.specs.Machines.{place_said}
use Rattle.theory_calls.specs.Runs.{end_of, end_is}
use Rattle.theory_calls.specs.Room.{Stays, pump-stays}
use Rattle.theory_calls.specs.Parts.{unwritten, same-standing, behind, same-verdict, same_step, anew, some_left, lent-on}

-- ---- the latest of three

latest-assoc : (a b c : Tilt) → latest (latest a b) c ≡ latest a (latest b c)
latest-assoc Unmet b c = refl
latest-assoc Inside b c = refl
latest-assoc Between b c = refl
latest-assoc Full b c = refl

module _ (s : List ℕ) where
  -- what the run that is left from where a pump stands reports
  abbrev tilt_from : ℕ → Progress → Tilt → Tilt
  tilt_from left p before = tilt_run left (verdict_of left s p) s p before

  -- what a run reports behind an earlier report is its own report, and the earlier where it has none
  over : (left : ℕ) (v : Verdict) (p : Progress) (before : Tilt) → tilt_run left v s p before ≡ latest (tilt_run left v s p Unmet) before
  unfolding tilt_run noted
  over zero v p before = refl
  over (suc left) going p before =
      let next = stepped s p in
      let v = verdict_of left s next in
      let met = step_met p.hub (next_record_of p.hub.waiting s p.at) in
      let rest = tilt_run left v s next Unmet in
      over left v next (latest met before)
      ∙ ap (latest rest) (sym (latest-assoc met Unmet before))
      ∙ sym (latest-assoc rest (latest met Unmet) before)
      ∙ ap (λ (t : Tilt). latest t before) (sym (over left v next (latest met Unmet)))
  over (suc left) (stopping why) p before = refl
  over (suc left) (refusing number) p before = refl

  -- ---- what was written and counted before

  module _ (written : List ℕ) (events steps : ℕ) (long : length written ≡ event_size * events) where
    shifted : (left : ℕ) (v : Verdict) (p : Progress) (before : Tilt) → tilt_run left v s (behind written events steps p) before ≡ tilt_run left v s p before
    unfolding tilt_run noted
    shifted zero v p before = refl
    shifted (suc left) going p before =
        let next = stepped s p in
        let met = noted s p before in
        ap (λ (q : Progress). tilt_from left q met) (same_step written events steps long s p)
        ∙ ap (λ (v : Verdict). tilt_run left v s (behind written events steps next) met) (same-verdict written events steps long left s next)
        ∙ shifted left (verdict_of left s next) next met
    shifted (suc left) (stopping why) p before = refl
    shifted (suc left) (refusing number) p before = refl

  from-anew : (left : ℕ) (p : Progress) (before : Tilt) → event_size * p.events ≤ length p.out → tilt_from left p before ≡ tilt_from left (anew p) before
  from-anew left p before held =
      let written = take (event_size * p.events) p.out in
      let long : length written ≡ event_size * p.events = length-take-le (event_size * p.events) p.out held in
      let all = sym (take-append-drop (event_size * p.events) p.out) in
      let here : p ≡ behind written p.events p.steps (anew p) = same-standing all (omega arith) (omega arith) in
      ap (λ (q : Progress). tilt_from left q before) here
      ∙ ap (λ (v : Verdict). tilt_run left v s (behind written p.events p.steps (anew p)) before) (same-verdict written p.events p.steps long left s (anew p))
      ∙ shifted written p.events p.steps long left (verdict_of left s (anew p)) (anew p) before

  -- ---- a run in parts

  by-verdict : (left other : ℕ) (p : Progress) (v : Verdict) (before : Tilt) → verdict_of (suc other) s p ≡ v
      → tilt_from (suc left) p before ≡ tilt_run (suc left) v s p before
  by-verdict left other p v before is = ap (λ (w : Verdict). tilt_run (suc left) w s p before) (some_left left other s p ∙ is)

  module _ (b : ℕ) where
    later : (a : ℕ) (p : Progress) (v : Verdict) (before : Tilt) → verdict_of (suc a) s p ≡ v
        → tilt_from (suc a + suc b) p before ≡ tilt_run (suc (a + suc b)) v s p before
    later a p v before is = ap (λ (left : ℕ). tilt_from left p before) (suc-add a (suc b)) ∙ by-verdict (a + suc b) a p v before is

    run-parts : (a : ℕ) (p : Progress) (v : Verdict) (before : Tilt) → verdict_of a s p ≡ v
        → tilt_from (a + suc b) p before ≡ tilt_from (suc b) (end_of (run_of a v s p)) (tilt_run a v s p before)
    unfolding run_of tilt_run
    run-parts zero p v before is =
        ap (λ (left : ℕ). tilt_from left p before) (zero-add (suc b)) ∙ ap (λ (q : Progress). tilt_from (suc b) q before) (sym (end_is v p))
    run-parts (suc a) p going before is =
        later a p going before is ∙ run-parts a (stepped s p) (verdict_of a s (stepped s p)) (noted s p before) refl
    run-parts (suc a) p (stopping why) before is =
        later a p (stopping why) before is ∙ sym (by-verdict b a p (stopping why) before is)
        ∙ ap (λ (q : Progress). tilt_from (suc b) q before) (sym (end_is (stopping why) p))
    run-parts (suc a) p (refusing number) before is =
        later a p (refusing number) before is ∙ sym (by-verdict b a p (refusing number) before is)

-- ---- a call in parts

-- what the call reports that goes on where a call ended
abbrev pub tilt_onward : Run → List ℕ → ℕ → Tilt
tilt_onward r batch allowance = pump_tilt r.pumped.hub batch (place_said r.pumped.answer) (unwritten r) allowance

by_parts : (number : ℕ) (h : Hub) (s : List ℕ) (place : ℕ) (out : List ℕ) (a b : ℕ) → pump_refusal (length s) (length out) place ≡ number
    → let first = pump_by number h s place out a in
    Stays s place out (end_of first)
    → pump_tilt_by number h s place out (a + suc b) ≡ latest (tilt_onward first s (suc b)) (pump_tilt_by number h s place out a)
unfolding pump_tilt
by_parts zero h s place out a b ok w =
    let start = start_of h place out in
    let v = verdict_of a s start in
    let end = end_of (run_of a v s start) in
    let before = tilt_run a v s start Unmet in
    let size = w.long in
    let left = length-drop (event_size * end.events) end.out in
    let next = lent-on (length s) (length out) place (length (anew end).out) end.at ok (omega arith) w.inside in
    run-parts s b a start v Unmet refl
    ∙ from-anew s (suc b) end before (omega (arith, w.held))
    ∙ over s (suc b) (verdict_of (suc b) s (anew end)) (anew end) before
    ∙ ap (λ (refusal : ℕ). latest (pump_tilt_by refusal end.hub s end.at (anew end).out (suc b)) before) (sym next)
by_parts (suc number) h s place out a b ok w = ap (λ (refusal : ℕ). latest (pump_tilt_by refusal h s place out (suc b)) Unmet) (sym ok)

-- with no step allowed nothing is met
none-met : (h : Hub) (s : List ℕ) (place : ℕ) (out : List ℕ) → pump_tilt h s place out 0 ≡ Unmet
unfolding pump_tilt tilt_run
none-met h s place out = by (pump_refusal (length s) (length out) place)
  where
    by : (number : ℕ) → pump_tilt_by number h s place out 0 ≡ Unmet
    by zero = refl
    by (suc number) = refl

pub tilt-parts : (h : Hub) (batch : List ℕ) (place : ℕ) (out : List ℕ) (a b : ℕ)
    → pump_tilt h batch place out (a + b) ≡ latest (tilt_onward (pump_of h batch place out a) batch b) (pump_tilt h batch place out a)
tilt-parts h batch place out a zero =
    let first = pump_of h batch place out a in
    let same : a + 0 ≡ a = omega arith in
    rw (same, none-met first.pumped.hub batch (place_said first.pumped.answer) (unwritten first))
tilt-parts h batch place out a (suc b) =
    unfold pump_of pump_tilt in by_parts (pump_refusal (length batch) (length out) place) h batch place out a b refl (pump-stays batch place out h a)
