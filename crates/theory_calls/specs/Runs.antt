-- How a run goes, whatever is asked of it: what holds where it starts and each step that it makes keeps, holds where it ends, and there it has a reason
-- to stop. By induction on what is left of the allowance, once for all that is counted of a pump.
use Prim.Native.Nat.{ℕ, zero, suc, ◌+◌, ◌-◌, ◌*◌, ◌<◌, ◌≤◌}
use Rattle.std.specs.Prelude.{Bool, cond, ◌&&◌, List, ◌≡◌, ltb, length}
use Rattle.std.proofs.Math.Bool.{true, false}
use Rattle.std.proofs.Math.Path.{refl, subst}
use Rattle.std.proofs.Math.Dec.{eqb}
use Rattle.std.proofs.Common.{arith}
use borrow.Author.Tests.{ltb-true, eqb-true}
use Rattle.rules.specs.declared.Hub.{Hub}
use Rattle.rules.specs.Forms.{event_size}
use Rattle.rules.specs.Refusals.{pump_refusal}
use Rattle.rules.specs.Step.{next_record_of, step_refusal}
use Rattle.rules.specs.Pump.{Progress, Run, Verdict, going, stopping, refusing, go_on, drained, full, paused, verdict_by, stop_of, verdict_of, stepped, ended_by, run_of, start_of, pump_by, pump_of}
use Rattle.theory_calls.specs.Machines.{place_said, events_said, steps_said}

-- where a pump stands when it has answered
abbrev pub end_of : Run → Progress
end_of r =
    record {
      hub = r.pumped.hub;
      at = place_said r.pumped.answer;
      out = r.out;
      events = events_said r.pumped.answer;
      steps = steps_said r.pumped.answer;
    }

-- it answers where it stands
pub end_is : (v : Verdict) (p : Progress) → end_of (ended_by v p) ≡ p
end_is going p = refl
end_is (stopping why) p = by (eqb why drained) (eqb why full) refl refl
  where
    by : (a b : Bool) → eqb why drained ≡ a → eqb why full ≡ b → end_of (ended_by (stopping why) p) ≡ p
    by true b e f = rw e
    by false true e f = rw (e, f)
    by false false e f = rw (e, f)
end_is (refusing number) p = refl

-- the test before a step
abbrev pub stop_at : ℕ → List ℕ → Progress → ℕ
stop_at left s p = stop_of p.hub.waiting (length s - p.at) (length p.out - event_size * p.events) left

-- a run goes on only where no stop is due and the record is not refused
pub record Goes (left : ℕ) (s : List ℕ) (p : Progress) : Type 0 where
  pub unstopped : stop_at left s p ≡ 0
  pub accepted : step_refusal p.hub (next_record_of p.hub.waiting s p.at) ≡ 0

goes_by : (why number : ℕ) → verdict_by why number ≡ going → (why ≡ 0) × (number ≡ 0)
goes_by zero zero e = (refl, refl)
goes_by zero (suc number) e = (refl, cc)
goes_by (suc why) number e = (cc, cc)

going-goes : (left : ℕ) (s : List ℕ) (p : Progress) → verdict_of left s p ≡ going → Goes left s p
unfolding verdict_of
going-goes left s p e =
    let g = goes_by (stop_at left s p) (step_refusal p.hub (next_record_of p.hub.waiting s p.at)) e in
    record { unstopped = g.0; accepted = g.1 }

-- why a run stops where it stands
pub data Stop (left : ℕ) (s : List ℕ) (p : Progress) : ℕ → Type 0 where
  drains : p.hub.waiting ≡ 0 → length s ≤ p.at → Stop left s p drained
  fills : length p.out < event_size * p.events + event_size → Stop left s p full
  pauses : left ≡ 0 → Stop left s p paused

-- it never ends while it goes on, and a refusal is its own reason
abbrev pub Stops : Verdict → ℕ → List ℕ → Progress → Type 0
Stops going left s p = ⊥
Stops (stopping why) left s p = Stop left s p why
Stops (refusing number) left s p = Unit

module _ (left : ℕ) (s : List ℕ) (p : Progress) where
  room-stop : (short spent : Bool) → ltb (length p.out - event_size * p.events) event_size ≡ short → eqb left 0 ≡ spent
      → (why : ℕ) → cond short full (cond spent paused go_on) ≡ suc why → Stop left s p (suc why)
  room-stop true spent e f why is = subst (Stop left s p) is (fills (omega (arith, ltb-true (length p.out - event_size * p.events) event_size e)))
  room-stop false true e f why is = subst (Stop left s p) is (pauses (eqb-true left 0 f))
  room-stop false false e f why is = absurd (omega arith)

  rest-stop : (none past : Bool) → eqb p.hub.waiting 0 ≡ none → eqb (length s - p.at) 0 ≡ past
      → (why : ℕ) → stop_of p.hub.waiting (length s - p.at) (length p.out - event_size * p.events) left ≡ suc why → Stop left s p (suc why)
  unfolding stop_of
  rest-stop true true e f why is =
      let used = eqb-true (length s - p.at) 0 f in
      subst (Stop left s p) (rw (e, f) at is) (drains (eqb-true p.hub.waiting 0 e) (omega arith))
  rest-stop true false e f why is = room-stop _ _ refl refl why (rw (e, f) at is)
  rest-stop false past e f why is = room-stop _ _ refl refl why (rw e at is)

  stop-by : (why number reason : ℕ) → stop_at left s p ≡ why → verdict_by why number ≡ stopping reason → Stop left s p reason
  stop-by zero zero reason is e = absurd (let z : ◌≡◌ {A = ℕ} 0 1 = cc in omega arith)
  stop-by zero (suc number) reason is e = absurd (let z : ◌≡◌ {A = ℕ} 0 1 = cc in omega arith)
  stop-by (suc why) number reason is e =
      let same : suc why ≡ reason = cc in
      subst (Stop left s p) same (rest-stop _ _ refl refl why is)

-- an allowance that is spent is a stop
spent-stops : (a b : Bool) → cond a drained (cond b full paused) ≡ 0 → ⊥
spent-stops true b e = omega arith
spent-stops false true e = omega arith
spent-stops false false e = omega arith

module _ (s : List ℕ) (Holds : ℕ → Progress → Type 0)
    (keeps : (left : ℕ) (p : Progress) → Goes (suc left) s p → Holds (suc left) p → Holds left (stepped s p)) where
  pub record Ending (r : Run) : Type 0 where
    pub left : ℕ
    pub stop : Progress
    pub holds : Holds left stop
    pub verdict : Verdict
    pub stops : Stops verdict left s stop
    pub ends : r ≡ ended_by verdict stop

  none_left : (v : Verdict) (p : Progress) → verdict_of zero s p ≡ v → Stops v zero s p
  unfolding verdict_of stop_of
  none_left going p e =
      spent-stops (eqb p.hub.waiting 0 && eqb (length s - p.at) 0) (ltb (length p.out - event_size * p.events) event_size)
      (going-goes zero s p e).unstopped
  none_left (stopping why) p e = stop-by zero s p (stop_at zero s p) _ why refl e
  none_left (refusing number) p e = tt

  run_ends : (left : ℕ) (v : Verdict) (p : Progress) → verdict_of left s p ≡ v → Holds left p → Ending (run_of left v s p)
  unfolding run_of verdict_of
  run_ends zero v p e w = record { left = 0; stop = p; holds = w; verdict = v; stops = none_left v p e; ends = refl }
  run_ends (suc left) going p e w = run_ends left (verdict_of left s (stepped s p)) (stepped s p) refl (keeps left p (going-goes (suc left) s p e) w)
  run_ends (suc left) (stopping why) p e w =
      let stops = stop-by (suc left) s p (stop_at (suc left) s p) _ why refl e in
      record { left = suc left; stop = p; holds = w; verdict = stopping why; stops = stops; ends = refl }
  run_ends (suc left) (refusing number) p e w =
      record { left = suc left; stop = p; holds = w; verdict = refusing number; stops = tt; ends = refl }

  by-ends : (number : ℕ) (h : Hub) (place : ℕ) (out : List ℕ) (allowance : ℕ) → Holds allowance (start_of h place out)
      → Ending (pump_by number h s place out allowance)
  by-ends zero h place out allowance w = run_ends allowance (verdict_of allowance s (start_of h place out)) (start_of h place out) refl w
  by-ends (suc number) h place out allowance w =
      record { left = allowance; stop = start_of h place out; holds = w; verdict = refusing (suc number); stops = tt; ends = refl }

  pub pump-ends : (h : Hub) (place : ℕ) (out : List ℕ) (allowance : ℕ) → Holds allowance (start_of h place out) → Ending (pump_of h s place out allowance)
  unfolding pump_of
  pump-ends h place out allowance w = by-ends (pump_refusal (length s) (length out) place) h place out allowance w

-- where what holds does not speak of the allowance
module _ (s : List ℕ) (Holds : Progress → Type 0) (keeps : (left : ℕ) (p : Progress) → Goes (suc left) s p → Holds p → Holds (stepped s p)) where
  pub pump-holds : (h : Hub) (place : ℕ) (out : List ℕ) (allowance : ℕ) → Holds (start_of h place out) → Holds (end_of (pump_of h s place out allowance))
  pump-holds h place out allowance w =
      let e = pump-ends s (λ left p. Holds p) keeps h place out allowance w in
      rw e.ends (rw (end_is e.verdict e.stop) e.holds)
