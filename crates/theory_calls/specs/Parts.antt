-- A pump in parts is the pump: a call that is allowed a + b steps comes to what two calls come to, one that is allowed a, and one that goes on where that ended
-- and is allowed b. So each moment inside a call is the end of a call that is allowed less, and what is proved of every call binds what happens inside one. By a
-- shift: where a pump stands is moved by what was written and counted before, and the verdict and the step respect the move. The theorem is `pump-parts` of
-- `proofs/Parts.antt`; here is what it says, and its laws.
use Prim.Native.Nat.{ℕ, zero, suc, ◌+◌, ◌-◌, ◌*◌, ◌<◌, ◌≤◌}
use Rattle.std.specs.Prelude.{Bool, cond, ◌||◌, List, [], ◌∷◌, ◌++◌, ◌≡◌, eqb, ltb, take, drop, replicate}
use Rattle.std.proofs.Math.Bool.{true, false}
use Rattle.std.proofs.Common.{append_assoc, ◌∙◌, length-drop, take-append-drop, length-take-le, zero-add, suc-add, ltb-false, le-ltb}
use Rattle.std.proofs.Math.Path.{refl, sym, ap}
use Rattle.std.proofs.Math.Dec.{eqb-suc-zero}
use Rattle.std.specs.Float.Ieee as Ieee
use Rattle.std.proofs.Math.ListN.{length, length-append}
use Rattle.std.proofs.Math.Seq.{take-append-add, drop-append-add}
use native.Mathlib.Omega.{arith}
use Rattle.rules.specs.declared.Hub.{Hub}
use Rattle.rules.specs.declared.Event.{Event}
use Rattle.rules.specs.declared.PumpAnswer.{PumpAnswer}
use Rattle.rules.specs.declared.PumpAnswer.TheVariants.{Drained, Full, Paused, Refused}
use Rattle.rules.specs.Names.{buffer_limit}
use Rattle.rules.specs.Forms.{event_size}
use Rattle.rules.specs.Refusals.{pump_refusal}
use Rattle.rules.specs.Events.{event_bytes}
use Rattle.rules.specs.Filters.{kept_of}
use Rattle.rules.specs.Step.{next_record_of, step_event}
use Rattle.rules.specs.Pump.{Progress, Run, Verdict, going, stopping, refusing, drained, full, stop_of, verdict_of, out_after, stepped_by, stepped, ended_by, run_of, start_of, pump_by, pump_of}
use Rattle.theory_calls.specs.Machines.{move, both, bare, desk, room, allowed, place_said, events_said, steps_said}
use Rattle.theory_calls.specs.Runs.{end_of, end_is}
use Rattle.theory_calls.specs.Room.{Stays}

-- ---- the statement

-- an answer with so many events and steps more
abbrev pub more : ℕ → ℕ → PumpAnswer → PumpAnswer
more events steps (Drained place e n) = Drained place (events + e) (steps + n)
more events steps (Full place e n) = Full place (events + e) (steps + n)
more events steps (Paused place e n) = Paused place (events + e) (steps + n)
more events steps (Refused number place e n) = Refused number place (events + e) (steps + n)

-- the out buffer's part that a call wrote, and the part that it left
abbrev pub written : Run → List ℕ
written r = take (event_size * events_said r.pumped.answer) r.out

abbrev pub unwritten : Run → List ℕ
unwritten r = drop (event_size * events_said r.pumped.answer) r.out

-- the call that goes on where a call ended: with its hub, from the place that it answered, in the part that it left
abbrev pub onward : Run → List ℕ → ℕ → Run
onward r batch allowance = pump_of r.pumped.hub batch (place_said r.pumped.answer) (unwritten r) allowance

-- what a call comes to, by its two parts. The reason is the second part's only where that is allowed a step: without one it is Paused where the first was refused
-- (`refused-whole` and `paused-part`)
pub record Joins (whole first second : Run) (allowance : ℕ) : Type 0 where
  pub hub : whole.pumped.hub ≡ second.pumped.hub
  pub place : place_said whole.pumped.answer ≡ place_said second.pumped.answer
  pub events : events_said whole.pumped.answer ≡ events_said first.pumped.answer + events_said second.pumped.answer
  pub steps : steps_said whole.pumped.answer ≡ steps_said first.pumped.answer + steps_said second.pumped.answer
  pub out : whole.out ≡ written first ++ second.out
  pub answer : 0 < allowance
      → whole.pumped.answer ≡ more (events_said first.pumped.answer) (steps_said first.pumped.answer) second.pumped.answer

-- ---- what was written and counted before

-- the run that is left from where a pump stands
abbrev run_from : ℕ → List ℕ → Progress → Run
run_from left s p = run_of left (verdict_of left s p) s p

pub same-standing : {h : Hub} {at : ℕ} {out out' : List ℕ} {events events' steps steps' : ℕ} → out ≡ out' → events ≡ events' → steps ≡ steps'
    → ◌≡◌ {A = Progress} (record { hub = h; at = at; out = out; events = events; steps = steps })
    (record { hub = h; at = at; out = out'; events = events'; steps = steps' })
same-standing a b c = cc

module _ (before : List ℕ) (events steps : ℕ) where
  -- where a pump stands that goes on behind that, and what it leaves
  abbrev pub behind : Progress → Progress
  behind p = record { hub = p.hub; at = p.at; out = before ++ p.out; events = events + p.events; steps = steps + p.steps }

  abbrev joined : Run → Run
  joined r = record { pumped = record { hub = r.pumped.hub; answer = more events steps r.pumped.answer }; out = before ++ r.out }

  same_end : (v : Verdict) (p : Progress) → ended_by v (behind p) ≡ joined (ended_by v p)
  same_end going p = refl
  same_end (stopping why) p = by (eqb why drained) (eqb why full) refl refl
    where
      by : (a b : Bool) → eqb why drained ≡ a → eqb why full ≡ b → ended_by (stopping why) (behind p) ≡ joined (ended_by (stopping why) p)
      by true b e f = rw e
      by false true e f = rw (e, f)
      by false false e f = rw (e, f)
  same_end (refusing number) p = refl

  module _ (long : length before ≡ event_size * events) where
    pub same-verdict : (left : ℕ) (s : List ℕ) (p : Progress) → verdict_of left s (behind p) ≡ verdict_of left s p
    unfolding verdict_of
    same-verdict left s p =
        let size = length-append before p.out in
        let room : length (before ++ p.out) - event_size * (events + p.events) ≡ length p.out - event_size * p.events = omega arith in
        rw room

    same_place : (out bytes : List ℕ) (n : ℕ)
        → take (event_size * (events + n)) (before ++ out) ++ (bytes ++ drop event_size (drop (event_size * (events + n)) (before ++ out)))
        ≡ before ++ (take (event_size * n) out ++ (bytes ++ drop event_size (drop (event_size * n) out)))
    same_place out bytes n =
        let at : event_size * (events + n) ≡ length before + event_size * n = omega arith in
        rw (at, take-append-add, drop-append-add, append_assoc before)

    same_out : (kept : Bool) (out : List ℕ) (n : ℕ) (e : Event)
        → cond kept (out_after (before ++ out) (events + n) e) (before ++ out) ≡ before ++ cond kept (out_after out n e) out
    unfolding out_after
    same_out true out n e = same_place out (event_bytes e) n
    same_out false out n e = refl

    pub same_step : (s : List ℕ) (p : Progress) → stepped s (behind p) ≡ behind (stepped s p)
    unfolding stepped stepped_by
    same_step s p =
        let e = step_event p.hub (next_record_of p.hub.waiting s p.at) in
        let kept = kept_of p.hub.filters e in
        same-standing (same_out kept p.out p.events e) (omega arith) (omega arith)

    -- the verdict is the same, so what the run comes to by it is what it comes to
    same_by : (left : ℕ) (s : List ℕ) (p : Progress) → run_of left (verdict_of left s p) s (behind p) ≡ joined (run_from left s p)
        → run_from left s (behind p) ≡ joined (run_from left s p)
    same_by left s p same = ap (λ (v : Verdict). run_of left v s (behind p)) (same-verdict left s p) ∙ same

    same-run : (left : ℕ) (v : Verdict) (s : List ℕ) (p : Progress) → run_of left v s (behind p) ≡ joined (run_of left v s p)
    unfolding run_of
    same-run zero v s p = same_end v p
    same-run (suc left) going s p = ap (run_from left s) (same_step s p) ∙ same_by left s (stepped s p) (same-run left _ s (stepped s p))
    same-run (suc left) (stopping why) s p = same_end (stopping why) p
    same-run (suc left) (refusing number) s p = same_end (refusing number) p

-- a pump that begins where one stands, in what is left of the out buffer
abbrev pub anew : Progress → Progress
anew p = start_of p.hub p.at (drop (event_size * p.events) p.out)

-- a run from where a pump stands is the run that begins there, behind what was written and counted
run-anew : (left : ℕ) (s : List ℕ) (p : Progress) → event_size * p.events ≤ length p.out
    → run_from left s p ≡ joined (take (event_size * p.events) p.out) p.events p.steps (run_from left s (anew p))
run-anew left s p held =
    let before = take (event_size * p.events) p.out in
    let long : length before ≡ event_size * p.events = length-take-le (event_size * p.events) p.out held in
    let all = sym (take-append-drop (event_size * p.events) p.out) in
    let here : p ≡ behind before p.events p.steps (anew p) = same-standing all (omega arith) (omega arith) in
    ap (run_from left s) here
    ∙ same_by before p.events p.steps long left s (anew p) (same-run before p.events p.steps long left (verdict_of left s (anew p)) s (anew p))

-- ---- a run in parts

-- the verdict asks of the allowance only whether it is spent
pub some_left : (a b : ℕ) (s : List ℕ) (p : Progress) → verdict_of (suc a) s p ≡ verdict_of (suc b) s p
unfolding verdict_of stop_of
some_left a b s p = rw (eqb-suc-zero a, eqb-suc-zero b)

run_by : (left other : ℕ) (s : List ℕ) (p : Progress) (v : Verdict) → verdict_of (suc other) s p ≡ v → run_from (suc left) s p ≡ run_of (suc left) v s p
run_by left other s p v is = ap (λ (w : Verdict). run_of (suc left) w s p) (some_left left other s p ∙ is)

-- a run goes on where its first steps end
module _ (b : ℕ) (s : List ℕ) where
  later : (a : ℕ) (p : Progress) (v : Verdict) → verdict_of (suc a) s p ≡ v → run_from (suc a + suc b) s p ≡ run_of (suc (a + suc b)) v s p
  later a p v is = ap (λ (left : ℕ). run_from left s p) (suc-add a (suc b)) ∙ run_by (a + suc b) a s p v is

  run-parts : (a : ℕ) (p : Progress) (v : Verdict) → verdict_of a s p ≡ v → run_from (a + suc b) s p ≡ run_from (suc b) s (end_of (run_of a v s p))
  unfolding run_of
  run-parts zero p v is = ap (λ (left : ℕ). run_from left s p) (zero-add (suc b)) ∙ ap (run_from (suc b) s) (sym (end_is v p))
  run-parts (suc a) p going is = later a p going is ∙ run-parts a (stepped s p) (verdict_of a s (stepped s p)) refl
  run-parts (suc a) p (stopping why) is =
      later a p (stopping why) is ∙ sym (run_by b a s p (stopping why) is) ∙ ap (run_from (suc b) s) (sym (end_is (stopping why) p))
  run-parts (suc a) p (refusing number) is = later a p (refusing number) is ∙ sym (run_by b a s p (refusing number) is)

-- ---- a pump in parts

-- a call that is not refused for what it is lent, nor the one that goes on
pub lent-on : (batch out place out' place' : ℕ) → pump_refusal batch out place ≡ 0 → out' ≤ out → (place ≤ batch → place' ≤ batch)
    → pump_refusal batch out' place' ≡ 0
unfolding pump_refusal
lent-on batch out place out' place' ok less inside =
    by (ltb buffer_limit batch) (ltb buffer_limit out) (ltb batch place) refl refl refl ok
  where
    by : (a b c : Bool) → ltb buffer_limit batch ≡ a → ltb buffer_limit out ≡ b → ltb batch place ≡ c → ◌≡◌ {A = ℕ} (cond (a || b) 14 (cond c 8 0)) 0
        → pump_refusal batch out' place' ≡ 0
    by true b c d e f ok = absurd (omega arith)
    by false true c d e f ok = absurd (omega arith)
    by false false true d e f ok = absurd (omega arith)
    by false false false d e f ok =
        let short = ltb-false buffer_limit out e in
        rw (d, le-ltb buffer_limit out' (omega arith), le-ltb batch place' (inside (ltb-false batch place f)))

-- a call behind what another wrote and counted
abbrev following : Run → Run → Run
following first second = joined (written first) (events_said first.pumped.answer) (steps_said first.pumped.answer) second

pub pump-by-parts : (number : ℕ) (h : Hub) (s : List ℕ) (place : ℕ) (out : List ℕ) (a b : ℕ) → pump_refusal (length s) (length out) place ≡ number
    → let first = pump_by number h s place out a in
    Stays s place out (end_of first) → pump_by number h s place out (a + suc b) ≡ following first (onward first s (suc b))
unfolding pump_of
pump-by-parts zero h s place out a b ok w =
    let start = start_of h place out in
    let end = end_of (run_from a s start) in
    let size = w.long in
    let left = length-drop (event_size * end.events) end.out in
    let next = lent-on (length s) (length out) place (length (anew end).out) end.at ok (omega arith) w.inside in
    run-parts b s a start (verdict_of a s start) refl ∙ run-anew (suc b) s end (omega (arith, w.held))
    ∙ ap (λ (refusal : ℕ). following (run_from a s start) (pump_by refusal end.hub s end.at (anew end).out (suc b))) (sym next)
pump-by-parts (suc number) h s place out a b ok w =
    ap (λ (refusal : ℕ). following (pump_by (suc number) h s place out a) (pump_by refusal h s place out (suc b))) (sym ok)

-- with no step allowed a call stands where it began
pub idle : (h : Hub) (s : List ℕ) (place : ℕ) (out : List ℕ) → end_of (pump_of h s place out 0) ≡ start_of h place out
unfolding pump_of run_of
idle h s place out = by (pump_refusal (length s) (length out) place)
  where
    by : (number : ℕ) → end_of (pump_by number h s place out 0) ≡ start_of h place out
    by zero = end_is (verdict_of 0 s (start_of h place out)) (start_of h place out)
    by (suc number) = refl

-- ---- what the two parts come to (the theorem: `proofs/Parts.antt`, `pump-parts`)

more-says : (events steps : ℕ) (a : PumpAnswer)
    → (place_said (more events steps a) ≡ place_said a) × (events_said (more events steps a) ≡ events + events_said a)
    × (steps_said (more events steps a) ≡ steps + steps_said a)
more-says events steps (Drained place e n) = (refl, refl, refl)
more-says events steps (Full place e n) = (refl, refl, refl)
more-says events steps (Paused place e n) = (refl, refl, refl)
more-says events steps (Refused number place e n) = (refl, refl, refl)

pub following-joins : (whole first second : Run) (allowance : ℕ) → whole ≡ following first second → Joins whole first second allowance
following-joins whole first second allowance is =
    let says = more-says (events_said first.pumped.answer) (steps_said first.pumped.answer) second.pumped.answer in
    record {
      hub = ap (λ (r : Run). r.pumped.hub) is;
      place = ap (λ (r : Run). place_said r.pumped.answer) is ∙ says.0;
      events = ap (λ (r : Run). events_said r.pumped.answer) is ∙ says.1;
      steps = ap (λ (r : Run). steps_said r.pumped.answer) is ∙ says.2;
      out = ap (λ (r : Run). r.out) is;
      answer = λ some. ap (λ (r : Run). r.pumped.answer) is;
    }

-- a second part that is allowed no step
pub idle-joins : (first second : Run) → end_of second ≡ anew (end_of first) → Joins first first second 0
idle-joins first second is =
    record {
      hub = sym (ap (λ (p : Progress). p.hub) is);
      place = sym (ap (λ (p : Progress). p.at) is);
      events = omega (arith, ap (λ (p : Progress). p.events) is);
      steps = omega (arith, ap (λ (p : Progress). p.steps) is);
      out = sym (ap (λ (p : Progress). written first ++ p.out) is ∙ take-append-drop (event_size * events_said first.pumped.answer) first.out);
      answer = λ some. absurd (omega arith);
    }

-- ---- 01's padlog example in two parts: two events for its first record, four for its second

example-first : (pump_of desk both 0 room 2).pumped.answer ≡ Paused 21 2 2
unfolding desk move pump_of Ieee.of_bits Ieee.lt Ieee.le Ieee.eq Ieee.ne Ieee.of_int Ieee.sub Ieee.mul Ieee.div Ieee.neg Ieee.add
example-first = refl

example-second : (onward (pump_of desk both 0 room 2) both (allowed - 2)).pumped.answer ≡ Drained 42 4 4
unfolding desk move pump_of Ieee.of_bits Ieee.lt Ieee.le Ieee.eq Ieee.ne Ieee.of_int Ieee.sub Ieee.mul Ieee.div Ieee.neg Ieee.add
example-second = refl

-- ---- a second part that is allowed no step: where the first was refused, so is the call, and the second part is Paused

abbrev no_record : List ℕ
no_record = 0 ∷ []

abbrev one_event : List ℕ
one_event = replicate event_size 0

refused-whole : (pump_of bare no_record 0 one_event (1 + 0)).pumped.answer ≡ Refused 8 0 0 0
unfolding bare pump_of
refused-whole = refl

paused-part : (onward (pump_of bare no_record 0 one_event 1) no_record 0).pumped.answer ≡ Paused 0 0 0
unfolding bare pump_of
paused-part = refl
