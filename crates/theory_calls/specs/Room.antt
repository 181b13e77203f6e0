-- A pump keeps to what it is lent: its place stays in the batch, and what it wrote lies in the out buffer, whose length stays. By the steps of a run: one is made
-- only where there is room for an event, and takes only a record that lies whole in the batch.
use Rattle.std.specs.Prelude.{ℕ, suc, ◌+◌, ◌-◌, ◌*◌, ◌≤◌, Bool, true, false, cond, ◌&&◌, List, ◌≡◌, eqb, ltb}
use Rattle.std.proofs.Math.Path.{refl}
use Rattle.std.proofs.Common.{◌∙◌, length-append, length-drop, length-take-le, ltb-false, leb-true}
use Rattle.std.proofs.Math.ListN.{length}
use native.Mathlib.Omega.{arith}
use Rattle.rules.specs.declared.Hub.{Hub}
use Rattle.rules.specs.declared.Event.{Event}
use Rattle.rules.specs.Forms.{record_size, event_size, record_fits, read_record}
use Rattle.rules.specs.Places.{one_if}
use Rattle.rules.specs.Refusals.{record_refusal}
use Rattle.rules.specs.Events.{event_bytes}
use Rattle.rules.specs.Filters.{kept_of}
use Rattle.rules.specs.Step.{next_record_by, next_record_of, record_kind, step_refusal, step_event}
use Rattle.rules.specs.Pump.{Progress, drained, full, paused, go_on, stop_of, out_after, place_after, stepped, stepped_by, start_of, pump_of}
use Rattle.theory_calls.specs.Runs.{Goes, end_of, pump-holds}

-- ---- the batch

-- a record that is taken is well formed
pub accepted-fits : (h : Hub) (s : List ℕ) (at : ℕ)
    → record_refusal (next_record_by (read_record s at)) h.pads (record_kind h (next_record_by (read_record s at)).raw) ≡ 0 → record_fits s at ≡ true
unfolding read_record record_refusal
accepted-fits h s at ok = by (record_fits s at) refl ok
  where
    by : (fits : Bool) → record_fits s at ≡ fits
        → record_refusal (next_record_by (read_record s at)) h.pads (record_kind h (next_record_by (read_record s at)).raw) ≡ 0 → fits ≡ true
    by true e ok = refl
    by false e ok = absurd (omega (arith, rw e at ok))

fits-inside : (s : List ℕ) (at : ℕ) → record_fits s at ≡ true → at + record_size ≤ length s
unfolding record_fits
fits-inside s at e =
    let room = leb-true record_size (length s - at) (whole _ _ e) in
    omega arith
  where
    whole : (a b : Bool) → (a && b) ≡ true → a ≡ true
    whole true b e = refl
    whole false b e = e

step-inside : (h : Hub) (s : List ℕ) (at : ℕ) (waits : Bool) → ltb 0 h.waiting ≡ waits → step_refusal h (next_record_of h.waiting s at) ≡ 0
    → at ≤ length s → place_after h.waiting at ≤ length s
unfolding step_refusal next_record_of place_after
step-inside h s at true e ok inside = rw e inside
step-inside h s at false e ok inside = rw e (fits-inside s at (accepted-fits h s at (rw e at ok)))

-- ---- the out buffer

-- where no stop is due there is room for an event
room-left : (waiting rest room left : ℕ) → stop_of waiting rest room left ≡ 0 → event_size ≤ room
unfolding stop_of
room-left waiting rest room left e = ltb-false room event_size (by (eqb waiting 0 && eqb rest 0) (ltb room event_size) (eqb left 0) e)
  where
    by : (used short spent : Bool) → cond used drained (cond short full (cond spent paused go_on)) ≡ 0 → short ≡ false
    by true short spent e = absurd (omega arith)
    by false true spent e = absurd (omega arith)
    by false false spent e = refl

-- an event written keeps the buffer's length, and lies in it
written-long : (out : List ℕ) (n : ℕ) (e : Event) → event_size * n + event_size ≤ length out → length (out_after out n e) ≡ length out
unfolding out_after event_bytes
written-long out n e h =
    let k : event_size * n ≤ length out = omega arith in
    let bytes : length (event_bytes e) ≡ event_size = refl in
    simp (length-append, length-drop, length-take-le (event_size * n) out k) (omega arith)

kept-long : (b : Bool) (out : List ℕ) (n : ℕ) (e : Event) → event_size * n + event_size ≤ length out → length (cond b (out_after out n e) out) ≡ length out
kept-long true out n e h = written-long out n e h
kept-long false out n e h = refl

kept-held : (b : Bool) (n size : ℕ) → event_size * n + event_size ≤ size → event_size * (n + one_if b) ≤ size
kept-held true n size h = omega arith
kept-held false n size h = omega arith

-- ---- where a call stands that was lent a batch, a place and an out buffer

pub record Stays (s : List ℕ) (place : ℕ) (out : List ℕ) (p : Progress) : Type 0 where
  pub inside : place ≤ length s → p.at ≤ length s
  pub held : event_size * p.events ≤ length out
  pub long : length p.out ≡ length out

module _ (s : List ℕ) (place : ℕ) (out : List ℕ) where
  pub start-stays : (h : Hub) → Stays s place out (start_of h place out)
  start-stays h = record { inside = λ i. i; held = omega arith; long = refl }

  pub step_stays : (left : ℕ) (p : Progress) → Goes (suc left) s p → Stays s place out p → Stays s place out (stepped s p)
  unfolding stepped stepped_by
  step_stays left p goes w =
      let l = next_record_of p.hub.waiting s p.at in
      let b = kept_of p.hub.filters (step_event p.hub l) in
      let room = room-left p.hub.waiting (length s - p.at) (length p.out - event_size * p.events) (suc left) goes.unstopped in
      let long = w.long in
      let fits : event_size * p.events + event_size ≤ length p.out = omega arith in
      record {
        inside = λ i. step-inside p.hub s p.at (ltb 0 p.hub.waiting) refl goes.accepted (w.inside i);
        held = kept-held b p.events (length out) (omega arith);
        long = kept-long b p.out p.events (step_event p.hub l) fits ∙ long;
      }

  pub pump-stays : (h : Hub) (allowance : ℕ) → Stays s place out (end_of (pump_of h s place out allowance))
  pump-stays h allowance = pump-holds s (Stays s place out) step_stays h place out allowance (start-stays h)
