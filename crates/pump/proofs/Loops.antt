-- How the pump's loops go, at any hub and over plain numbers. A call that is not refused stands at the head of the outer loop. Where a stop is answered, or
-- the next record is refused, that is the run; else a step is made, which writes nothing or an event. The bytes filled tell the events written, and what is
-- left of the allowance the steps made.
use Rattle.std.specs.Prelude.{ℕ, ◌≡◌, ◌+◌, ◌-◌, ◌*◌, ◌/◌, ◌<◌, ◌≤◌, Bool, List, length}
use Rattle.std.proofs.Common.{sym, ◌∙◌, ap, arith}
use Rattle.numbers.specs.declared.Tilt.{Tilt}
use Rattle.numbers.specs.declared.Tilt.TheVariants.{Unmet}
use Rattle.rules.specs.declared.Hub.{Hub}
use Rattle.rules.specs.declared.PumpAnswer.{PumpAnswer}
use Rattle.rules.specs.declared.PumpAnswer.TheVariants.{Refused}
use Rattle.rules.specs.Forms.{event_size}
use Rattle.rules.specs.Refusals.{pump_refusal}
use Rattle.rules.specs.Step.{next_record_of, step_refusal}
use Rattle.rules.specs.Pump.{Progress, stepped, stop_of, stop_answer}
use Rattle.rules.specs.Tilt.{noted}
use Rattle.pump_laws.specs.Runs.{Reported, leaves, rest, standing, call, Roomy, roomy, run-stops, run-refuses, accepted, pump-runs}
use Rattle.pump_laws.proofs.Runs.{run-goes}
use Rattle.pump_laws.specs.Going.{Going, last_allowance}
use Rattle.hub.specs.declared.Head.{Head}
use Rattle.hub.specs.Lent.{Listed, Columns, hub_of}
use Rattle.pump.specs.Stepped.{stepped_head}

-- the hub that the given head, what steps changed of it, and the lent arrays stand for
abbrev pub hub_at : Head → List Bool → List Bool → List ℕ → List ℕ → List ℕ → List Bool → ℕ → ℕ → Listed → Columns → Hub
hub_at head connected renamed down held heldaxes flags front waiting s t =
    hub_of (stepped_head head connected renamed down held heldaxes flags front waiting) s t

-- ---- where the outer loop begins

pub begins :
    (h : Hub) (s : List ℕ) (place : ℕ) (out : List ℕ) (allowance : ℕ) {number : ℕ} →
    number ≡ pump_refusal (length s) (length out) place →
    number ≤ 0 →
    allowance ≤ last_allowance →
    Going h s place out 0 (allowance - allowance) allowance Unmet (call h s place out allowance)
begins h s place out allowance e z small =
    let g = accepted (length s) (length out) place e z in
    let none : allowance - allowance ≡ 0 = omega arith in
    record {
      at_small = g.place-small;
      batch-small = g.batch-small;
      out-small = g.out-small;
      room = omega arith;
      steps-small = omega arith;
      same = ap (λ (n : ℕ). rest allowance s (standing h place out 0 n) Unmet) none ∙ pump-runs h s place out allowance e z;
    }

-- ---- where the inner loop stands

module _ (filled most : ℕ) {h : Hub} {s : List ℕ} {at : ℕ} {out : List ℕ} {left : ℕ} {before : Tilt} {whole : Reported} {why : ℕ}
    (g : Going h s at out (filled / event_size) (most - left) left before whole) (is : filled ≡ event_size * (filled / event_size))
    (stop : why ≡ stop_of h.waiting (length s - at) (length out - filled) left) where
  abbrev here : Progress
  here = standing h at out (filled / event_size) (most - left)

  -- the stop, by the room behind the events written
  stop-is : why ≡ stop_of h.waiting (length s - at) (length out - event_size * (filled / event_size)) left
  stop-is = stop ∙ ap (λ (n : ℕ). stop_of h.waiting (length s - at) (length out - n) left) is

  pub stops :
      {a : PumpAnswer} →
      0 < why →
      a ≡ stop_answer why at (filled / event_size) (most - left) →
      leaves (record { hub = h; answer = a }) out before ≡ whole
  stops p e = run-stops h s at out (filled / event_size) (most - left) left before stop-is p e ∙ g.same

  module _ {number : ℕ} (z : why ≤ 0) (refusal : number ≡ step_refusal h (next_record_of h.waiting s at)) where
    pub refuses : 0 < number → leaves (record { hub = h; answer = Refused number at (filled / event_size) (most - left) }) out before ≡ whole
    refuses p = run-refuses h s at out (filled / event_size) (most - left) left before stop-is z refusal p ∙ g.same

    -- what is taken, and not refused, makes a step more
    module _ (few : left ≤ most) (taken : number ≤ 0) {place : ℕ} {tilt : Tilt} (within : place ≤ length s) (met : tilt ≡ noted s here before) where
      -- where no stop is answered there is room for an event, and a step is left
      room : Roomy (length out - filled) left
      room = roomy h.waiting (length s - at) (length out - filled) left stop z

      one-made : most - (left - 1) ≡ most - left + 1
      one-made = omega (arith, room.step_left)

      goes : {p : Progress} → p ≡ stepped s here → rest (left - 1) s p tilt ≡ whole
      goes e = sym (run-goes h s at out (filled / event_size) (most - left) left before stop-is z refusal taken e met) ∙ g.same

      -- a step that writes nothing
      pub skips :
          {w : Hub} →
          standing w place out (filled / event_size) (most - left + 1) ≡ stepped s here →
          Going w s place out (filled / event_size) (most - (left - 1)) (left - 1) tilt whole
      skips {w} e =
          record {
            at_small = within;
            batch-small = g.batch-small;
            out-small = g.out-small;
            room = g.room;
            steps-small = omega (arith, room.step_left, g.steps-small);
            same = ap (λ (n : ℕ). rest (left - 1) s (standing w place out (filled / event_size) n) tilt) one-made ∙ goes e;
          }

      -- a step that writes an event
      pub writes :
          {w : Hub} {o : List ℕ} →
          length o ≡ length out →
          standing w place o (filled / event_size + 1) (most - left + 1) ≡ stepped s here →
          Going w s place o ((filled + event_size) / event_size) (most - (left - 1)) (left - 1) tilt whole
      writes {w} {o} long e =
          let one : (filled + event_size) / event_size ≡ filled / event_size + 1 = omega arith in
          record {
            at_small = within;
            batch-small = g.batch-small;
            out-small = rw long g.out-small;
            room = rw long (omega (arith, room.room-left, is));
            steps-small = omega (arith, room.step_left, g.steps-small);
            same =
                ap (λ (n : ℕ). rest (left - 1) s (standing w place o n (most - (left - 1))) tilt) one
                ∙ ap (λ (n : ℕ). rest (left - 1) s (standing w place o (filled / event_size + 1) n) tilt) one-made ∙ goes e;
          }
