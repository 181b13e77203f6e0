-- `pump::pump` meets its contract: at the head of each loop the run that is left from where the pump stands is the whole call's (`Loops`), a turn of the inner
-- loop is one step of the law book (`Turns`), and a kept event's bytes are the law book's (`Writes`).
use Rattle.std.proofs.Common.{◌-◌, ◌/◌, ◌≤◌, ◌∙◌, sym, refl, arith, rules, length-drop, length-take}
use Rattle.rules.specs.Forms.{event_size}
use Rattle.pump_laws.specs.Runs.{each, roomy, pump-refuses}
use Rattle.hub.specs.Lent.{hub_of}
use Rattle.hub.specs.Holding.{listed_now, columns_now}
use Rattle.taking.specs.Taking.{taken_in}
use Rattle.pump.proofs.Loops.{hub_at, begins, stops, refuses, skips, writes}
use Rattle.pump.proofs.Turns.{meets, drops, keeps}
use Rattle.pump.proofs.Writes.{written, as_long}
use Rattle.pump.proofs.pump.Goals as goal

-- the whole call is refused
pub returns-then-refused-gt0 : goal.returns-then-refused-gt0
returns-then-refused-gt0 c =
    let a = c.args in
    let h = hub_of a.head (listed_now a.listed.now) (columns_now a.lent.now) in
    let e = each (pump-refuses h a.batch.now a.place a.out.now a.allowance c.pump_refusal-refused.ensures c.if-refused-gt0.true) in
    record { pumped = e.0; tilt = e.1; same = search rules }

pub loop-converts-init : goal.loop-converts-init
loop-converts-init c =
    let a = c.args in
    let h = hub_of a.head (listed_now a.listed.now) (columns_now a.lent.now) in
    record {
      going = begins h a.batch.now a.place a.out.now a.allowance c.pump_refusal-refused.ensures c.if-refused-gt0.false (omega (arith, c.ranges.allowance));
      filled = refl;
      same = search rules;
      few = omega arith;
    }

-- a stop
pub returns-then-why-gt0 : goal.returns-then-why-gt0
returns-then-why-gt0 c =
    let a = c.args in
    let o = c.loop-converts in
    let l = c.loop-converts-2 in
    let e = each (stops o.filled a.allowance l.invariant.going o.invariant.filled c.stop-why.ensures c.if-why-gt0.true c.stop_answer.ensures) in
    record { pumped = rw c.stepped.ensures e.0; tilt = e.1; same = search rules }

-- a record that is refused
pub returns-then-taken-gt0 : goal.returns-then-taken-gt0
returns-then-taken-gt0 c =
    let a = c.args in
    let o = c.loop-converts in
    let l = c.loop-converts-2 in
    let h = hub_at a.head l.connected l.renamed l.down l.held l.heldaxes l.flags l.front l.waiting (listed_now a.listed.now)
    (columns_now l.lent) in
    let t = taken_in h a.batch.now l.at c.take-taken.ensures in
    let e = each (refuses o.filled a.allowance l.invariant.going o.invariant.filled c.stop-why.ensures c.if-why-gt0.false t.number c.if-taken-gt0.true) in
    record { pumped = rw c.stepped-then-taken-gt0.ensures e.0; tilt = e.1; same = search rules }

-- where no stop is answered, a step is left
pub overflow_sub-left : goal.overflow_sub-left
overflow_sub-left c =
    let r = roomy _ _ _ _ c.stop-why.ensures c.if-why-gt0.false in
    omega (arith, r.step_left)

pub loop-converts-2-smaller : goal.loop-converts-2-smaller
loop-converts-2-smaller c =
    let r = roomy _ _ _ _ c.stop-why.ensures c.if-why-gt0.false in
    omega (arith, r.step_left)

-- an event that is dropped: a step that writes nothing
pub loop-converts-2-preserved : goal.loop-converts-2-preserved
loop-converts-2-preserved c =
    let a = c.args in
    let o = c.loop-converts in
    let l = c.loop-converts-2 in
    let s = listed_now a.listed.now in
    let h = hub_at a.head l.connected l.renamed l.down l.held l.heldaxes l.flags l.front l.waiting s
    (columns_now l.lent) in
    let t = taken_in h a.batch.now l.at c.take-taken.ensures in
    let g = t.given c.if-taken-gt0.false in
    let few : l.left ≤ a.allowance = omega (arith, l.invariant.fewer, o.invariant.few) in
    let joins = c.mark_joins.ensures in
    let serves = c.serve-passed.ensures in
    let events = o.filled / event_size in
    let steps = a.allowance - l.left in
    record {
      going =
          skips o.filled a.allowance l.invariant.going o.invariant.filled c.stop-why.ensures c.if-why-gt0.false t.number
          few c.if-taken-gt0.false (g.within l.invariant.going.at_small)
          (meets a.head s l.lent.marks.now l.lent.values.now l.lent.times.now l.lent.queuebytes.now l.lent.queuecodes.now g joins.0 joins.1 o.out events steps l.tilt serves.met)
          (drops a.head s l.lent.marks.now l.lent.values.now l.lent.times.now l.lent.queuebytes.now l.lent.queuecodes.now g joins.0 joins.1 o.out events steps serves.served (sym c.kept.ensures ∙ c.if-kept.false));
      same = search rules;
      fewer = omega (arith, l.invariant.fewer);
    }

-- where no stop is answered, there is room for an event
pub write_event-requires : goal.write_event-requires
write_event-requires c =
    let r = roomy _ _ _ _ c.stop-why.ensures c.if-why-gt0.false in
    simp (length-take, length-drop) (omega (arith, r.room-left))

pub loop-converts-smaller : goal.loop-converts-smaller
loop-converts-smaller c =
    let r = roomy _ _ _ _ c.stop-why.ensures c.if-why-gt0.false in
    omega (arith, r.step_left, c.loop-converts-2.invariant.fewer)

-- an event that is kept: a step, with the state settled and the event's bytes written
pub loop-converts-preserved : goal.loop-converts-preserved
loop-converts-preserved c =
    let a = c.args in
    let o = c.loop-converts in
    let l = c.loop-converts-2 in
    let s = listed_now a.listed.now in
    let h = hub_at a.head l.connected l.renamed l.down l.held l.heldaxes l.flags l.front l.waiting s
    (columns_now l.lent) in
    let t = taken_in h a.batch.now l.at c.take-taken.ensures in
    let g = t.given c.if-taken-gt0.false in
    let few : l.left ≤ a.allowance = omega (arith, l.invariant.fewer, o.invariant.few) in
    let joins = c.mark_joins.ensures in
    let serves = c.serve-passed.ensures in
    let events = o.filled / event_size in
    let steps = a.allowance - l.left in
    let r = roomy _ _ _ _ c.stop-why.ensures c.if-why-gt0.false in
    let kept = sym c.kept.ensures ∙ c.if-kept.true in
    let e = c.serve-passed.result.served.event in
    record {
      going =
          writes o.filled a.allowance l.invariant.going o.invariant.filled c.stop-why.ensures c.if-why-gt0.false t.number
          few c.if-taken-gt0.false (g.within l.invariant.going.at_small)
          (meets a.head s l.lent.marks.now l.lent.values.now l.lent.times.now l.lent.queuebytes.now l.lent.queuecodes.now g joins.0 joins.1 o.out events steps l.tilt serves.met)
          (as_long o.out events o.invariant.filled r.room-left e c.write_event.ensures)
          (keeps a.head s l.lent.marks.now l.lent.values.now l.lent.times.now l.lent.queuebytes.now l.lent.queuecodes.now g joins.0 joins.1 o.out events steps serves.served kept (serves.sent.is kept)
          c.settle-change.ensures.settled c.follow.ensures (written o.out events o.invariant.filled r.room-left e c.write_event.ensures));
      filled = omega (arith, o.invariant.filled);
      same = search rules;
      few = omega (arith, few);
    }
