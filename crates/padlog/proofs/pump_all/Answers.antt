-- `padlog::pump_all` meets its contract: a turn prints one call's events, and goes on only where the call left something undone.
use Rattle.std.proofs.Common.{refl, ◌+◌, ◌*◌, ◌<◌, ◌≤◌, arith}
use Rattle.padlog.specs.Log.{pump_all}
use Rattle.padlog.proofs.Rounds.{steps-few, goes-on, last-room, all_told, none_left}
use Rattle.padlog.proofs.pump_all.Goals as goal

pub loop-n-init : goal.loop-n-init
loop-n-init c = record { told = refl; room = omega arith; few = omega arith; size = omega arith; long = omega arith }

pub last-requires : goal.last-requires
unfolding pump_all
last-requires c =
    let more : c.loop-n.n < 8 = c.loop-n-test.true in
    let made : c.loop-n.steps + c.tally_of-t.result.steps ≤ 65535 * (c.loop-n.n + 1)
    = steps-few _ _ _ _ _ _ _ _ _ c.loop-n.invariant more _ c.pump-pumped.ensures.pumped _ c.tally_of-t.ensures in
    (last-room _ _ _ _ _ _ _ _ _ c.loop-n.invariant more _ c.pump-pumped.ensures.pumped _ c.tally_of-t.ensures _ _ c.lines-at.ensures, omega arith)

pub returns-then-t-ne-GOES_ON : goal.returns-then-t-ne-GOES_ON
unfolding pump_all
returns-then-t-ne-GOES_ON c =
    all_told _ _ _ _ _ _ _ _ _ c.loop-n.invariant c.loop-n-test.true _ c.pump-pumped.ensures.pumped _ c.tally_of-t.ensures _ _ c.lines-at.ensures _ _ c.last.ensures
    c.if-t-ne-GOES_ON.true

pub overflow_add-steps : goal.overflow_add-steps
unfolding pump_all
overflow_add-steps c =
    let more : c.loop-n.n < 8 = c.loop-n-test.true in
    let made : c.loop-n.steps + c.tally_of-t.result.steps ≤ 65535 * (c.loop-n.n + 1)
    = steps-few _ _ _ _ _ _ _ _ _ c.loop-n.invariant more _ c.pump-pumped.ensures.pumped _ c.tally_of-t.ensures in
    omega arith

pub loop-n-preserved : goal.loop-n-preserved
unfolding pump_all
loop-n-preserved c =
    goes-on _ _ _ _ _ _ _ _ _ c.loop-n.invariant c.loop-n-test.true _ c.pump-pumped.ensures.pumped _ c.tally_of-t.ensures _ _ c.lines-at.ensures c.if-t-ne-GOES_ON.false

pub returns : goal.returns
returns c = none_left _ _ _ _ _ _ _ _ _ (omega arith) c.loop-n.invariant
