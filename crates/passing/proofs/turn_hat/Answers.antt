-- `passing::turn_hat` meets its contract: a turn of the loop pushes one event of the hat's more, and after the last turn all of them are pushed.
use Rattle.std.proofs.Common.{◌≡◌, ◌<◌, length, ap, arith, rules}
use Rattle.rules.specs.Filters.{dpad_of}
use Rattle.filters.specs.declared.dpad.Converted.{Converted}
use Rattle.queueing.specs.Queued.{pushed_none}
use Rattle.passing.specs.Served.{hat-more}
use Rattle.passing.proofs.turn_hat.Goals as goal

pub loop-x-init : goal.loop-x-init
loop-x-init c = record { pushed = pushed_none; alone = search rules }

pub loop-x-preserved : goal.loop-x-preserved
loop-x-preserved c =
    let v = c.hat_view-v.result in
    let e = c.args.e in
    let counts : c.dpad-g.result.count ≡ length (dpad_of v e).queued = ap (λ (r : Converted). r.count) c.dpad-g.ensures.is in
    let within : c.loop-x.x < length (dpad_of v e).queued = omega arith in
    record {
      pushed = hat-more v e c.loop-x.x within c.loop-x.invariant.pushed c.queued-u.ensures c.push-all.ensures;
      alone = search rules;
    }
