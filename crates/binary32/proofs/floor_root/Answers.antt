-- `floor_root` meets its contract: each step is not below the root (`first`, `next`), and where the step does not go down, s * s ≤ w (`closer-done`).
use Rattle.std.proofs.Common.{arith}
use Rattle.binary32.proofs.Steps.{first, next}
use Rattle.binary32.proofs.floor_root.Goals as goal

pub loop-t-init : goal.loop-t-init
loop-t-init c = record { above = first c.args.w c.closer-s.result c.requires.0 c.requires.1 c.closer-s.ensures; step = c.closer-t.ensures }

pub loop-t-preserved : goal.loop-t-preserved
loop-t-preserved c =
    let l = c.loop-t in
    let v = l.invariant in
    record { above = next c.args.w l.s l.t c.requires.0 v.above.some v.step (omega arith); step = c.closer-t-in-loop-t.ensures }
