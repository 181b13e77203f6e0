-- `apart` meets its contract. A number with a field above 0 has its 24 digits at once; a subnormal one is doubled until it has them.
use Rattle.std.specs.Prelude.{◌/◌, ◌%◌, ◌<◌, ◌≤◌}
use Rattle.std.proofs.Common.{◌∙◌, arith}
use Rattle.binary32.specs.Units.{units_at}
use Rattle.binary32.specs.Leading.{with-field, some_left, halved}
use Rattle.binary32.proofs.apart.Goals as goal

pub returns-then-field-ne0 : goal.returns-then-field-ne0
unfolding units_at
returns-then-field-ne0 c =
    let b = c.args.bits in
    let h : 0 < b / 8388608 = omega arith in
    record { low = omega arith; high = omega arith; same = with-field (b / 8388608) (b % 8388608) h; few = omega arith }

pub loop-m-preserved : goal.loop-m-preserved
loop-m-preserved c =
    let l = c.loop-m in
    let v = l.invariant in
    let h : 1 ≤ l.z = some_left _ l.m l.z v.some v.short v.same in
    record { some = v.some; short = omega arith; same = v.same ∙ halved l.m l.z h; few = omega arith }
