-- `down::put_bit` meets its contract: the power picks the bit out, `or` puts it up, and a difference takes it down.
use Rattle.down.specs.Bits.{power, up, taken-down}
use Rattle.down.proofs.put_bit.Goals as goal

pub returns-then-v : goal.returns-then-v
returns-then-v c = rw (power c.args.place c.requires, c.if-v.true) (up c.args.bits c.args.place)

pub returns-else-v : goal.returns-else-v
returns-else-v c = rw (power c.args.place c.requires, c.if-v.false) (taken-down c.args.bits c.args.place)
