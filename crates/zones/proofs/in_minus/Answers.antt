-- `zones::in_minus` meets its contract: by the pad's sort. The code's -0.5 and -1.0 are 0.5 and 1.0 with the sign turned.
use Rattle.std.proofs.Common.{◌≡◌, refl}
use Rattle.std.specs.Float.Ieee.{neg, of_bits}
use Rattle.numbers.specs.Constants.{one32, minus_one32}
use Rattle.rules.specs.Zones.{half32, minus_half32, in_minus}
use Rattle.zones.proofs.in_minus.Goals as goal

minus-half : neg half32 ≡ minus_half32
unfolding neg of_bits
minus-half = refl

minus_one : neg one32 ≡ minus_one32
unfolding neg of_bits
minus_one = refl

pub returns-then-zoned : goal.returns-then-zoned
unfolding in_minus
returns-then-zoned c = rw (minus-half, c.if-zoned.true)

pub returns-else-zoned : goal.returns-else-zoned
unfolding in_minus
returns-else-zoned c = rw (minus_one, c.if-zoned.false)
