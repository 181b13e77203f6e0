-- `axis_value` meets its contract: the cast is exact inside 01's limits, and what `plus_odd`, `turned` and `clamp` ensure is put together.
use Rattle.std.specs.Prelude.{◌≡◌, refl}
use Rattle.std.specs.Float.Ieee.{neg, of_bits}
use Rattle.numbers.specs.Constants.{one32, minus_one32}
use Rattle.numbers.specs.Scale.{axis_scaled_of}
use Rattle.scale.specs.Casts.{cast_is}
use Rattle.scale.proofs.axis_value.Goals as goal

-- the code's -1.0 is 1.0 with its sign turned
minus_one : neg one32 ≡ minus_one32
unfolding neg of_bits
minus_one = refl

pub returns : goal.returns
unfolding axis_scaled_of
returns c =
    rw (
      c.clamp.ensures,
      c.turned.ensures,
      c.plus_odd-whole.ensures,
      c.plus_odd-v.ensures,
      cast_is c.args.raw c.requires,
      minus_one,
    )
