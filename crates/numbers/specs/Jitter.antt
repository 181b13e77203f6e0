-- 01's "Jitter": the test of gilrs's `Jitter`. Definitions only.
use Rattle.std.specs.Prelude.{Bool, cond, ◌&&◌, Float}
use Rattle.std.specs.Float.Ieee as Ieee
use Rattle.std.specs.Float.{binary32}
use Rattle.numbers.specs.Constants.{zero32, jitter_limit}

-- "abs becomes a comparison"
unfoldable pub abs_of : Float → Float
abs_of x = cond (Ieee.lt x zero32) (Ieee.neg x) x

-- "value not 0, closer than 0.01 to a stored axis value"
unfoldable pub jitter_of : Float → Float → Bool
unfolding abs_of
jitter_of value stored = Ieee.ne value zero32 && Ieee.lt (abs_of (Ieee.sub binary32 value stored)) jitter_limit
