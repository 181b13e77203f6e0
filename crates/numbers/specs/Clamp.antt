-- 01's "held to lo..hi", as gilrs's `utils::clamp` has it. Definition only.
use Rattle.std.specs.Prelude.{cond, Float}
use Rattle.std.specs.Float.Ieee as Ieee

-- x held to lo..hi. A NaN passes, and so does -0.0 at an end that is 0.0, since the two compare as equal.
unfoldable pub clamp_of : Float → Float → Float → Float
clamp_of x lo hi = cond (Ieee.lt x lo) lo (cond (Ieee.lt hi x) hi x)
