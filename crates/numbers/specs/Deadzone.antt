-- 01's "Deadzone": gilrs's `apply_deadzone`. Definitions only.
use Rattle.std.specs.Prelude.{Bool, cond, Float}
use Rattle.std.specs.Float.Ieee as Ieee
use Rattle.std.specs.Float.{binary32}
use Rattle.numbers.specs.Constants.{zero32, one32}
use Rattle.numbers.specs.Root.{magnitude_of}
use Rattle.numbers.specs.declared.Pair.{Pair}

-- "at or below the threshold"
unfoldable pub inside_of : Float → Float → Bool
inside_of magnitude threshold = Ieee.le magnitude threshold

-- "((m - t) / (1 - t)) / m, each operation rounded once"
unfoldable pub norm_of : Float → Float → Float
norm_of m t = Ieee.div binary32 (Ieee.div binary32 (Ieee.sub binary32 m t) (Ieee.sub binary32 one32 t)) m

-- (0, 0) inside, else both times norm
unfoldable pub shrunk_of : Bool → Float → Float → Float → Pair
shrunk_of inside norm x y =
    record {
      x = cond inside zero32 (Ieee.mul binary32 x norm);
      y = cond inside zero32 (Ieee.mul binary32 y norm);
    }

unfoldable pub deadzone_of : Float → Float → Float → Pair
unfolding magnitude_of inside_of norm_of shrunk_of
deadzone_of x y threshold = shrunk_of (inside_of (magnitude_of x y) threshold) (norm_of (magnitude_of x y) threshold) x y
