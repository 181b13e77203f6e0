-- 02's W-205: which of three the deadzone calculation was, beside its pair. Definitions only.
use Rattle.std.specs.Prelude.{Bool, true, false, Float}
use Rattle.std.specs.Float.Ieee as Ieee
use Rattle.numbers.specs.Constants.{one32}
use Rattle.numbers.specs.Root.{magnitude_of}
use Rattle.numbers.specs.Deadzone.{inside_of, deadzone_of}
use Rattle.numbers.specs.declared.Tilt.{Tilt}
use Rattle.numbers.specs.declared.Tilt.TheVariants.{Inside, Between, Full}
use Rattle.numbers.specs.declared.Tilted.{Tilted}

-- the two tests: the magnitude is at or below the threshold, it is 1
abbrev pub tilt_by : Bool → Bool → Tilt
tilt_by true full = Inside
tilt_by false true = Full
tilt_by false false = Between

-- "Inside is magnitude at or below the threshold; full is held magnitude equal to 1 and above the threshold"
unfoldable pub tilt_at : Float → Float → Tilt
unfolding inside_of
tilt_at m t = tilt_by (inside_of m t) (Ieee.eq m one32)

unfoldable pub tilt_of : Float → Float → Float → Tilt
unfolding tilt_at magnitude_of
tilt_of x y threshold = tilt_at (magnitude_of x y) threshold

-- "which of the three it was, beside the pair"
unfoldable pub tilted_of : Float → Float → Float → Tilted
unfolding deadzone_of tilt_of
tilted_of x y threshold = record { pair = deadzone_of x y threshold; tilt = tilt_of x y threshold }
