-- 01's "Scaling" and "Deadzone threshold": gilrs's `axis_value`, `btn_value` and `Gamepad::deadzone`. Definitions only.
-- An axis element is kept as three values that its min and max give once: `low_of`, `range_of`, `odd_of`. The scaled value of a raw one reads those
-- (`axis_scaled_of`, `button_scaled_of`); `axis_value_of` and `button_value_of` say the same of min and max, in 01's words.
use Rattle.std.specs.Prelude.{Bool, false, cond, ◌&&◌, ℕ, ℤ, pos, negsuc, ◌-ℤ◌, eqb, Float}
use Rattle.std.specs.Int.Signed.{rem_z}
use Rattle.std.specs.Float.Ieee as Ieee
use Rattle.std.specs.Float.{binary32}
use Rattle.numbers.specs.Constants.{zero32, one32, two32, minus_one32, absent, default_threshold}
use Rattle.numbers.specs.Clamp.{clamp_of}

-- ---- what an axis element keeps

-- min as an f32: exact inside 01's limits, as every cast here
unfoldable pub low_of : ℤ → Float
low_of min = Ieee.of_int binary32 min

-- "range = max - min"
unfoldable pub range_of : ℤ → ℤ → Float
range_of min max = Ieee.sub binary32 (Ieee.of_int binary32 max) (Ieee.of_int binary32 min)

-- gilrs's `i_range % 2 == 1`
abbrev pub is_one : ℤ → Bool
is_one (pos n) = eqb n 1
is_one (negsuc n) = false

unfoldable pub odd_of : ℤ → ℤ → Bool
odd_of min max = is_one (rem_z (max -ℤ min) (pos 2))

-- ---- scaling

-- "an odd range adds 1 to both"
unfoldable pub plus_odd : Bool → Float → Float
plus_odd odd x = cond odd (Ieee.add binary32 x one32) x

-- "v / range * 2 - 1"
unfoldable pub centred_of : Float → Float → Float
centred_of v range = Ieee.sub binary32 (Ieee.mul binary32 (Ieee.div binary32 v range) two32) one32

-- "negated if the hub says Y reversed and the value is not 0"
unfoldable pub turned_of : Bool → Float → Float
turned_of reversed x = cond (reversed && Ieee.ne x zero32) (Ieee.neg x) x

-- "v = value - min"
unfoldable pub above_of : Float → ℤ → Float
above_of low raw = Ieee.sub binary32 (Ieee.of_int binary32 raw) low

unfoldable pub axis_scaled_of : Float → Float → Bool → Bool → ℤ → Float
unfolding plus_odd centred_of turned_of above_of clamp_of
axis_scaled_of low range odd reversed raw =
    clamp_of (turned_of reversed (centred_of (plus_odd odd (above_of low raw)) (plus_odd odd range))) minus_one32 one32

-- "Button from an axis: v / range with no odd rule, held to 0..1"
unfoldable pub button_scaled_of : Float → Float → ℤ → Float
unfolding above_of clamp_of
button_scaled_of low range raw = clamp_of (Ieee.div binary32 (above_of low raw) range) zero32 one32

unfoldable pub axis_value_of : ℤ → ℤ → Bool → ℤ → Float
unfolding axis_scaled_of low_of range_of odd_of
axis_value_of min max reversed raw = axis_scaled_of (low_of min) (range_of min max) (odd_of min max) reversed raw

unfoldable pub button_value_of : ℤ → ℤ → ℤ → Float
unfolding button_scaled_of low_of range_of
button_value_of min max raw = button_scaled_of (low_of min) (range_of min max) raw

-- ---- the deadzone's threshold

-- "deadzone / (max - min) * 2, absent 0.1"
unfoldable pub threshold_of : ℤ → ℤ → ℕ → Float
unfolding range_of
threshold_of min max deadzone =
    cond (eqb deadzone absent) default_threshold (Ieee.mul binary32 (Ieee.div binary32 (Ieee.of_int binary32 (pos deadzone)) (range_of min max)) two32)
