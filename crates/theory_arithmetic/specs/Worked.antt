-- 01's "Numbers worked out" that are to be proved (P): one table, one theorem, computed by the checker from the definitions of `numbers` and `rules`.
-- A value is compared as its bits, so that 0.0 and -0.0 differ. A new kind of case is one constructor, one clause of `right` and its rows.
use Rattle.std.specs.Prelude.{◌≡◌, refl, Bool, true, false, ◌&&◌, List, [], ◌∷◌, ℕ, ℤ, pos, negsuc, eqb, Float}
use Rattle.std.specs.Float.Ieee as Ieee
use Rattle.std.specs.Float.{binary32}
use Rattle.numbers.specs.Scale.{axis_value_of, button_value_of, threshold_of}
use Rattle.numbers.specs.Deadzone.{deadzone_of}
use Rattle.theory_arithmetic.specs.WorkedRepeats.{held, repeats}

-- what is asked of min, max and a raw value, or of a pair and a threshold, and last the bits that 01 gives; or of a button held since a time, after, every
-- and now, and last the repeats
pub data Case : Type 0 where
  axis : ℤ → ℤ → ℤ → ℕ → Case
  trigger : ℤ → ℤ → ℤ → ℕ → Case
  threshold : ℤ → ℤ → ℕ → ℕ → Case
  deadzone : ℕ → ℕ → ℕ → ℕ → ℕ → Case
  repeat : ℕ → ℕ → ℕ → ℕ → ℕ → Case

abbrev pub value : ℕ → Float
value bits = Ieee.of_bits binary32 bits

abbrev pub gives : Float → ℕ → Bool
gives x bits = eqb (Ieee.to_bits binary32 x) bits

-- more repeats than the table has
abbrev pub enough : ℕ
enough = 20

abbrev pub right : Case → Bool
right (axis min max raw bits) = gives (axis_value_of min max false raw) bits
right (trigger min max raw bits) = gives (button_value_of min max raw) bits
right (threshold min max size bits) = gives (threshold_of min max size) bits
right (deadzone x y t left up) =
    gives (deadzone_of (value x) (value y) (value t)).x left && gives (deadzone_of (value x) (value y) (value t)).y up
right (repeat since after every now count) = eqb (repeats enough (held since) after every now) count

abbrev pub all : List Case → Bool
all [] = true
all (c ∷ cs) = right c && all cs

-- the bits of the values that 01 names
abbrev pub zero : ℕ
zero = 0

abbrev pub quarter : ℕ
quarter = 0x3e800000

abbrev pub half : ℕ
half = 0x3f000000

abbrev pub three_quarters : ℕ
three_quarters = 0x3f400000

abbrev pub one : ℕ
one = 0x3f800000

abbrev pub minus_one : ℕ
minus_one = 0xbf800000

-- -0.9921875 and 2^-15
abbrev pub first-of-256 : ℕ
first-of-256 = 0xbf7e0000

abbrev pub first-above-middle : ℕ
first-above-middle = 0x38000000

abbrev pub table : List Case
table =
    -- range 0..255
    axis (pos 0) (pos 255) (pos 0) first-of-256
    ∷ axis (pos 0) (pos 255) (pos 127) zero
    ∷ axis (pos 0) (pos 255) (pos 255) one
    -- -32,768..32,767
    ∷ axis (negsuc 32767) (pos 32767) (negsuc 0) zero
    ∷ axis (negsuc 32767) (pos 32767) (pos 0) first-above-middle
    -- -1..1
    ∷ axis (negsuc 0) (pos 1) (negsuc 0) minus_one
    ∷ axis (negsuc 0) (pos 1) (pos 0) zero
    ∷ axis (negsuc 0) (pos 1) (pos 1) one
    -- trigger 0..4
    ∷ trigger (pos 0) (pos 4) (pos 3) three_quarters
    -- deadzone 32 of 0..256
    ∷ threshold (pos 0) (pos 256) 32 quarter
    -- (0.25, 0) at 0.25, (0.75, 0) at 0.5, (1, 1) at 0.5
    ∷ deadzone quarter zero quarter zero zero
    ∷ deadzone three_quarters zero half half zero
    ∷ deadzone one one half one one
    -- held since 0, after 500, every 30: now 1,000 and now 499
    ∷ repeat 0 500 30 1000 17
    ∷ repeat 0 500 30 499 0
    ∷ []

pub worked : all table ≡ true
unfolding held repeats axis_value_of button_value_of threshold_of deadzone_of Ieee.to_bits Ieee.of_bits Ieee.of_int Ieee.add Ieee.sub Ieee.mul Ieee.div Ieee.lt Ieee.le
worked = refl
