-- The numbers that 01's arithmetic names. Definitions only.
-- A binary32 constant is given by its bits, which is how the checker writes a literal of the code.
use Rattle.std.specs.Prelude.{Bool, ◌||◌, ℕ, ℤ, pos, negsuc, ltb, eqb, Float}
use Rattle.std.specs.Float.Ieee as Ieee
use Rattle.std.specs.Float.{binary32}

abbrev pub zero32 : Float
zero32 = Ieee.of_bits binary32 0

abbrev pub one32 : Float
one32 = Ieee.of_bits binary32 0x3f800000

abbrev pub two32 : Float
two32 = Ieee.of_bits binary32 0x40000000

abbrev pub minus_one32 : Float
minus_one32 = Ieee.of_bits binary32 0xbf800000

-- the binary32 nearest to 0.01: the threshold of gilrs's `Jitter::new`
abbrev pub jitter_limit : Float
jitter_limit = Ieee.of_bits binary32 0x3c23d70a

-- the binary32 nearest to 0.1: gilrs's `DEFAULT_DEADZONE`
abbrev pub default_threshold : Float
default_threshold = Ieee.of_bits binary32 0x3dcccccd

-- the deadzone field of a sheet's element that has none
abbrev pub absent : ℕ
absent = 0xFFFFFFFF

-- 2 ^ 23: min, max and raw values lie in -8,388,608..8,388,607
abbrev pub whole_limit : ℕ
whole_limit = 8388608

-- whether a number lies in -8,388,608..8,388,607 (`negsuc n` is -(n + 1))
unfoldable pub within_of : ℤ → Bool
within_of (pos n) = ltb n whole_limit
within_of (negsuc n) = ltb n whole_limit

-- 2 ^ 24: a deadzone lies in 0..16,777,215
abbrev pub deadzone_limit : ℕ
deadzone_limit = 16777216

-- whether a deadzone field is one that 01 allows: in those limits, or absent
unfoldable pub deadzone_within_of : ℕ → Bool
deadzone_within_of deadzone = eqb deadzone absent || ltb deadzone deadzone_limit
