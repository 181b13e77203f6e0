-- 02's W-203, hats that never reach minus one: the zones of a hat's value on a zone pad, and those that the hub keeps. Definitions only.
use Rattle.std.specs.Prelude.{ℕ, ◌+◌, ◌*◌, Bool, true, cond, List, set, eqb, Float}
use Rattle.std.specs.Float.{binary32}
use Rattle.std.specs.Float.Ieee.{of_bits, eq, le}
use Rattle.numbers.specs.Constants.{one32, minus_one32}
use Rattle.rules.specs.Names.{dpad_x}

-- ---- the zone of a value

abbrev pub half32 : Float
half32 = of_bits binary32 0x3f000000

abbrev pub minus_half32 : Float
minus_half32 = of_bits binary32 0xbf000000

-- "On such a pad 0.5 and above press Right or Up"; on any other "only exactly 1.0"
unfoldable pub in_plus : Bool → Float → Bool
in_plus zoned x = cond zoned (le half32 x) (eq x one32)

-- "-0.5 and below press Left or Down"; on any other pad exactly -1.0
unfoldable pub in_minus : Bool → Float → Bool
in_minus zoned x = cond zoned (le x minus_half32) (eq x minus_one32)

abbrev pub middle_zone : ℕ
middle_zone = 0

abbrev pub plus_zone : ℕ
plus_zone = 1

abbrev pub minus_zone : ℕ
minus_zone = 2

unfoldable pub zone_of : Float → ℕ
unfolding in_plus in_minus
zone_of x = cond (in_plus true x) plus_zone (cond (in_minus true x) minus_zone middle_zone)

-- ---- "the last converted one": a zone is kept for each pad and each of the names 39 and 40

abbrev pub zones_per_pad : ℕ
zones_per_pad = 2

-- where it stands; past the end for a pad that is none
unfoldable pub zone_place : ℕ → ℕ → ℕ
zone_place p n = zones_per_pad * p + cond (eqb n dpad_x) 0 1

-- "the middle at first and after Connected": both of a pad's
unfoldable pub centred_of : List ℕ → ℕ → List ℕ
centred_of zones p = set (set zones (zones_per_pad * p) middle_zone) (zones_per_pad * p + 1) middle_zone
