-- W-203, zone pads: a value's zone at its limits, bit 7 of the hats byte, the kept zones' places, and what puts them back.
use Rattle.std.specs.Prelude.{ℕ, ◌≡◌, refl, true, false, [], ◌∷◌, Float}
use Rattle.std.specs.Float.Ieee as Ieee
use Rattle.std.specs.Float.{nan, binary32}
use Rattle.std.specs.Float.Ieee.{of_bits}
use Rattle.numbers.specs.Constants.{zero32, one32, minus_one32}
use Rattle.rules.specs.Names.{dpad_x, dpad_y}
use Rattle.rules.specs.Zones.{half32, minus_half32, in_plus, in_minus, zone_of, zone_place, centred_of}
use Rattle.rules.specs.Sheets.{zoned_of, hats_renamed}
use Rattle.rules.specs.Examples.Table.{◌is◌, Right}

-- ---- a value: both ends belong to their zones, and no number belongs to none

zone : Float → ℕ
unfolding zone_of Ieee.of_bits Ieee.le
zone x = zone_of x

zones :
    Right (
    zone half32 is 1
    ∷ zone (of_bits binary32 0x3effffff) is 0
    ∷ zone one32 is 1
    ∷ zone zero32 is 0
    ∷ zone minus_half32 is 2
    ∷ zone (of_bits binary32 0xbeffffff) is 0
    ∷ zone (of_bits binary32 0xbf7e0000) is 2
    ∷ zone minus_one32 is 2
    ∷ zone nan is 0
    ∷ [])
unfolding zone
zones = refl

-- any other pad goes by 1.0 and -1.0 alone
pressing :
    Right (
    in_plus true half32 is true
    ∷ in_plus false half32 is false
    ∷ in_plus false one32 is true
    ∷ in_minus true minus_half32 is true
    ∷ in_minus false minus_half32 is false
    ∷ in_minus false minus_one32 is true
    ∷ in_minus true half32 is false
    ∷ [])
unfolding in_plus in_minus Ieee.of_bits Ieee.le Ieee.eq
pressing = refl

-- ---- the hats byte

marks : Right (zoned_of 0 is false ∷ zoned_of 127 is false ∷ zoned_of 128 is true ∷ zoned_of 143 is true ∷ zoned_of 255 is true ∷ [])
unfolding zoned_of
marks = refl

renamed-hats : Right (hats_renamed 15 is 0 ∷ hats_renamed 143 is 128 ∷ hats_renamed 128 is 128 ∷ [])
unfolding hats_renamed
renamed-hats = refl

-- two places a pad, past the eight for a pad that is none; Connected puts both back
places : Right (zone_place 0 dpad_x is 0 ∷ zone_place 0 dpad_y is 1 ∷ zone_place 3 dpad_x is 6 ∷ zone_place 3 dpad_y is 7 ∷ zone_place 4 dpad_x is 8 ∷ [])
unfolding zone_place
places = refl

centred : centred_of (1 ∷ 2 ∷ 1 ∷ 2 ∷ 1 ∷ 2 ∷ 1 ∷ 2 ∷ []) 1 ≡ 1 ∷ 2 ∷ 0 ∷ 0 ∷ 1 ∷ 2 ∷ 1 ∷ 2 ∷ []
unfolding centred_of
centred = refl
