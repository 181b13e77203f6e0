-- W-205's worked cases, the pair with its report, computed by the checker; and statements that are too strong, refuted.
use Rattle.std.specs.Prelude.{ℕ, ◌≡◌, refl, true, false, List, [], ◌∷◌, ◌++◌, pos, negsuc, replicate, Float}
use Rattle.std.specs.Float.Ieee as Ieee
use Rattle.std.specs.Float.{nan, inf, binary32}
use Rattle.numbers.specs.Constants.{zero32, one32}
use Rattle.numbers.specs.Root.{magnitude_of}
use Rattle.numbers.specs.Tilt.{tilt_of, tilted_of}
use Rattle.numbers.specs.declared.Tilt.TheVariants.{Unmet, Inside, Between, Full}
use Rattle.rules.specs.declared.Hub.{Hub}
use Rattle.rules.specs.Forms.{record_bytes, kind_axis}
use Rattle.rules.specs.Sheets.{sheet_bytes, element_axis}
use Rattle.rules.specs.Pump.{pump_of}
use Rattle.rules.specs.Tilt.{pump_tilt}
use Rattle.rules.specs.Calls.{register_as, register_of}
use Rattle.theory_calls.specs.Machines.{bare}
use Rattle.theory_tilt.specs.Parts.{tilt_onward}

-- ---- the worked cases

abbrev quarter32 : Float
quarter32 = Ieee.of_bits binary32 0x3e800000

abbrev half32 : Float
half32 = Ieee.of_bits binary32 0x3f000000

abbrev three_quarters32 : Float
three_quarters32 = Ieee.of_bits binary32 0x3f400000

-- "(0.25, 0) at 0.25": at the threshold is inside
at-threshold : tilted_of quarter32 zero32 quarter32 ≡ record { pair = record { x = zero32; y = zero32 }; tilt = Inside }
unfolding tilted_of Ieee.of_bits Ieee.add Ieee.sub Ieee.mul Ieee.div Ieee.lt Ieee.le Ieee.eq
at-threshold = refl

-- "(0.75, 0) at 0.5": half the way from the threshold to 1
halfway : tilted_of three_quarters32 zero32 half32 ≡ record { pair = record { x = half32; y = zero32 }; tilt = Between }
unfolding tilted_of Ieee.of_bits Ieee.add Ieee.sub Ieee.mul Ieee.div Ieee.lt Ieee.le Ieee.eq
halfway = refl

-- "(1, 1) at 0.5": the corner's magnitude is held to 1, and the pair stays in the corner
corner : tilted_of one32 one32 half32 ≡ record { pair = record { x = one32; y = one32 }; tilt = Full }
unfolding tilted_of Ieee.of_bits Ieee.add Ieee.sub Ieee.mul Ieee.div Ieee.lt Ieee.le Ieee.eq
corner = refl

-- "(1, 0) at 1.0": at a threshold of 1 full tilt is inside
at_one : tilted_of one32 zero32 one32 ≡ record { pair = record { x = zero32; y = zero32 }; tilt = Inside }
unfolding tilted_of Ieee.of_bits Ieee.add Ieee.sub Ieee.mul Ieee.div Ieee.lt Ieee.le Ieee.eq
at_one = refl

-- ---- too strong: that Between says t < m < 1 of any values, and Full t < 1. A NaN is not compared

no_number : (tilt_of nan zero32 half32 ≡ Between) × (Ieee.lt half32 (magnitude_of nan zero32) ≡ false)
unfolding tilt_of magnitude_of Ieee.of_bits Ieee.add Ieee.mul Ieee.lt Ieee.le Ieee.eq
no_number = (refl, refl)

no-threshold : (tilt_of one32 zero32 nan ≡ Full) × (Ieee.lt nan one32 ≡ false)
unfolding tilt_of Ieee.of_bits Ieee.add Ieee.mul Ieee.lt Ieee.le Ieee.eq
no-threshold = (refl, refl)

-- ---- too strong: that Full leaves the pair at any threshold. 1 - t is infinite at -∞, and over itself it is no number

infinite : tilted_of one32 zero32 (inf true) ≡ record { pair = record { x = nan; y = nan }; tilt = Full }
unfolding tilted_of Ieee.of_bits Ieee.add Ieee.sub Ieee.mul Ieee.div Ieee.lt Ieee.le Ieee.eq
infinite = refl

-- ---- too strong: that a call in parts reports what its last part does

-- one axis element of -4..4 with a threshold of 0.5, and full tilt sent twice: jitter drops the second, so its step meets no threshold
sheet : List ℕ
unfolding sheet_bytes
sheet = sheet_bytes 0 (record { code = 0x00030000; kind = element_axis; name = 33; min = negsuc 3; max = pos 4; deadzone = 2 } ∷ [])

stick : Hub
unfolding bare sheet register_as Ieee.of_int Ieee.sub Ieee.mul Ieee.div
stick = (register_of bare sheet).hub

tilted : ℕ → List ℕ
unfolding record_bytes
tilted time = record_bytes (record { kind = kind_axis; pad = 0; code = 0x00030000; value = pos 4; time = time })

abbrev twice : List ℕ
twice = tilted 7 ++ tilted 8

abbrev room : List ℕ
room = replicate 88 0

-- the whole, its first part, and its second
parted :
    (pump_tilt stick twice 0 room 2 ≡ Full)
    × (pump_tilt stick twice 0 room 1 ≡ Full)
    × (tilt_onward (pump_of stick twice 0 room 1) twice 1 ≡ Unmet)
unfolding stick tilted pump_tilt pump_of Ieee.of_bits Ieee.to_bits Ieee.lt Ieee.le Ieee.eq Ieee.ne Ieee.of_int Ieee.sub Ieee.mul Ieee.div Ieee.neg Ieee.add
parted = (refl, refl, refl)
