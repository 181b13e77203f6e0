-- Operation 41 on payloads of three numbers: x, y and the threshold; operation 44 on pads of archived sheets. Computed.
use Rattle.std.specs.Prelude.{ℕ, ◌≡◌, refl, true, false, List, [], ◌∷◌, Float, Err, Ok}
use Rattle.std.specs.Float.Ieee as Ieee
use Rattle.std.specs.Float.{binary32}
use Rattle.numbers.specs.Tilt.{tilted_of}
use Rattle.numbers.specs.declared.Tilt.TheVariants.{Inside, Between, Full}
use Rattle.rules.specs.declared.Hub.{Hub}
use Rattle.rules.specs.Forms.{field_of}
use Rattle.rules.specs.Sheets.{sheet_bytes}
use Rattle.rules.specs.Calls.{new_of, register_as, register_archived_of}
use Rattle.rules.specs.Queries.{old_of}
use Rattle.replay_answers.specs.declared.Asked.{Asked}
use Rattle.replay_answers.specs.declared.Asked.TheVariants as asked
use Rattle.replay_queries.specs.Asked.{calculated, pair, old, by_pad, asked_of}
use Rattle.rules.specs.Refusals.{numbered}

-- ---- 41

-- the value with these bits
value : ℕ → Float
unfolding Ieee.of_bits
value bits = Ieee.of_bits binary32 bits

-- (0.75, 0) at 0.5 is (0.5, 0)
between :
    pair (0x3f ∷ 0x40 ∷ 0 ∷ 0 ∷ 0 ∷ 0 ∷ 0 ∷ 0 ∷ 0x3f ∷ 0 ∷ 0 ∷ 0 ∷ [])
    ≡ asked.Pair (record { pair = record { x = value 0x3f000000; y = value 0 }; tilt = Between })
unfolding value pair calculated tilted_of field_of Ieee.of_bits Ieee.is_nan Ieee.add Ieee.sub Ieee.mul Ieee.div Ieee.lt Ieee.le Ieee.eq
between = refl

-- -0.0 and 1 at 0.5: full, and as it was, bit for bit
full :
    pair (0x80 ∷ 0 ∷ 0 ∷ 0 ∷ 0x3f ∷ 0x80 ∷ 0 ∷ 0 ∷ 0x3f ∷ 0 ∷ 0 ∷ 0 ∷ [])
    ≡ asked.Pair (record { pair = record { x = value 0x80000000; y = value 0x3f800000 }; tilt = Full })
unfolding value pair calculated tilted_of field_of Ieee.of_bits Ieee.is_nan Ieee.add Ieee.sub Ieee.mul Ieee.div Ieee.lt Ieee.le Ieee.eq
full = refl

-- (1, 0) at 1
inside :
    pair (0x3f ∷ 0x80 ∷ 0 ∷ 0 ∷ 0 ∷ 0 ∷ 0 ∷ 0 ∷ 0x3f ∷ 0x80 ∷ 0 ∷ 0 ∷ [])
    ≡ asked.Pair (record { pair = record { x = value 0; y = value 0 }; tilt = Inside })
unfolding value pair calculated tilted_of field_of Ieee.of_bits Ieee.is_nan Ieee.add Ieee.sub Ieee.mul Ieee.div Ieee.lt Ieee.le Ieee.eq
inside = refl

-- a threshold that is a NaN, and one byte too few
no_number : pair (0x3f ∷ 0x80 ∷ 0 ∷ 0 ∷ 0 ∷ 0 ∷ 0 ∷ 0 ∷ 0x7f ∷ 0x80 ∷ 0 ∷ 1 ∷ []) ≡ asked.Nothing
unfolding pair calculated field_of Ieee.of_bits Ieee.is_nan
no_number = refl

too_short : pair (0x3f ∷ 0x80 ∷ 0 ∷ 0 ∷ 0 ∷ 0 ∷ 0 ∷ 0 ∷ 0x3f ∷ 0x80 ∷ 0 ∷ []) ≡ asked.Nothing
unfolding pair
too_short = refl

-- ---- 44

-- three of the four directions mapped, and all four
archived : Hub
archived =
    (register_archived_of (register_archived_of (new_of (value 0x3f400000) (value 0x3f000000) false true true).hub (sheet_bytes 7 [])).hub (sheet_bytes 15 [])).hub

asks : List ℕ → Asked
asks payload = asked_of archived 44 payload

-- a pad that is not registered, and a payload too long
olds :
    (asks (0 ∷ []) ∷ asks (1 ∷ []) ∷ asks (2 ∷ []) ∷ asks (0 ∷ 0 ∷ []) ∷ [])
    ≡ (asked.Truth (Ok true) ∷ asked.Truth (Ok false) ∷ asked.Truth (Err (numbered 6)) ∷ asked.Nothing ∷ [])
unfolding value archived asks new_of register_as sheet_bytes old_of old by_pad asked_of Ieee.of_bits Ieee.lt Ieee.le
olds = refl
