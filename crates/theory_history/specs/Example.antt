-- Closed examples of the history rule, computed by the checker.
use Rattle.std.specs.Prelude.{ℕ, true, false, cond, [], ◌∷◌, ◌≡◌, refl, eqb, ℤ, pos, negsuc, Float}
use Rattle.std.specs.Float.Ieee as Ieee
use Rattle.std.specs.Float.{binary32}
use Rattle.std.specs.Float.Ieee.{of_bits}
use Rattle.numbers.specs.Constants.{zero32, one32, minus_one32}
use Rattle.numbers.specs.Scale.{axis_scaled_of, button_scaled_of}
use Rattle.numbers.specs.Deadzone.{deadzone_of}
use Rattle.rules.specs.declared.RawRecord.{RawRecord}
use Rattle.rules.specs.declared.Element.{Element}
use Rattle.rules.specs.Names.{dpad_x, dpad_y}
use Rattle.theory_history.specs.Rule.{nothing, held, button_reads, trigger_reads, hat_value}

abbrev of : ℕ → ℕ → ℕ → ℤ → RawRecord
of kind pad code value = record { kind = kind; pad = pad; code = code; value = value; time = 0 }

abbrev press : ℕ → RawRecord
press code = of 1 0 code (pos 0)

abbrev release : ℕ → RawRecord
release code = of 2 0 code (pos 0)

abbrev move : ℕ → ℤ → RawRecord
move code value = of 3 0 code value

abbrev join : ℕ → RawRecord
join pad = of 4 pad 0 (pos 0)

abbrev leave : RawRecord
leave = of 5 0 0 (pos 0)

-- ---- "pressed and value as its last record, false and 0.0 if none": the newest record stands first

pressed : button_reads 0 7 (press 8 ∷ press 7 ∷ release 7 ∷ []) ≡ held true
unfolding button_reads
pressed = refl

released : button_reads 0 7 (release 7 ∷ press 7 ∷ []) ≡ held false
unfolding button_reads
released = refl

-- "records of a disconnected pad .. count", and another pad's do not
parted : button_reads 0 7 (press 7 ∷ leave ∷ of 2 1 7 (pos 0) ∷ []) ≡ held true
unfolding button_reads
parted = refl

-- "since the pad's last Connected"; another pad's is none of its own
rejoined : button_reads 0 7 (join 0 ∷ press 7 ∷ []) ≡ nothing
unfolding button_reads
rejoined = refl

other-joined : button_reads 0 7 (join 1 ∷ press 7 ∷ []) ≡ held true
unfolding button_reads
other-joined = refl

-- ---- a trigger of 0..4, thresholds 0.75 and 0.5, deadzone 0.5: 3 presses, 3 after it stays, 2 releases, and 2 after nothing is not pressed

half : Float
half = of_bits binary32 0x3f000000

trigger : Element
trigger = record { low = zero32; range = of_bits binary32 0x40800000; odd = false; threshold = half }

squeezed : trigger_reads (of_bits binary32 0x3f400000) half trigger 0 9 (move 9 (pos 3) ∷ []) ≡ record { pressed = true; value = half }
unfolding half trigger trigger_reads button_scaled_of deadzone_of Ieee.of_bits Ieee.of_int Ieee.add Ieee.sub Ieee.mul Ieee.div Ieee.neg Ieee.lt Ieee.le
squeezed = refl

eased : trigger_reads (of_bits binary32 0x3f400000) half trigger 0 9 (move 9 (pos 2) ∷ move 9 (pos 3) ∷ []) ≡ nothing
unfolding half trigger trigger_reads button_scaled_of deadzone_of Ieee.of_bits Ieee.of_int Ieee.add Ieee.sub Ieee.mul Ieee.div Ieee.neg Ieee.lt Ieee.le
eased = refl

-- at 0.6 a trigger keeps what it is: 3 of 0..5 is between the thresholds
between : Element
between = record { low = zero32; range = of_bits binary32 0x40a00000; odd = false; threshold = one32 }

kept : trigger_reads (of_bits binary32 0x3f400000) half between 0 9 (move 9 (pos 3) ∷ move 9 (pos 4) ∷ []) ≡ record { pressed = true; value = zero32 }
unfolding half between trigger_reads button_scaled_of deadzone_of Ieee.of_bits Ieee.of_int Ieee.add Ieee.sub Ieee.mul Ieee.div Ieee.neg Ieee.lt Ieee.le
kept = refl

not_yet : trigger_reads (of_bits binary32 0x3f400000) half between 0 9 (move 9 (pos 3) ∷ []) ≡ nothing
unfolding half between trigger_reads button_scaled_of deadzone_of Ieee.of_bits Ieee.of_int Ieee.add Ieee.sub Ieee.mul Ieee.div Ieee.neg Ieee.lt Ieee.le
not_yet = refl

-- ---- a hat of -1..1 on code 3, and a button on code 4 that is named DPadY

hat : Element
hat = record { low = minus_one32; range = of_bits binary32 0x40000000; odd = false; threshold = zero32 }

named : ℕ → ℕ
named c = cond (eqb c 3) dpad_x dpad_y

left : hat_value false named (λ c. hat) dpad_x 0 (press 4 ∷ move 3 (negsuc 0) ∷ []) ≡ minus_one32
unfolding hat named hat_value axis_scaled_of Ieee.of_bits Ieee.of_int Ieee.add Ieee.sub Ieee.mul Ieee.div Ieee.neg Ieee.ne Ieee.eq Ieee.lt Ieee.le
left = refl

up : hat_value false named (λ c. hat) dpad_y 0 (move 3 (negsuc 0) ∷ press 4 ∷ []) ≡ one32
unfolding hat named hat_value axis_scaled_of Ieee.of_bits
up = refl

centred : hat_value false named (λ c. hat) dpad_x 0 (join 0 ∷ move 3 (negsuc 0) ∷ []) ≡ zero32
unfolding hat named hat_value
centred = refl
