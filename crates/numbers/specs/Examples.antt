-- A closed example beside each rule, computed by the checker.
use Rattle.std.specs.Prelude.{◌≡◌, refl, true, false, ℕ, pos, negsuc, Float}
use Rattle.std.specs.Float.Ieee as Ieee
use Rattle.std.specs.Float.{binary32}
use Rattle.numbers.specs.Constants.{zero32, one32, minus_one32, absent, default_threshold, within_of}
use Rattle.numbers.specs.Clamp.{clamp_of}
use Rattle.numbers.specs.Root.{sqrt_of, magnitude_of}
use Rattle.numbers.specs.Scale.{odd_of, axis_value_of, button_value_of, threshold_of}
use Rattle.numbers.specs.Deadzone.{deadzone_of}
use Rattle.numbers.specs.Tilt.{tilt_of}
use Rattle.numbers.specs.declared.Tilt.TheVariants.{Inside, Between, Full}
use Rattle.numbers.specs.Jitter.{jitter_of}

-- the value with these bits
abbrev value : ℕ → Float
value bits = Ieee.of_bits binary32 bits

-- the limits, and one past each
last_within : within_of (pos 8388607) ≡ true
unfolding within_of
last_within = refl

past-last : within_of (pos 8388608) ≡ false
unfolding within_of
past-last = refl

first-within : within_of (negsuc 8388607) ≡ true
unfolding within_of
first-within = refl

before-first : within_of (negsuc 8388608) ≡ false
unfolding within_of
before-first = refl

-- 1.5 held to -1..1
held : clamp_of (value 0x3fc00000) minus_one32 one32 ≡ one32
unfolding clamp_of Ieee.of_bits Ieee.lt
held = refl

-- the root of 2, and of the smallest value
root-of-two : sqrt_of (value 0x40000000) ≡ value 0x3fb504f3
unfolding sqrt_of Ieee.of_bits
root-of-two = refl

root-of-smallest : sqrt_of (value 1) ≡ value 0x1a3504f3
unfolding sqrt_of Ieee.of_bits
root-of-smallest = refl

-- a stick in its corner has magnitude 1, not 1.414
corner : magnitude_of one32 one32 ≡ one32
unfolding magnitude_of Ieee.of_bits Ieee.add Ieee.mul Ieee.lt
corner = refl

-- 0..255 has an odd range, -1..1 has not
odd-range : odd_of (pos 0) (pos 255) ≡ true
unfolding odd_of
odd-range = refl

even-range : odd_of (negsuc 0) (pos 1) ≡ false
unfolding odd_of
even-range = refl

-- a raw value below min is held: -1 on 0..255 gives -1.0
below-min : axis_value_of (pos 0) (pos 255) false (negsuc 0) ≡ minus_one32
unfolding axis_value_of Ieee.of_bits Ieee.of_int Ieee.add Ieee.sub Ieee.mul Ieee.div Ieee.lt
below-min = refl

-- Y reversed: 1 on -1..1 gives -1.0, and the middle stays 0.0
reversed_end : axis_value_of (negsuc 0) (pos 1) true (pos 1) ≡ minus_one32
unfolding axis_value_of Ieee.of_bits Ieee.of_int Ieee.add Ieee.sub Ieee.mul Ieee.div Ieee.lt Ieee.ne Ieee.neg
reversed_end = refl

reversed-middle : axis_value_of (negsuc 0) (pos 1) true (pos 0) ≡ zero32
unfolding axis_value_of Ieee.of_bits Ieee.of_int Ieee.add Ieee.sub Ieee.mul Ieee.div Ieee.lt Ieee.ne Ieee.neg
reversed-middle = refl

-- a trigger of odd range 0..255 rests at 0.0
trigger-rest : button_value_of (pos 0) (pos 255) (pos 0) ≡ zero32
unfolding button_value_of Ieee.of_bits Ieee.of_int Ieee.sub Ieee.div Ieee.lt
trigger-rest = refl

absent-threshold : threshold_of (pos 0) (pos 256) absent ≡ default_threshold
unfolding threshold_of
absent-threshold = refl

-- 32 of 0..256 is 0.25
some-threshold : threshold_of (pos 0) (pos 256) 32 ≡ value 0x3e800000
unfolding threshold_of Ieee.of_bits Ieee.of_int Ieee.sub Ieee.mul Ieee.div
some-threshold = refl

-- at the threshold is inside: (0.25, 0) at 0.25
at-threshold : deadzone_of (value 0x3e800000) zero32 (value 0x3e800000) ≡ record { x = zero32; y = zero32 }
unfolding deadzone_of Ieee.of_bits Ieee.add Ieee.sub Ieee.mul Ieee.div Ieee.lt Ieee.le
at-threshold = refl

-- which of the three: at the threshold is inside
tilt-at-threshold : tilt_of (value 0x3e800000) zero32 (value 0x3e800000) ≡ Inside
unfolding tilt_of Ieee.of_bits Ieee.add Ieee.mul Ieee.lt Ieee.le Ieee.eq
tilt-at-threshold = refl

-- (0.75, 0) at 0.5
tilt-between : tilt_of (value 0x3f400000) zero32 (value 0x3f000000) ≡ Between
unfolding tilt_of Ieee.of_bits Ieee.add Ieee.mul Ieee.lt Ieee.le Ieee.eq
tilt-between = refl

-- the corner at 0.5, whose magnitude is held to 1
tilt-full : tilt_of one32 one32 (value 0x3f000000) ≡ Full
unfolding tilt_of Ieee.of_bits Ieee.add Ieee.mul Ieee.lt Ieee.le Ieee.eq
tilt-full = refl

-- (0.8, 0.6) at 0.5: the partner counts
tilt-beside : tilt_of (value 0x3f4ccccd) (value 0x3f19999a) (value 0x3f000000) ≡ Full
unfolding tilt_of Ieee.of_bits Ieee.add Ieee.mul Ieee.lt Ieee.le Ieee.eq
tilt-beside = refl

-- at a threshold of 1 full tilt is inside
tilt-at-one : tilt_of one32 zero32 one32 ≡ Inside
unfolding tilt_of Ieee.of_bits Ieee.add Ieee.mul Ieee.lt Ieee.le Ieee.eq
tilt-at-one = refl

-- 0.505 jitters against 0.5, 0.0 never does
near-stored : jitter_of (value 0x3f0147ae) (value 0x3f000000) ≡ true
unfolding jitter_of Ieee.of_bits Ieee.sub Ieee.lt Ieee.ne Ieee.neg
near-stored = refl

zero-passes : jitter_of zero32 (value 0x3ba3d70a) ≡ false
unfolding jitter_of Ieee.of_bits Ieee.sub Ieee.lt Ieee.ne Ieee.neg
zero-passes = refl
