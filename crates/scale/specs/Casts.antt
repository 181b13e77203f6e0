-- 01's limits make every cast exact: a number inside them is read back from an `i32` as it is, and the cast to f32 keeps it; and no difference of two wraps.
-- Stated over plain numbers, for the proofs of every function that casts.
use Rattle.std.specs.Prelude.{◌≡◌, Bool, true, false, cond, ◌||◌, ℕ, zero, suc, ◌+◌, ◌-◌, ◌/◌, ◌≤◌, ◌<◌, ℤ, pos, negsuc, neg_ℤ, ◌-ℤ◌, T, ltb}
use Rattle.std.proofs.Common.{sym, ap, subst, div-le_self, arith, le→leb, lt→ltb, ltb-true, ne_eqb, SFits, to_z, of_z, to_z-of_z}
use Rattle.std.proofs.Math.IntN.{sub_ℕ}
use Rattle.std.specs.Int.Signed.{mag, quot_z}
use Rattle.std.specs.Float.{binary32}
use Rattle.std.specs.Float.Ieee.{of_int, in_float}
use Rattle.std.specs.Int.{w32}
use mir.ValLaws.{sfits_le}
use Rattle.numbers.specs.Constants.{within_of, deadzone_within_of}

-- ---- one number

mag-within : (z : ℤ) → within_of z ≡ true → mag z < 8388608
unfolding within_of
mag-within (pos n) h = ltb-true n 8388608 h
mag-within (negsuc n) h = ltb-true n 8388608 h

small : (z : ℤ) → mag z < 16777216 → SFits w32 z
small z h = record { sfits = omega arith }

-- the number that the machine reads is the number
pub read : (z : ℤ) → within_of z ≡ true → to_z w32 (of_z w32 z) ≡ z
read z h = to_z-of_z (small z (let m = mag-within z h in omega arith))

whole : (z : ℤ) → mag z < 8388608 → T (in_float binary32 z)
unfolding in_float
whole (pos n) h = le→leb n 16777216 (omega arith)
whole (negsuc n) h = lt→ltb n 16777216 (omega arith)

-- the cast is allowed, and gives the number
pub cast_fits : (z : ℤ) → within_of z ≡ true → T (in_float binary32 (to_z w32 (of_z w32 z)))
cast_fits z h = subst (λ (y : ℤ). T (in_float binary32 y)) (sym (read z h)) (whole z (mag-within z h))

pub cast_is : (z : ℤ) → within_of z ≡ true → of_int binary32 (to_z w32 (of_z w32 z)) ≡ of_int binary32 z
cast_is z h = ap (of_int binary32) (read z h)

-- ---- a difference of two

sub-mag : (x y h : ℕ) → 0 < h → x ≤ h → y ≤ h → mag (sub_ℕ x y) < h + h
sub-mag x y h o p q = go (ltb x y)
  where
    go : (b : Bool) → mag (cond b (negsuc (y - suc x)) (pos (x - y))) < h + h
    go true = omega arith
    go false = omega arith

mag-sub : (a b : ℤ) (h : ℕ) → mag a < h → mag b < h → mag (a -ℤ b) < h + h
mag-sub (pos x) (pos zero) h p q = omega arith
mag-sub (pos x) (pos (suc y)) h p q = sub-mag x (suc y) h (omega arith) (omega arith) (omega arith)
mag-sub (pos x) (negsuc y) h p q = omega arith
mag-sub (negsuc x) (pos zero) h p q = sub-mag 0 (suc x) h (omega arith) (omega arith) (omega arith)
mag-sub (negsuc x) (pos (suc y)) h p q = omega arith
mag-sub (negsuc x) (negsuc y) h p q = sub-mag (suc y) (suc x) h (omega arith) (omega arith) (omega arith)

pub range-fits : (min max : ℤ) → within_of min ≡ true → within_of max ≡ true → SFits w32 (max -ℤ min)
range-fits min max p q = small (max -ℤ min) (mag-sub max min 8388608 (mag-within max q) (mag-within min p))

-- half of a number that fits, fits
mag-neg : (r a : ℕ) → r ≤ suc a → mag (neg_ℤ (pos r)) ≤ a
mag-neg zero a h = omega arith
mag-neg (suc r) a h = omega arith

mag-half : (z : ℤ) → mag (quot_z z (pos 2)) ≤ mag z
mag-half (pos a) = div-le_self a 2
mag-half (negsuc a) = mag-neg (suc a / 2) a (div-le_self (suc a) 2)

pub half-fits : (z : ℤ) → SFits w32 z → SFits w32 (quot_z z (pos 2))
half-fits z h = sfits_le (mag-half z) h

-- ---- a deadzone

pub deadzone-fits : (d : ℕ) → (d ≡ 0xFFFFFFFF → ⊥) → deadzone_within_of d ≡ true → T (in_float binary32 (pos d))
unfolding deadzone_within_of in_float
deadzone-fits d n h =
    let l = ltb-true d 16777216 (subst (λ (b : Bool). b || ltb d 16777216 ≡ true) (ne_eqb d 0xFFFFFFFF n) h) in
    le→leb d 16777216 (omega arith)
