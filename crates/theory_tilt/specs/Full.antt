-- Full leaves the pair as it was, bit for bit (W-205), at every finite threshold: the magnitude m is 1, so ((m - t) / (1 - t)) / m is ((1 - t) / (1 - t)) / 1, and
-- a finite value above 0 over itself is 1. Since t lies below 1, 1 - t lies above 0; and it is finite for a t far below 0 too, where 1 is too little to round
-- the largest value up. (At -∞ it is not: `infinite` of Example.)
use Rattle.std.specs.Prelude.{◌≡◌, refl, ◌⊎◌, true, false, ℕ, ◌+◌, ◌*◌, ◌^◌, ◌≤◌, ◌<◌, ℤ, T, Float}
use Rattle.std.proofs.Common.{sym, ap, ◌∙◌, subst, inl, inr, le_of_lt, lt_of_lt_of_le, lt_of_le_of_lt, le-add_right, mul-le-mul_right, lt_of_mul-lt-mul_right, zero-mul, arith, lit<, lit≤, le-ltb}
use Rattle.std.specs.Float.{nan, inf, fin, binary32}
use Rattle.std.specs.Float.Ieee.{up, down, size, add, sub, neg, lt, le, of_bits, fits, is_nan}
use Rattle.std.specs.Float.Ieee.Scale.{finite}
use Rattle.numbers.specs.Constants.{zero32, one32}
use Rattle.numbers.specs.Root.{magnitude_of}
use Rattle.numbers.specs.Deadzone.{inside_of, norm_of, deadzone_of}
use Rattle.numbers.specs.Order.{not-below}
use Rattle.numbers.specs.Tilt.{tilt_of}
use Rattle.numbers.specs.declared.Tilt.TheVariants.{Full}
use Rattle.binary32.specs.Values.{Held, held, grid}
use Rattle.theory_arithmetic.specs.Units.{one, too_large, one-pos, one-held}
use Rattle.theory_arithmetic.specs.Rounding.{rounded, valued, rounded-le, at_least}
use Rattle.theory_arithmetic.specs.Operations.{add-units}
use Rattle.theory_arithmetic.specs.Ends.{units_of, one-is}
use Rattle.theory_arithmetic.specs.Unmoved.{unshrunk}
use Rattle.theory_arithmetic.specs.FullTilt.{Some, rest-above, norm-one}
use Rattle.theory_tilt.specs.Three.{full_is}

-- ---- 1 and a size

-- the largest value
abbrev largest : ℕ
largest = 16777215 * 2 ^ 253

at-most-largest : (q : ℕ) → Held q → q ≤ largest
at-most-largest q h = by (grid q 253 h)
  where
    by : ((a : ℕ) × (q ≡ a * 2 ^ 253)) ⊎ (q < 8388608 * 2 ^ 253) → q ≤ largest
    by (inl g) =
        let few : g.0 < 16777216 = lt_of_mul-lt-mul_right (2 ^ 253) (subst (λ (k : ℕ). k < too_large) g.1 h.small) in
        let most : g.0 ≤ 16777215 = omega arith in
        subst (λ (k : ℕ). k ≤ largest) (sym g.1) (mul-le-mul_right (2 ^ 253) most)
    by (inr l) = le_of_lt (lt_of_lt_of_le l (lit≤ tt))

-- 1 is less than half a place there
largest-stays : rounded (one + largest) one ≡ largest
unfolding rounded size
largest-stays = refl

one_more : (q : ℕ) → Held q → rounded (one + q) one < too_large
one_more q h =
    let small : rounded (one + largest) one < too_large = rw largest-stays (lit< tt) in
    lt_of_le_of_lt (rounded-le (one + q) one (one + largest) one one-pos one-pos (mul-le-mul_right one (more one q largest (at-most-largest q h))) small) small
  where
    more : (a q r : ℕ) → q ≤ r → a + q ≤ a + r
    more a q r l = omega arith

-- ---- 1 - t

-- a finite value without the sign is 0 or above
least : (m : ℕ) (e : ℤ) → le zero32 (fin false m e) ≡ true
unfolding lt of_bits is_nan
least m e = not-below (fin false m e) zero32 refl refl (le-ltb (m * up e * 1) (0 * down e) (none (0 * down e) (m * up e * 1) (zero-mul (down e))))
  where
    none : (a b : ℕ) → a ≡ 0 → a ≤ b
    none a b h = omega arith

rest_some : (t : Float) → T (fits binary32 t) → T (finite t) → le one32 t ≡ false → Some (sub binary32 one32 t)
unfolding sub neg
rest_some nan f n out = absurd n
rest_some (inf s) f n out = absurd n
rest_some (fin true m e) f n out =
    let u = units_of true m e f in
    let q = u.0 in
    let small = one_more q (held (fin true m e) true q f (refl, u.1)) in
    record {
      units = rounded (one + q) one;
      has = valued (add binary32 one32 (fin false m e)) false (one + q) one (add-units one32 (fin false m e) one q one-is (refl, u.1)) small;
      some = lt_of_lt_of_le one-pos (at_least (one + q) one one one-pos one-held (mul-le-mul_right one (le-add_right one q)) small);
    }
rest_some (fin false m e) f n out = rest-above (fin false m e) f (least m e) out

-- ---- the theorem

pub full-unmoved : (x y t : Float) → T (fits binary32 x) → T (fits binary32 y) → T (fits binary32 t) → T (finite t) → tilt_of x y t ≡ Full
    → deadzone_of x y t ≡ record { x = x; y = y }
unfolding deadzone_of inside_of
full-unmoved x y t f g h n e =
    let is = full_is x y t e in
    let m = magnitude_of x y in
    let outside-one : le one32 t ≡ false = rw is.0 at is.1 in
    sym (unshrunk (le m t) (norm_of m t) x y is.1 (ap (λ (k : Float). norm_of k t) is.0 ∙ norm-one t (rest_some t h n outside-one)) f g)
