-- A trigger's values are proper: the one that scaling gives, and that after the deadzone, for a min below a max inside 01's limits, a raw value inside them
-- and any deadzone. From min up nothing has the sign (raw = min gives +0.0). Below min the quotient is 2 ^ -24 at least in size, so it does not round to -0.0,
-- which `clamp_of` would let by, and is held to 0.0 (`specs/Trigger`).
use Rattle.std.specs.Prelude.{◌≡◌, refl, Bool, true, cond, ℤ, pos, negsuc, ◌-ℤ◌, ltb, Float}
use Rattle.std.proofs.Common.{sym, ◌∙◌, le_trans, lt_of_le_of_lt, zero-lt-suc, zero-mul, mul_assoc, mul_right_comm, mul-pos, mul-le-mul_left, mul-le-mul_right, arith, lit<, lit≤, ltb→lt, le→leb, lt→ltb, ltb-true}
use Rattle.std.proofs.Math.Path.{ap, subst}
use Rattle.std.proofs.Math.Bool.{false}
use Prim.Native.Nat.{ℕ, zero, suc, ◌+◌, ◌-◌, ◌*◌, ◌≤◌, ◌<◌}
use Rattle.std.proofs.Math.IntN.{sub_ℕ}
use Rattle.std.specs.Int.Signed.{lt_z}
use Rattle.std.proofs.Math.Dec.{T, leb→le}
use Rattle.std.specs.Float.{nan, inf, fin}
use Rattle.std.specs.Float.Ieee.{binary32, up, down, round, sub, div, lt, le, of_int, in_float}
use Rattle.std.specs.Float.Ieee.Exact.{HasValue}
use Rattle.std.specs.Float.Ieee.Fits.{up_pos, div-fits}
use Rattle.std.specs.Float.Ieee.Scale.{round_same}
use Rattle.numbers.specs.Constants.{zero32, one32, whole_limit, within_of}
use Rattle.numbers.specs.Clamp.{clamp_of}
use Rattle.numbers.specs.Scale.{low_of, range_of, above_of, button_scaled_of, button_value_of, threshold_of}
use Rattle.numbers.specs.Deadzone.{deadzone_of}
use Rattle.numbers.specs.NoNan.{divisor}
use Rattle.numbers.specs.Whole.{Whole, cast, cast-minus, difference, plain}
use Rattle.numbers.proofs.Bounds.{button-value-held}
use Rattle.theory_arithmetic.specs.Units.{one, too_large, one-pos, power-held}
use Rattle.theory_arithmetic.specs.Rounding.{rounded, valued, at_most, at_least}
use Rattle.theory_arithmetic.specs.Operations.{div-units}
use Rattle.theory_arithmetic.specs.Kept.{div-plus, cast-plus, fits-float, range-pos, range-plus, range-divisor, threshold-least, threshold-fits}
use Rattle.theory_arithmetic.specs.Proper.{Proper, zero-proper, one-proper, cond-proper}
use Rattle.theory_arithmetic.proofs.ProperDeadzone.{alone-proper}
use Rattle.theory_arithmetic.specs.Trigger.{clamp-below, most}

-- ---- held to 0..1

clamp-proper : (x : Float) → Proper x → Proper (clamp_of x zero32 one32)
unfolding clamp_of
clamp-proper x p = cond-proper (lt x zero32) zero32 _ zero-proper (cond-proper (lt one32 x) one32 x one-proper p)

-- ---- -(n + 1) / (k + 1), where both are whole numbers of at most 2 ^ 24

-- a whole number in units
in-units : (x : Float) (s : Bool) (p : ℕ) → HasValue x s p 1 → HasValue x s (p * one) one
in-units nan s p v = v
in-units (inf t) s p v = v
in-units (fin t m e) s p v = (v.0, ap (λ (k : ℕ). k * one) (own (m * up e) ∙ v.1) ∙ mul_right_comm p (down e) one)
  where
    own : (k : ℕ) → k ≡ k * 1
    own k = omega arith

module _ (x y : Float) (n k : ℕ) (v : Whole x true (suc n)) (w : Whole y false (suc k)) (few : suc n ≤ most) (small : suc k ≤ most) where
  quotient : div binary32 x y ≡ round binary32 true (suc n) (suc k)
  quotient =
      div-units x y true false (suc n * one) (suc k * one) (in-units x true (suc n) v.has) (in-units y false (suc k) w.has) (mul-pos (zero-lt-suc k) one-pos)
      ∙ round_same binary32 true (suc n * one) (suc k * one) (suc n) (suc k) (mul-pos (zero-lt-suc k) one-pos) (zero-lt-suc k)
      (mul_right_comm (suc n) one (suc k) ∙ mul_assoc (suc n) (suc k) one)

  finite-size : rounded (suc n) (suc k) < too_large
  finite-size =
      lt_of_le_of_lt
      (at_most (suc n) (suc k) (most * one) (zero-lt-suc k) (power-held 173 (lit< tt)) (le_trans (mul-le-mul_right one few) (mul-le-mul_left (most * one) (zero-lt-suc k))))
      (lit< tt)

  some : 0 < rounded (suc n) (suc k)
  some =
      at_least (suc n) (suc k) 1 (zero-lt-suc k) (power-held 0 (lit< tt))
      (le_trans (mul-le-mul_left 1 small) (le_trans (lit≤ tt) (mul-le-mul_right one (zero-lt-suc n)))) finite-size

  quotient-held : clamp_of (div binary32 x y) zero32 one32 ≡ zero32
  quotient-held = clamp-below (div binary32 x y) (rounded (suc n) (suc k)) (valued (div binary32 x y) true (suc n) (suc k) quotient finite-size) some

-- ---- the difference of two whole numbers inside 01's limits is at most 2 ^ 24 in size

less : (a b : ℕ) → a ≤ whole_limit → b ≤ whole_limit → T (in_float binary32 (sub_ℕ a b))
unfolding in_float
less a b p q = go (ltb a b)
  where
    go : (b-more : Bool) → T (in_float binary32 (cond b-more (negsuc (b - suc a)) (pos (a - b))))
    go true = lt→ltb (b - suc a) most (omega arith)
    go false = le→leb (a - b) most (omega arith)

within-difference : (a b : ℤ) → within_of a ≡ true → within_of b ≡ true → T (in_float binary32 (a -ℤ b))
unfolding within_of in_float
within-difference (pos a) (pos b) p q =
    let h = ltb-true a whole_limit p in
    let k = ltb-true b whole_limit q in
    rw (plain a b) (less a b (omega arith) (omega arith))
within-difference (pos a) (negsuc b) p q =
    let h = ltb-true a whole_limit p in
    let k = ltb-true b whole_limit q in
    le→leb (a + suc b) most (omega arith)
within-difference (negsuc a) (pos zero) p q = less 0 (suc a) (omega arith) (ltb-true a whole_limit p)
within-difference (negsuc a) (pos (suc b)) p q =
    let h = ltb-true a whole_limit p in
    let k = ltb-true (suc b) whole_limit q in
    lt→ltb (suc (a + b)) most (omega arith)
within-difference (negsuc a) (negsuc b) p q = less (suc b) (suc a) (ltb-true b whole_limit q) (ltb-true a whole_limit p)

-- what may be divided by is not 0
no_zero : (x : Float) → T (divisor x) → HasValue x false 0 1 → ⊥
no_zero nan d v = d
no_zero (inf s) d v = d
no_zero (fin s zero e) d v = d
no_zero (fin s (suc m) e) d v = let some : 0 < suc m * up e = mul-pos (zero-lt-suc m) (up_pos e) in omega (arith, v.1, zero-mul (down e))

-- ---- the theorem

-- x is a whole number above 0
record Above (x : Float) : Type 0 where
  k : ℕ
  is : Whole x false (suc k)
  small : suc k ≤ most

module _ (min max : ℤ) (p : within_of min ≡ true) (q : within_of max ≡ true) (l : lt_z min max ≡ true) where
  range-above : Above (range_of min max)
  unfolding range_of in_float
  range-above =
      let r = range-pos min max l in
      let h : T (in_float binary32 (pos r.0)) = subst (λ (z : ℤ). T (in_float binary32 z)) r.1 (within-difference max min q p) in
      let e = difference max min (fits-float max q) (fits-float min p) ∙ ap (of_int binary32) r.1 in
      go r.0 (subst (λ (x : Float). Whole x false r.0) (sym e) (cast r.0 h)) h
    where
      go : (n : ℕ) → Whole (range_of min max) false n → T (in_float binary32 (pos n)) → Above (range_of min max)
      go zero w h = absurd (no_zero (range_of min max) (range-divisor min max p q l) w.has)
      go (suc k) w h = record { k = k; is = w; small = leb→le (suc k) most h }

  -- any value in 0..1 beside the threshold of these limits
  pub zoned-proper : (x : Float) → Proper x → le x one32 ≡ true → (deadzone : ℕ) → Proper (deadzone_of x zero32 (threshold_of min max deadzone)).x
  zoned-proper x h held deadzone = alone-proper x (threshold_of min max deadzone) h held (threshold-fits min max p q l deadzone) (threshold-least min max p q l deadzone)

  pub trigger-most : (raw : ℤ) → le (button_scaled_of (low_of min) (range_of min max) raw) one32 ≡ true
  unfolding button_value_of
  trigger-most raw = (button-value-held min max p q l raw).high

  module _ (raw : ℤ) (w : within_of raw ≡ true) where
    abbrev v : Float
    v = sub binary32 (of_int binary32 raw) (of_int binary32 min)

    -- from min up
    quotient-proper : (n : ℕ) → v ≡ of_int binary32 (pos n) → Proper (div binary32 v (range_of min max))
    quotient-proper n e =
        record {
          format = div-fits binary32 v (range_of min max);
          unsigned = div-plus v (range_of min max) (rw e (cast-plus (pos n) n refl)) (range-plus min max p q l) (range-divisor min max p q l);
        }

    -- below min
    below-min : (n : ℕ) → v ≡ of_int binary32 (negsuc n) → T (in_float binary32 (negsuc n)) → clamp_of (div binary32 v (range_of min max)) zero32 one32 ≡ zero32
    unfolding in_float
    below-min n e h =
        let r = range-above in
        rw e (quotient-held (of_int binary32 (negsuc n)) (range_of min max) n r.k (cast-minus n h) r.is (ltb→lt n most h) r.small)

    pub trigger-proper : Proper (button_scaled_of (low_of min) (range_of min max) raw)
    unfolding button_scaled_of above_of low_of
    trigger-proper = go (raw -ℤ min) (difference raw min (fits-float raw w) (fits-float min p)) (within-difference raw min w p)
      where
        go : (z : ℤ) → v ≡ of_int binary32 z → T (in_float binary32 z) → Proper (clamp_of (div binary32 v (range_of min max)) zero32 one32)
        go (pos n) e h = clamp-proper (div binary32 v (range_of min max)) (quotient-proper n e)
        go (negsuc n) e h = rw (below-min n e h) zero-proper

    pub trigger-zoned : (deadzone : ℕ) → Proper (deadzone_of (button_scaled_of (low_of min) (range_of min max) raw) zero32 (threshold_of min max deadzone)).x
    trigger-zoned deadzone = zoned-proper (button_scaled_of (low_of min) (range_of min max) raw) trigger-proper (trigger-most raw) deadzone
