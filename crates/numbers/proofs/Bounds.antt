-- Where a scaled value lies. Of kept values: where low is finite and the range, with the odd rule, is finite and not 0, an axis lies in -1..1 and a trigger in 0..1,
-- whatever the raw value. And the values that a min below a max inside 01's limits give are such. So no NaN and no infinity comes out of scaling.
use Rattle.std.specs.Prelude.{◌≡◌, refl, Bool, true, false, cond, ◌&&◌, ℕ, zero, suc, ◌+◌, ◌-◌, ◌*◌, ◌≤◌, ◌<◌, ℤ, pos, negsuc, ◌-ℤ◌, Float}
use Rattle.std.proofs.Common.{ap, ◌∙◌, le_of_lt, mul-pos, zero-mul, arith, le→leb, lt→ltb, ltb-true, le-ltb}
use Rattle.std.proofs.lemmas.Bool.{false≢true}
use Rattle.std.proofs.Math.IntN.{sub_ℕ}
use Rattle.std.specs.Int.Signed.{lt_z}
use Rattle.std.proofs.Math.Dec.{T}
use Rattle.std.specs.Float.{nan, inf, fin}
use Rattle.std.specs.Float.Ieee.{binary32, up, down, add, sub, div, neg, ne, of_int, of_bits, is_nan, in_float, le}
use Rattle.std.specs.Float.Ieee.Exact.{HasValue}
use Rattle.std.specs.Float.Ieee.Fits.{down_pos}
use Rattle.std.specs.Float.Ieee.Scale.{finite}
use Rattle.numbers.specs.Constants.{zero32, one32, two32, minus_one32, within_of}
use Rattle.numbers.specs.Scale.{low_of, range_of, odd_of, plus_odd, centred_of, turned_of, above_of, axis_scaled_of, button_scaled_of, axis_value_of, button_value_of}
use Rattle.numbers.specs.Order.{Between, held}
use Rattle.numbers.specs.NoNan.{divisor, round_number, add-number, sub_number, mul-number, div-number, neg-number}
use Rattle.numbers.specs.Whole.{Whole, cast, cast-minus, difference, one_more, plain}

-- ---- of kept values

one-finite : T (finite one32)
unfolding of_bits
one-finite = tt

two-divides : T (divisor two32)
unfolding of_bits
two-divides = tt

cast-number : (z : ℤ) → is_nan (of_int binary32 z) ≡ false
unfolding of_int
cast-number (pos n) = round_number binary32 false n 1
cast-number (negsuc n) = round_number binary32 true (suc n) 1

above-number : (low : Float) (raw : ℤ) → T (finite low) → is_nan (above_of low raw) ≡ false
unfolding above_of
above-number low raw h = sub_number binary32 (of_int binary32 raw) low (cast-number raw) h

plus-number : (odd : Bool) (x : Float) → is_nan x ≡ false → is_nan (plus_odd odd x) ≡ false
unfolding plus_odd
plus-number true x h = add-number binary32 x one32 h one-finite
plus-number false x h = h

centred-number : (v range : Float) → is_nan v ≡ false → T (divisor range) → is_nan (centred_of v range) ≡ false
unfolding centred_of
centred-number v range h p = sub_number binary32 _ one32 (mul-number binary32 _ two32 (div-number binary32 v range h p) two-divides) one-finite

turned-number : (reversed : Bool) (x : Float) → is_nan x ≡ false → is_nan (turned_of reversed x) ≡ false
unfolding turned_of
turned-number reversed x h = go (reversed && ne x zero32)
  where
    go : (b : Bool) → is_nan (cond b (neg x) x) ≡ false
    go true = neg-number x h
    go false = h

ends : le minus_one32 one32 ≡ true
unfolding le of_bits
ends = refl

trigger-ends : le zero32 one32 ≡ true
unfolding le of_bits
trigger-ends = refl

module _ (low range : Float) (h : T (finite low)) where
  pub axis-held : (odd reversed : Bool) (raw : ℤ) → T (divisor (plus_odd odd range)) → Between minus_one32 one32 (axis_scaled_of low range odd reversed raw)
  unfolding axis_scaled_of
  axis-held odd reversed raw p =
      held (turned_of reversed (centred_of (plus_odd odd (above_of low raw)) (plus_odd odd range))) minus_one32 one32
      (turned-number reversed _ (centred-number _ _ (plus-number odd _ (above-number low raw h)) p)) ends

  pub button-held : (raw : ℤ) → T (divisor range) → Between zero32 one32 (button_scaled_of low range raw)
  unfolding button_scaled_of
  button-held raw p = held (div binary32 (above_of low raw) range) zero32 one32 (div-number binary32 _ _ (above-number low raw h) p) trigger-ends

-- ---- of a min below a max

fits-float : (z : ℤ) → within_of z ≡ true → T (in_float binary32 z)
unfolding within_of in_float
fits-float (pos n) h = let l = ltb-true n 8388608 h in le→leb n 16777216 (omega arith)
fits-float (negsuc n) h = let l = ltb-true n 8388608 h in lt→ltb n 16777216 (omega arith)

-- max - min is n + 1, which has at most 24 digits
record Range (min max : ℤ) : Type 0 where
  n : ℕ
  is : max -ℤ min ≡ pos (n + 1)
  small : n + 1 < 16777216

above_zero : (a b : ℕ) → a < b → sub_ℕ b a ≡ pos (b - a - 1 + 1)
above_zero a b h =
    let e : b - a ≡ b - a - 1 + 1 = omega arith in
    rw (le-ltb b a (omega arith)) (ap pos e)

range-of : (min max : ℤ) → within_of min ≡ true → within_of max ≡ true → lt_z min max ≡ true → Range min max
unfolding within_of
range-of (pos a) (pos b) p q l =
    let h = ltb-true a b l in
    let k = ltb-true b 8388608 q in
    record { n = b - a - 1; is = plain b a ∙ above_zero a b h; small = omega arith }
range-of (pos a) (negsuc b) p q l = absurd (false≢true l)
range-of (negsuc a) (pos b) p q l =
    let h = ltb-true a 8388608 p in
    let k = ltb-true b 8388608 q in
    let e : b + suc a ≡ b + a + 1 = omega arith in
    record { n = b + a; is = ap pos e; small = omega arith }
range-of (negsuc a) (negsuc b) p q l =
    let h = ltb-true b a l in
    let k = ltb-true a 8388608 p in
    record { n = suc a - suc b - 1; is = above_zero (suc b) (suc a) (omega arith); small = omega arith }

-- a value that is a whole number is finite, and one above 0 may be divided by
whole-finite : {x : Float} {s : Bool} {p : ℕ} → Whole x s p → T (finite x)
whole-finite {x} {s} {p} w = go x w.has
  where
    go : (x : Float) → HasValue x s p 1 → T (finite x)
    go nan v = v
    go (inf t) v = v
    go (fin t m e) v = tt

whole-divides : {x : Float} {p : ℕ} → Whole x false p → 0 < p → T (divisor x)
whole-divides {x} {p} w o = go x w.has
  where
    go : (x : Float) → HasValue x false p 1 → T (divisor x)
    go nan v = v
    go (inf s) v = v
    go (fin s zero e) v = let h : 0 < p * down e = mul-pos o (down_pos e) in absurd (omega (arith, v.1, zero-mul (up e)))
    go (fin s (suc m) e) v = tt

module _ (min max : ℤ) (p : within_of min ≡ true) (q : within_of max ≡ true) (l : lt_z min max ≡ true) where
  pub low-finite : T (finite (low_of min))
  unfolding low_of
  low-finite = go min (fits-float min p)
    where
      go : (z : ℤ) → T (in_float binary32 z) → T (finite (of_int binary32 z))
      go (pos n) h = whole-finite (cast n h)
      go (negsuc n) h = whole-finite (cast-minus n h)

  pub range-divides : (odd : Bool) → T (divisor (plus_odd odd (range_of min max)))
  unfolding range_of plus_odd in_float
  range-divides odd = go odd
    where
      r : Range min max
      r = range-of min max p q l

      exact : sub binary32 (of_int binary32 max) (of_int binary32 min) ≡ of_int binary32 (pos (r.n + 1))
      exact = difference max min (fits-float max q) (fits-float min p) ∙ ap (of_int binary32) r.is

      small : (k : ℕ) → k ≤ 16777216 → T (in_float binary32 (pos k))
      small k h = le→leb k 16777216 h

      some : (k : ℕ) → 0 < k + 1
      some k = omega arith

      next : (k : ℕ) → k < 16777216 → k + 1 ≤ 16777216
      next k h = omega arith

      go : (odd : Bool) → T (divisor (cond odd (add binary32 (sub binary32 (of_int binary32 max) (of_int binary32 min)) one32) (sub binary32 (of_int binary32 max) (of_int binary32 min))))
      go false = rw exact (whole-divides (cast (r.n + 1) (small (r.n + 1) (le_of_lt r.small))) (some r.n))
      go true =
          rw (exact, one_more (pos (r.n + 1)) (small (r.n + 1) (le_of_lt r.small)))
          (whole-divides (cast (r.n + 1 + 1) (small (r.n + 1 + 1) (next (r.n + 1) r.small))) (some (r.n + 1)))

  pub axis-value-held : (reversed : Bool) (raw : ℤ) → Between minus_one32 one32 (axis_value_of min max reversed raw)
  unfolding axis_value_of
  axis-value-held reversed raw = axis-held (low_of min) (range_of min max) low-finite (odd_of min max) reversed raw (range-divides (odd_of min max))

  pub button-value-held : (raw : ℤ) → Between zero32 one32 (button_value_of min max raw)
  unfolding button_value_of plus_odd
  button-value-held raw = button-held (low_of min) (range_of min max) low-finite raw (range-divides false)
