-- The thresholds that registration keeps are such as the theorem asks for: for a min below a max inside 01's limits, and any deadzone, `threshold_of` is a value of
-- binary32 that is 0 or above. (It may well be above 1.) The idea: nothing with the sign goes in, and no operation gives one.
use Rattle.std.specs.Prelude.{◌≡◌, refl, Bool, true, not, cond, ℕ, zero, suc, ◌+◌, ◌-◌, ◌*◌, ◌≤◌, ◌^◌, ℤ, pos, negsuc, ◌-ℤ◌, T, ltb, eqb}
use Rattle.std.proofs.Common.{sym, ◌∙◌, subst, le_of_lt, zero-mul, arith, le→leb, lt→ltb, ltb-true, le-ltb}
use Rattle.std.proofs.Math.Bool.{false}
use Rattle.std.proofs.lemmas.Bool.{false≢true}
use Rattle.std.proofs.Math.IntN.{sub_ℕ}
use Rattle.std.specs.Int.Signed.{lt_z}
use Rattle.std.proofs.Math.Dec.{eqb-suc-zero}
use Rattle.std.specs.Float.Ieee.{Float, binary32, up, down, odd, units, round, mul, div, lt, le, of_int, of_bits, in_float, fits, is_nan}
use Rattle.std.specs.Float.{nan, inf, fin}
use Rattle.std.specs.Float.Ieee.Fits.{round_is, mul-fits, cond-fits}
use Rattle.numbers.specs.Constants.{zero32, two32, absent, default_threshold, within_of}
use Rattle.numbers.specs.Scale.{range_of, plus_odd, threshold_of}
use Rattle.numbers.specs.Order.{not-below}
use Rattle.numbers.specs.NoNan.{divisor}
use Rattle.numbers.specs.Whole.{difference, plain}
use Rattle.numbers.proofs.Bounds.{range-divides}

-- no NaN, and without the sign
abbrev pub plus : Float → Bool
plus nan = false
plus (inf s) = not s
plus (fin s m e) = not s

plus-least : (x : Float) → T (plus x) → le zero32 x ≡ true
unfolding lt of_bits is_nan
plus-least nan h = absurd h
plus-least (inf true) h = absurd h
plus-least (inf false) h = not-below (inf false) zero32 refl refl refl
plus-least (fin true m e) h = absurd h
plus-least (fin false m e) h = not-below (fin false m e) zero32 refl refl (le-ltb (m * up e * 1) (0 * down e) (none (0 * down e) (m * up e * 1) (zero-mul (down e))))
  where
    none : (a b : ℕ) → a ≡ 0 → a ≤ b
    none a b e = omega arith

-- ---- the operations

odd-plus : (d q k l : ℕ) → T (plus (odd d false q k l))
unfolding odd
odd-plus d zero k l = tt
odd-plus d (suc q) k l = tt

units-plus : (q k : ℕ) → T (plus (units binary32 false q k))
unfolding units
units-plus q k = go (ltb (q * 2 ^ k) (2 ^ 277))
  where
    go : (b : Bool) → T (plus (cond b (odd 25 false q k 149) (inf false)))
    go true = odd-plus 25 q k 149
    go false = tt

pub round-plus : (a c : ℕ) → T (plus (round binary32 false a c))
round-plus a c = subst (λ (x : Float). T (plus x)) (sym (round_is binary32 false a c)) (units-plus _ _)

pub div-plus : (x y : Float) → T (plus x) → T (plus y) → T (divisor y) → T (plus (div binary32 x y))
unfolding div
div-plus nan y p q d = absurd p
div-plus (inf true) y p q d = absurd p
div-plus (fin true m e) y p q d = absurd p
div-plus (inf false) nan p q d = absurd q
div-plus (inf false) (inf t) p q d = absurd d
div-plus (inf false) (fin true n k) p q d = absurd q
div-plus (inf false) (fin false n k) p q d = tt
div-plus (fin false m e) nan p q d = absurd q
div-plus (fin false m e) (inf t) p q d = absurd d
div-plus (fin false m e) (fin true n k) p q d = absurd q
div-plus (fin false m e) (fin false zero k) p q d = absurd d
div-plus (fin false m e) (fin false (suc n) k) p q d = rw (eqb-suc-zero n) (round-plus (m * up e * down k) (suc n * up k * down e))

double-plus : (x : Float) → T (plus x) → T (plus (mul binary32 x two32))
unfolding mul of_bits
double-plus nan p = absurd p
double-plus (inf true) p = absurd p
double-plus (fin true m e) p = absurd p
double-plus (inf false) p = tt
double-plus (fin false m e) p = round-plus (m * up e * 2) (down e * 1)

-- ---- the range

pub fits-float : (z : ℤ) → within_of z ≡ true → T (in_float binary32 z)
unfolding within_of in_float
fits-float (pos n) h = let l = ltb-true n 8388608 h in le→leb n 16777216 (omega arith)
fits-float (negsuc n) h = let l = ltb-true n 8388608 h in lt→ltb n 16777216 (omega arith)

pub cast-plus : (z : ℤ) (n : ℕ) → z ≡ pos n → T (plus (of_int binary32 z))
unfolding of_int
cast-plus z n e = rw e (round-plus n 1)

less : (a b : ℕ) → a ≤ b → sub_ℕ b a ≡ pos (b - a)
less a b h = rw (le-ltb b a h)

pub range-pos : (min max : ℤ) → lt_z min max ≡ true → (n : ℕ) × (max -ℤ min ≡ pos n)
range-pos (pos a) (pos b) h = (b - a, plain b a ∙ less a b (le_of_lt (ltb-true a b h)))
range-pos (pos a) (negsuc b) h = absurd (false≢true h)
range-pos (negsuc a) (pos b) h = (b + suc a, refl)
range-pos (negsuc a) (negsuc b) h = let l = ltb-true b a h in (suc a - suc b, less (suc b) (suc a) (omega arith))

-- ---- the theorem

default-least : le zero32 default_threshold ≡ true
unfolding le of_bits
default-least = refl

default-fits : T (fits binary32 default_threshold)
unfolding fits of_bits
default-fits = tt

module _ (min max : ℤ) (p : within_of min ≡ true) (q : within_of max ≡ true) (l : lt_z min max ≡ true) where
  pub range-plus : T (plus (range_of min max))
  unfolding range_of
  range-plus = let r = range-pos min max l in rw (difference max min (fits-float max q) (fits-float min p)) (cast-plus (max -ℤ min) r.0 r.1)

  pub range-divisor : T (divisor (range_of min max))
  unfolding plus_odd
  range-divisor = range-divides min max p q l false

  pub threshold-least : (deadzone : ℕ) → le zero32 (threshold_of min max deadzone) ≡ true
  unfolding threshold_of of_int
  threshold-least deadzone = go (eqb deadzone absent)
    where
      given : Float
      given = mul binary32 (div binary32 (of_int binary32 (pos deadzone)) (range_of min max)) two32

      go : (b : Bool) → le zero32 (cond b default_threshold given) ≡ true
      go true = default-least
      go false = plus-least given (double-plus (div binary32 (of_int binary32 (pos deadzone)) (range_of min max)) (div-plus (of_int binary32 (pos deadzone)) (range_of min max) (round-plus deadzone 1) range-plus range-divisor))

  pub threshold-fits : (deadzone : ℕ) → T (fits binary32 (threshold_of min max deadzone))
  unfolding threshold_of
  threshold-fits deadzone = cond-fits binary32 (eqb deadzone absent) default_threshold _ default-fits (mul-fits binary32 _ two32)
