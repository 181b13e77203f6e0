-- The theorem: for two values of binary32 in -1..1 and a threshold of 0 or above (-0.0 and an infinity included; from 1 on nothing lies outside), both of the
-- deadzone's answers lie in -1..1, so neither is a NaN or an infinity. What it asks (`Stick`) and says (`Within`) stands in `specs/Deadzone`.
-- The idea: inside, both are 0. Outside, 0 ≤ t < m ≤ 1, and the factor is at most 2 however small m is (`Factor`), so a size of at most a half stays within 1. A size
-- above a half is at most m (`Larger`), and m times the factor is at most 1 + 2 ^ -24, which rounds to 1. Rounding keeps the order and the values (`Rounding`).
use Rattle.std.specs.Prelude.{◌≡◌, refl, Bool, true, not, ℕ, ◌+◌, ◌-◌, ◌*◌, ◌≤◌, ◌<◌, T, ltb, Float}
use Rattle.std.proofs.Common.{sym, subst, le_trans, le_of_eq, le_of_lt, lt_of_lt_of_le, lt_of_le_of_lt, mul_comm, mul-le-mul, mul-le-mul_right, arith, lit<, lit≤, ltb→lt, nltb→le}
use Rattle.std.proofs.Math.Bool.{false}
use Rattle.std.specs.Float.Ieee.{binary32, unlike, sub, mul, div, le, of_bits}
use Rattle.std.specs.Float.Ieee.Exact.{HasValue}
use Rattle.std.specs.Float.Ieee.Scale.{finite}
use Rattle.numbers.specs.Constants.{zero32, one32, minus_one32}
use Rattle.numbers.specs.Root.{magnitude_of}
use Rattle.numbers.specs.Deadzone.{inside_of, norm_of, shrunk_of, deadzone_of}
use Rattle.numbers.specs.Order.{Between, between-finite}
use Rattle.binary32.specs.Values.{Held}
use Rattle.theory_arithmetic.specs.Units.{half, one, two, too_large, place, ones_pos, one-held}
use Rattle.theory_arithmetic.specs.Rounding.{rounded, valued, rounded-le, at_most}
use Rattle.theory_arithmetic.specs.Factor.{excess, rest, share, factor, excess-le, rest-small, rest-pos, share-le, factor-le, factor-close}
use Rattle.theory_arithmetic.specs.Operations.{Threshold, mul-units, div-units, sub-units}
use Rattle.theory_arithmetic.specs.Ends.{Size, size_of, between-of, outside, one-is}
use Rattle.theory_arithmetic.specs.Magnitude.{Magnitude, magnitude}
use Rattle.theory_arithmetic.specs.Deadzone.{Stick, Within, slightly-over}

-- ---- the factor of a magnitude of M units and a threshold of q units

module _ (m t : Float) (M q : ℕ) (v : HasValue m false M one) (h : Held M) (u : M ≤ one) (w : Threshold t q) (l : q < M) where
  small : (p : ℕ) → p ≤ two → p < too_large
  small p g = lt_of_le_of_lt g (lit< tt)

  -- m - t, 1 - t and their quotient
  excess-is : HasValue (sub binary32 m t) false (excess M q) one
  excess-is = valued (sub binary32 m t) false (M - q) one (sub-units m t M q v w (le_of_lt l)) (small (excess M q) (le_trans (excess-le M q h l u) (le_trans u (lit≤ tt))))

  rest-is : HasValue (sub binary32 one32 t) false (rest q) one
  rest-is = valued (sub binary32 one32 t) false (one - q) one (sub-units one32 t one q one-is w (le_trans (le_of_lt l) u)) (rest-small M q h l u)

  share-is : HasValue (div binary32 (sub binary32 m t) (sub binary32 one32 t)) false (share M q) one
  share-is =
      valued (div binary32 (sub binary32 m t) (sub binary32 one32 t)) false (excess M q) (rest q)
      (div-units (sub binary32 m t) (sub binary32 one32 t) false false (excess M q) (rest q) excess-is rest-is (rest-pos M q h l u))
      (small (share M q) (le_trans (share-le M q h l u) (lit≤ tt)))

  pub norm-is : HasValue (norm_of m t) false (factor M q) one
  unfolding norm_of
  norm-is =
      valued (norm_of m t) false (share M q) M
      (div-units (div binary32 (sub binary32 m t) (sub binary32 one32 t)) m false false (share M q) M share-is v (omega arith)) (small (factor M q) (factor-le M q h l u))

-- ---- a size of X units times the factor

module _ (X M q : ℕ) (h : Held M) (l : q < M) (u : M ≤ one) (larger : half < X → X ≤ M) where
  abbrev product : ℕ
  product = X * factor M q

  low : X ≤ half → rounded product (one * one) ≤ one
  low g = at_most product (one * one) one ones_pos one-held (le_trans (mul-le-mul_right one (mul-le-mul g (factor-le M q h l u))) (le_of_eq (mul_comm (half * two) one)))

  high : half < X → rounded product (one * one) ≤ one
  high g =
      subst (λ (p : ℕ). rounded product (one * one) ≤ p) slightly-over
      (rounded-le product (one * one) (one * one + one * place) (one * one) ones_pos ones_pos (mul-le-mul_right (one * one) close)
      (subst (λ (p : ℕ). p < too_large) (sym slightly-over) (lit< tt)))
    where
      close : product ≤ one * one + one * place
      close =
          le_trans (mul-le-mul_right (factor M q) (larger g))
          (le_trans (le_of_eq (mul_comm M (factor M q))) (factor-close M q h l u (lt_of_lt_of_le g (larger g))))

  pub product_le : rounded product (one * one) ≤ one
  product_le = go (ltb half X) (ltb→lt half X) (nltb→le half X)
    where
      go : (b : Bool) → (T b → half < X) → (T (not b) → X ≤ half) → rounded product (one * one) ≤ one
      go true y n = high (y tt)
      go false y n = low (n tt)

-- ---- the theorem

zero-within : Between minus_one32 one32 zero32
unfolding le of_bits
zero-within = record { low = refl; high = refl }

-- one of a stick's two values, outside
scaled : (x m t : Float) (z : Size x) (M q : ℕ) → HasValue m false M one → Held M → M ≤ one → Threshold t q → q < M → (half < z.size → z.size ≤ M)
    → Between minus_one32 one32 (mul binary32 x (norm_of m t))
scaled x m t z M q v h u w l larger =
    let fits = product_le z.size M q h l u larger in
    between-of (mul binary32 x (norm_of m t)) (unlike z.minus false) (rounded (z.size * factor M q) (one * one))
    (valued (mul binary32 x (norm_of m t)) (unlike z.minus false) (z.size * factor M q) (one * one)
    (mul-units x (norm_of m t) z.minus false z.size (factor M q) z.has (norm-is m t M q v h u w l)) (lt_of_le_of_lt fits (lit< tt))) fits

pub deadzone-within : (x y t : Float) → Stick x y t → Within (deadzone_of x y t)
unfolding deadzone_of inside_of shrunk_of
deadzone-within x y t given = go (le m t) refl
  where
    m : Float
    m = magnitude_of x y

    a : Size x
    a = size_of x given.x_fits given.x-within

    b : Size y
    b = size_of y given.y-fits given.y-within

    g : Magnitude m a.size b.size
    g = magnitude x y a b

    go : (inside : Bool) → le m t ≡ inside → Within (shrunk_of inside (norm_of m t) x y)
    go true e = record { x = zero-within; y = zero-within }
    go false e =
        let o = outside m t g.units g.has given.t-fits given.t-least e in
        record {
          x = scaled x m t a g.units o.q g.has g.held g.most o.threshold o.less g.first;
          y = scaled y m t b g.units o.q g.has g.held g.most o.threshold o.less g.second;
        }

pub deadzone-finite : (x y t : Float) → Stick x y t → T (finite (deadzone_of x y t).x) × T (finite (deadzone_of x y t).y)
unfolding of_bits
deadzone-finite x y t given =
    let w = deadzone-within x y t given in
    (between-finite minus_one32 one32 (deadzone_of x y t).x tt tt w.x, between-finite minus_one32 one32 (deadzone_of x y t).y tt tt w.y)
