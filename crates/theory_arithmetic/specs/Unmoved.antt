-- Where the threshold is 0, a stick off its middle is answered as it is: its magnitude m lies above 0, and ((m - 0) / (1 - 0)) / m is 1. Each of these
-- operations is exact, since rounding changes no value of the format.
use Rattle.std.specs.Prelude.{◌≡◌, refl, Bool, true, false, cond, ◌&&◌, ◌||◌, ℕ, ◌+◌, ◌-◌, ◌*◌, ◌/◌, ◌^◌, ◌<◌, T, eqb, Float}
use Rattle.std.proofs.Common.{sym, ap, ◌∙◌, subst, true≢false, mul_assoc, mul_comm, mul-pos, mul-div_cancel, mul-one, zero-mul, arith, lt→ltb, le-ltb, ne_eqb, ltb-true, eqb-true}
use Rattle.std.proofs.lemmas.Bool.{false≢true}
use Rattle.std.proofs.Math.Nat.{eq_of_mul-eq-mul_right}
use Rattle.std.specs.Float.{nan, inf, fin, binary32}
use Rattle.std.specs.Float.Ieee.{unlike, up, down, below, level, size, round, add, sub, mul, div, lt, le, eq, of_bits, to_bits, fits}
use Rattle.std.specs.Float.Ieee.Bits.{of_bits-to_bits, of_bits-fits}
use Rattle.std.specs.Float.Ieee.Exact.{HasValue, round_exact}
use Rattle.std.specs.Float.Ieee.Fits.{down_pos, round-fits, add-fits, cond-fits}
use Rattle.std.specs.Float.Ieee.Positive.{positive, value_pos, first_pos}
use Rattle.std.specs.Float.Ieee.Scale.{round_same}
use Rattle.numbers.specs.Constants.{zero32, one32}
use Rattle.numbers.specs.Clamp.{clamp_of}
use Rattle.numbers.specs.Root.{sqrt_of, magnitude_of}
use Rattle.numbers.specs.Deadzone.{inside_of, norm_of, shrunk_of, deadzone_of}
use Rattle.binary32.specs.Values.{held}
use Rattle.binary32.specs.Nearest.{nearest-root, sqrt-fits}
use Rattle.binary32.specs.Bounds.{root-positive}
use Rattle.theory_arithmetic.specs.Units.{one, too_large, one-pos, ones_pos}
use Rattle.theory_arithmetic.specs.Operations.{Threshold, mul-units, div-units, sub-units}
use Rattle.theory_arithmetic.specs.Ends.{units_of, one-is, clamped}

-- ---- a value of the format, rounded, is that value

-- the bits of p units
bits_at : (x : Float) (s : Bool) (p : ℕ) → HasValue x s p one
    → to_bits binary32 x ≡ cond s 2147483648 0 + (size p - 24) * 8388608 + p / 2 ^ (size p - 24)
unfolding to_bits
bits_at nan s p v = absurd v
bits_at (inf t) s p v = absurd v
bits_at (fin t m e) s p v =
    let n : m * up e * one / down e ≡ p = ap (λ (k : ℕ). k / down e) v.1 ∙ mul-div_cancel p (down_pos e) in
    rw (n, v.0)

pub one_value : (x y : Float) (s : Bool) (p : ℕ) → T (fits binary32 x) → T (fits binary32 y) → HasValue x s p one → HasValue y s p one → x ≡ y
one_value x y s p f g v w =
    sym (of_bits-to_bits binary32 x f) ∙ ap (of_bits binary32) (bits_at x s p v ∙ sym (bits_at y s p w)) ∙ of_bits-to_bits binary32 y g

exact : (x : Float) (s : Bool) (p : ℕ) → T (fits binary32 x) → HasValue x s p one → round binary32 s p one ≡ x
exact x s p f v =
    let h = held x s p f v in
    let small : h.d * 2 ^ h.j < too_large = subst (λ (k : ℕ). k < too_large) h.same h.small in
    one_value (round binary32 s p one) x s p (round-fits binary32 s p one) f
    (round_exact binary32 s p one h.d h.j one-pos h.short small (ap (λ (k : ℕ). k * one) h.same)) v

-- ---- operations that change nothing

pub one-fits : T (fits binary32 one32)
one-fits = of_bits-fits binary32 0x3f800000

alike : (s : Bool) → unlike s false ≡ s
alike true = refl
alike false = refl

times-one : (x : Float) → T (fits binary32 x) → mul binary32 x one32 ≡ x
unfolding mul of_bits
times-one nan f = refl
times-one (inf true) f = refl
times-one (inf false) f = refl
times-one (fin s m e) f =
    let u = units_of s m e f in
    let v : HasValue (fin s m e) s u.0 one = (refl, u.1) in
    mul-units (fin s m e) one32 s false u.0 one v one-is
    ∙ ap (λ (t : Bool). round binary32 t (u.0 * one) (one * one)) (alike s)
    ∙ round_same binary32 s (u.0 * one) (one * one) u.0 one ones_pos one-pos (mul_assoc u.0 one one)
    ∙ exact (fin s m e) s u.0 f v

module _ (m : Float) (M : ℕ) (f : T (fits binary32 m)) (v : HasValue m false M one) where
  less_zero : (t : Float) → Threshold t 0 → sub binary32 m t ≡ m
  less_zero t w =
      let all : M - 0 ≡ M = omega arith in
      sub-units m t M 0 v w (omega arith) ∙ ap (λ (k : ℕ). round binary32 false k one) all ∙ exact m false M f v

  over-one : div binary32 m one32 ≡ m
  over-one = div-units m one32 false false M one v one-is one-pos ∙ exact m false M f v

  pub over-itself : 0 < M → div binary32 m m ≡ one32
  over-itself some =
      div-units m m false false M M v v some ∙ round_same binary32 false M M one one some one-pos (mul_comm M one)
      ∙ exact one32 false one one-fits one-is

norm-one : (m t : Float) (M : ℕ) → T (fits binary32 m) → HasValue m false M one → 0 < M → Threshold t 0 → norm_of m t ≡ one32
unfolding norm_of
norm-one m t M f v some w =
    ap (λ (a : Float). div binary32 (div binary32 a (sub binary32 one32 t)) m) (less_zero m M f v t w)
    ∙ ap (λ (b : Float). div binary32 (div binary32 m b) m) (less_zero one32 one one-fits one-is t w)
    ∙ ap (λ (q : Float). div binary32 q m) (over-one m M f v)
    ∙ over-itself m M f v some

-- ---- the threshold

no_size : (b d : ℕ) (z : Bool) → eqb (b * 1) (0 * d) && z ≡ true → b ≡ 0
no_size b d z h = sym (mul-one b) ∙ eqb-true (b * 1) (0 * d) (first (eqb (b * 1) (0 * d)) z h) ∙ zero-mul d
  where
    first : (p q : Bool) → p && q ≡ true → p ≡ true
    first true q h = refl
    first false q h = h

threshold-zero : (t : Float) → eq t zero32 ≡ true → Threshold t 0
unfolding eq of_bits
threshold-zero nan h = absurd (false≢true h)
threshold-zero (inf s) h = absurd (false≢true h)
threshold-zero (fin s n d) h =
    let none : n * up d ≡ 0 = no_size (n * up d) (down d) _ h in
    record { minus = s; has = (refl, ap (λ (k : ℕ). k * one) none ∙ zero-mul one ∙ sym (zero-mul (down d))); zero = λ e. refl }

-- a size above 0 is not at or below a zero
above_zero : (s : Bool) (a b : ℕ) → 0 < a → b ≡ 0 → below false a s b || level false a s b ≡ false
above_zero false a b some none = rw (le-ltb a b (omega arith), ne_eqb a b (λ e. omega arith))
above_zero true a b some none = rw (ne_eqb a b (λ e. omega arith))

outside-zero : (m t : Float) (M : ℕ) → HasValue m false M one → 0 < M → Threshold t 0 → le m t ≡ false
unfolding le lt eq
outside-zero m t M v some w = go m t v w.has
  where
    go : (m t : Float) → HasValue m false M one → HasValue t w.minus 0 one → le m t ≡ false
    go nan t v h = absurd v
    go (inf a) t v h = absurd v
    go (fin a n e) nan v h = absurd h
    go (fin a n e) (inf b) v h = absurd h
    go (fin true n e) (fin b k d) v h = absurd (true≢false v.0)
    go (fin false n e) (fin b k d) v h =
        let none : k * up d ≡ 0 = eq_of_mul-eq-mul_right one one-pos (k * up d) 0 (h.1 ∙ zero-mul (down d) ∙ sym (zero-mul one)) in
        let size : 0 < n * up e = first_pos (n * up e) one (subst (λ (k : ℕ). 0 < k) (sym v.1) (mul-pos some (down_pos e))) in
        above_zero b (n * up e * down d) (k * up d * down e) (mul-pos size (down_pos d)) (ap (λ (k : ℕ). k * down e) none ∙ zero-mul (down e))

-- ---- the magnitude

record Above (m : Float) : Type 0 where
  units : ℕ
  has : HasValue m false units one
  some : 0 < units

positive-above : (s : Float) → T (fits binary32 s) → T (positive s) → Above (clamp_of (sqrt_of s) zero32 one32)
positive-above s f p =
    let i = nearest-root s f p in
    let some = value_pos (sqrt_of s) i.ρ one (root-positive s f p) one-pos i.is in
    let c = clamped (sqrt_of s) i.ρ i.is (held (sqrt_of s) false i.ρ i.format i.is) in
    record { units = c.units; has = c.has; some = c.keeps 1 some one-pos }

root-above : (s : Float) → T (fits binary32 s) → lt zero32 s ≡ true → Above (clamp_of (sqrt_of s) zero32 one32)
unfolding lt of_bits clamp_of sqrt_of
root-above nan f h = absurd (false≢true h)
root-above (inf true) f h = absurd (false≢true h)
root-above (inf false) f h = record { units = one; has = one-is; some = one-pos }
root-above (fin true m e) f h = absurd (false≢true h)
root-above (fin false m e) f h =
    let size : 0 < m * up e = let l = ltb-true (0 * down e) (m * up e * 1) h in let z = mul-one (m * up e) in omega arith in
    positive-above (fin false m e) f (lt→ltb 0 m (first_pos m (up e) size))

pub clamp-fits : (x : Float) → T (fits binary32 x) → T (fits binary32 (clamp_of x zero32 one32))
unfolding clamp_of
clamp-fits x f = cond-fits binary32 (lt x zero32) zero32 _ (of_bits-fits binary32 0) (cond-fits binary32 (lt one32 x) one32 x one-fits f)

-- ---- the law

pub unshrunk : (inside : Bool) (norm x y : Float) → inside ≡ false → norm ≡ one32 → T (fits binary32 x) → T (fits binary32 y)
    → record { x = x; y = y } ≡ shrunk_of inside norm x y
unfolding shrunk_of
unshrunk inside norm x y out is f g = rw (out, is, times-one x f, times-one y g)

pub unmoved : (x y t : Float) → T (fits binary32 x) → T (fits binary32 y) → eq t zero32 ≡ true
    → lt zero32 (add binary32 (mul binary32 x x) (mul binary32 y y)) ≡ true → record { x = x; y = y } ≡ deadzone_of x y t
unfolding deadzone_of inside_of magnitude_of
unmoved x y t f g none moved =
    let s = add binary32 (mul binary32 x x) (mul binary32 y y) in
    let m = clamp_of (sqrt_of s) zero32 one32 in
    let s-fits = add-fits binary32 (mul binary32 x x) (mul binary32 y y) in
    let a = root-above s s-fits moved in
    let w = threshold-zero t none in
    unshrunk (le m t) (norm_of m t) x y (outside-zero m t a.units a.has a.some w)
    (norm-one m t a.units (clamp-fits (sqrt_of s) (sqrt-fits s s-fits)) a.has a.some w) f g
