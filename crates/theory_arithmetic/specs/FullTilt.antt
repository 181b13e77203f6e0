-- Full tilt (W-205) needs no root: where the sum of the squares is 1 or more the magnitude is held to 1, and with a threshold t from 0 up to below 1 the pair comes
-- back as it was, since ((1 - t) / (1 - t)) / 1 is 1. By units of 2 ^ -149: the root of what is at least 1 is at least 1, as 1 is a value.
use Rattle.std.specs.Prelude.{◌≡◌, refl, Bool, true, false, ◌&&◌, ℕ, ◌-◌, ◌*◌, ◌≤◌, ◌<◌, T, eqb, Float}
use Rattle.std.proofs.Common.{ap, ◌∙◌, subst, le_refl, le_of_lt, le_antisymm, lt_of_lt_of_le, mul-le-mul_right, arith, eqb-true}
use Rattle.std.proofs.lemmas.Bool.{false≢true}
use Rattle.std.specs.Float.{nan, inf, fin, binary32}
use Rattle.std.specs.Float.Ieee.{up, down, add, sub, mul, div, lt, le, eq, of_bits, fits}
use Rattle.std.specs.Float.Ieee.Exact.{HasValue}
use Rattle.std.specs.Float.Ieee.Fits.{down_pos, add-fits, sub-fits}
use Rattle.std.specs.Float.Ieee.Positive.{positive_of_value}
use Rattle.numbers.specs.Constants.{zero32, one32}
use Rattle.numbers.specs.Clamp.{clamp_of}
use Rattle.numbers.specs.Root.{sqrt_of, magnitude_of}
use Rattle.numbers.specs.Deadzone.{inside_of, norm_of, shrunk_of, deadzone_of}
use Rattle.numbers.specs.Tilt.{tilt_at, tilt_of, tilted_of}
use Rattle.numbers.specs.declared.Pair.{Pair}
use Rattle.numbers.specs.declared.Tilted.{Tilted}
use Rattle.numbers.specs.declared.Tilt.TheVariants.{Full}
use Rattle.binary32.specs.Values.{held}
use Rattle.binary32.specs.Nearest.{nearest-root}
use Rattle.binary32.specs.Bounds as Root
use Rattle.theory_arithmetic.specs.Units.{one, one-pos, one-held}
use Rattle.theory_arithmetic.specs.Rounding.{valued, same_units}
use Rattle.theory_arithmetic.specs.Factor.{rest, rest-small, rest-pos}
use Rattle.theory_arithmetic.specs.Operations.{sub-units}
use Rattle.theory_arithmetic.specs.Ends.{units_of, one-is, one-or-more, clamped, outside}
use Rattle.theory_arithmetic.specs.Unmoved.{one-fits, one_value, over-itself, clamp-fits, unshrunk}

-- ---- the magnitude

-- by the units of s, the root and what it is held to
held-at-one : (s : Float) (n : ℕ) → T (fits binary32 s) → HasValue s false n one → one ≤ n → clamp_of (sqrt_of s) zero32 one32 ≡ one32
held-at-one s n f v some =
    let i = nearest-root s f (positive_of_value s n one v (lt_of_lt_of_le one-pos some)) in
    let all : one ≤ i.n = subst (λ (k : ℕ). one ≤ k) (same_units s n i.n v i.of) some in
    let root : one ≤ i.ρ = Root.at_least s (sqrt_of s) i one32 one one-fits one-is (mul-le-mul_right one all) in
    let c = clamped (sqrt_of s) i.ρ i.is (held (sqrt_of s) false i.ρ i.format i.is) in
    let is : c.units ≡ one = le_antisymm c.most (c.keeps one root (le_refl one)) in
    one_value (clamp_of (sqrt_of s) zero32 one32) one32 false one (clamp-fits (sqrt_of s) i.format) one-fits
    (subst (λ (k : ℕ). HasValue (clamp_of (sqrt_of s) zero32 one32) false k one) is c.has) one-is

held-to-one : (s : Float) → T (fits binary32 s) → le one32 s ≡ true → clamp_of (sqrt_of s) zero32 one32 ≡ one32
unfolding le lt eq of_bits clamp_of sqrt_of
held-to-one nan f h = absurd (false≢true h)
held-to-one (inf true) f h = absurd (false≢true h)
held-to-one (inf false) f h = refl
held-to-one (fin true m e) f h = absurd (none (eqb (1 * down e) (m * up e * 1)) (eqb (1 * down e) 0) refl h)
  where
    none : (same zero : Bool) → eqb (1 * down e) 0 ≡ zero → same && zero ≡ true → ⊥
    none true true z h = let a = eqb-true (1 * down e) 0 z in let b = down_pos e in omega arith
    none true false z h = false≢true h
    none false zero z h = false≢true h
held-to-one (fin false m e) f h =
    let u = units_of false m e f in
    held-at-one (fin false m e) u.0 f (refl, u.1) (one-or-more (fin false m e) u.0 (refl, u.1) h)

-- ---- the threshold

-- a value above 0
pub record Some (r : Float) : Type 0 where
  pub units : ℕ
  pub has : HasValue r false units one
  pub some : 0 < units

pub rest-above : (t : Float) → T (fits binary32 t) → le zero32 t ≡ true → le one32 t ≡ false → Some (sub binary32 one32 t)
rest-above t f least out =
    let o = outside one32 t one one-is f least out in
    record {
      units = rest o.q;
      has =
          valued (sub binary32 one32 t) false (one - o.q) one (sub-units one32 t one o.q one-is o.threshold (le_of_lt o.less))
          (rest-small one o.q one-held o.less (le_refl one));
      some = rest-pos one o.q one-held o.less (le_refl one);
    }

pub norm-one : (t : Float) → Some (sub binary32 one32 t) → norm_of one32 t ≡ one32
unfolding norm_of
norm-one t w =
    ap (λ (q : Float). div binary32 q one32) (over-itself (sub binary32 one32 t) w.units (sub-fits binary32 one32 t) w.has w.some)
    ∙ over-itself one32 one one-fits one-is one-pos

-- ---- the law

abbrev full : Pair → Tilted
full pair = record { pair = pair; tilt = Full }

pub full-tilt :
    (x y t : Float) →
    T (fits binary32 x) →
    T (fits binary32 y) →
    T (fits binary32 t) →
    le one32 (add binary32 (mul binary32 x x) (mul binary32 y y)) ≡ true →
    le zero32 t ≡ true →
    inside_of one32 t ≡ false →
    full (record { x = x; y = y }) ≡ tilted_of x y t
unfolding tilted_of tilt_of tilt_at deadzone_of inside_of magnitude_of eq of_bits norm_of shrunk_of
full-tilt x y t f g k far least out =
    let s = add binary32 (mul binary32 x x) (mul binary32 y y) in
    let m-one = held-to-one s (add-fits binary32 (mul binary32 x x) (mul binary32 y y)) far in
    let pair = unshrunk false (norm_of one32 t) x y refl (norm-one t (rest-above t k least out)) f g in
    rw (m-one, out) (ap full pair)
