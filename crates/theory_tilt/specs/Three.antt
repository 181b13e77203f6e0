-- The three are what they say (W-205), with m the stick's magnitude and t the threshold: Inside is m at or below t; Full is m equal to 1 and above t; Between is
-- t < m < 1. By the definition's two tests; what is asked beyond them is that nothing compared is a NaN, and a magnitude is none where neither value is.
use Rattle.std.specs.Prelude.{◌≡◌, Bool, true, false, cond, ◌&&◌, ◌||◌, ℕ, zero, suc, ◌+◌, ◌*◌, T, eqb, Float}
use Rattle.std.proofs.Math.Path.{refl}
use Rattle.std.proofs.Common.{sym, ◌∙◌, true≢false, arith, eqb-true}
use Rattle.std.proofs.lemmas.Bool.{false≢true}
use Rattle.std.specs.Float.{nan, inf, fin, binary32}
use Rattle.std.specs.Float.Ieee.{up, down, odd, add, mul, lt, le, eq, of_bits, fits, is_nan}
use Rattle.std.specs.Float.Ieee.Fits.{down_pos, add-fits}
use Rattle.numbers.specs.Constants.{zero32, one32}
use Rattle.numbers.specs.Root.{places, digits, root_units, units_of, sqrt_of, magnitude_of}
use Rattle.numbers.specs.Deadzone.{inside_of}
use Rattle.numbers.specs.Order.{held, not-below, no-nan-low}
use Rattle.numbers.specs.Tilt.{tilt_by, tilt_at, tilt_of}
use Rattle.numbers.specs.declared.Tilt.TheVariants.{Unmet, Inside, Between, Full}
use Rattle.binary32.specs.Nearest.{sqrt-fits}
use Rattle.theory_arithmetic.specs.Kept.{plus, round-plus}
use Rattle.theory_arithmetic.specs.Unmoved.{clamp-fits}
use Rattle.theory_arithmetic.specs.Proper.{proper-eq, one-proper}

-- ---- the two tests

-- which of them passed
inside-tests : (inside full : Bool) → tilt_by inside full ≡ Inside → inside ≡ true
inside-tests true full e = refl
inside-tests false true e = let z : ◌≡◌ {A = ℕ} 0 1 = cc in absurd (omega arith)
inside-tests false false e = let z : ◌≡◌ {A = ℕ} 0 1 = cc in absurd (omega arith)

between-tests : (inside full : Bool) → tilt_by inside full ≡ Between → (inside ≡ false) × (full ≡ false)
between-tests true full e = let z : ◌≡◌ {A = ℕ} 0 1 = cc in absurd (omega arith)
between-tests false true e = let z : ◌≡◌ {A = ℕ} 0 1 = cc in absurd (omega arith)
between-tests false false e = (refl, refl)

full-tests : (inside full : Bool) → tilt_by inside full ≡ Full → (inside ≡ false) × (full ≡ true)
full-tests true full e = let z : ◌≡◌ {A = ℕ} 0 1 = cc in absurd (omega arith)
full-tests false true e = (refl, refl)
full-tests false false e = let z : ◌≡◌ {A = ℕ} 0 1 = cc in absurd (omega arith)

some-test : (inside full : Bool) → tilt_by inside full ≡ Unmet → ⊥
some-test true full e = let z : ◌≡◌ {A = ℕ} 0 1 = cc in omega arith
some-test false true e = let z : ◌≡◌ {A = ℕ} 0 1 = cc in omega arith
some-test false false e = let z : ◌≡◌ {A = ℕ} 0 1 = cc in omega arith

-- ---- the order

-- of two that are no NaN, one that is not at or below the other is above it
above : (x y : Float) → is_nan x ≡ false → is_nan y ≡ false → le x y ≡ false → lt y x ≡ true
above x y p q h = by (lt y x) refl
  where
    by : (b : Bool) → lt y x ≡ b → b ≡ true
    by true e = refl
    by false e = absurd (true≢false (sym (not-below y x q p e) ∙ h))

-- at or below, and not equal
below : (less same : Bool) → less || same ≡ true → same ≡ false → less ≡ true
below true same h e = refl
below false same h e = sym e ∙ h

-- ---- the magnitude

-- a square has no sign, nor has the sum of two, and the root of such a number is a number
square-plus : (x : Float) → is_nan x ≡ false → T (plus (mul binary32 x x))
unfolding is_nan mul
square-plus nan h = absurd (true≢false h)
square-plus (inf true) h = tt
square-plus (inf false) h = tt
square-plus (fin true m e) h = round-plus (m * up e * (m * up e)) (down e * down e)
square-plus (fin false m e) h = round-plus (m * up e * (m * up e)) (down e * down e)

sum-plus : (x y : Float) → T (plus x) → T (plus y) → T (plus (add binary32 x y))
unfolding add
sum-plus nan y p q = absurd p
sum-plus (inf true) y p q = absurd p
sum-plus (fin true m e) y p q = absurd p
sum-plus (inf false) nan p q = absurd q
sum-plus (inf false) (inf true) p q = absurd q
sum-plus (inf false) (inf false) p q = tt
sum-plus (inf false) (fin t n d) p q = tt
sum-plus (fin false m e) nan p q = absurd q
sum-plus (fin false m e) (inf true) p q = absurd q
sum-plus (fin false m e) (inf false) p q = tt
sum-plus (fin false m e) (fin true n d) p q = absurd q
sum-plus (fin false m e) (fin false n d) p q = round-plus (m * up e * down d + n * up d * down e) (down e * down d)

root-number : (x : Float) → T (plus x) → is_nan (sqrt_of x) ≡ false
unfolding is_nan sqrt_of root_units odd
root-number nan p = absurd p
root-number (inf true) p = absurd p
root-number (inf false) p = refl
root-number (fin true m e) p = absurd p
root-number (fin false m e) p = by (eqb m 0) (root_units (units_of m e)) (odd_number (digits (units_of m e)) (places (units_of m e)))
  where
    odd_number : (q k : ℕ) → is_nan (odd 24 false q k 149) ≡ false
    odd_number zero k = refl
    odd_number (suc q) k = refl

    by : (none : Bool) (r : Float) → is_nan r ≡ false → is_nan (cond none (fin false m e) r) ≡ false
    by true r h = refl
    by false r h = h

magnitude-most : (x y : Float) → is_nan x ≡ false → is_nan y ≡ false → le (magnitude_of x y) one32 ≡ true
unfolding magnitude_of le of_bits
magnitude-most x y p q =
    let s = add binary32 (mul binary32 x x) (mul binary32 y y) in
    (held (sqrt_of s) zero32 one32 (root-number s (sum-plus (mul binary32 x x) (mul binary32 y y) (square-plus x p) (square-plus y q))) refl).high

-- what is equal to 1 has no sign, and the format has one such value
one-plus : (m : Float) → eq m one32 ≡ true → T (plus m)
unfolding eq of_bits
one-plus nan h = absurd (false≢true h)
one-plus (inf s) h = absurd (false≢true h)
one-plus (fin true n e) h = by (eqb (n * up e * 1) (1 * down e)) (eqb (n * up e * 1) 0) refl refl h
  where
    by : (same none : Bool) → eqb (n * up e * 1) (1 * down e) ≡ same → eqb (n * up e * 1) 0 ≡ none → same && none ≡ true → ⊥
    by true true p q h =
        let same = eqb-true (n * up e * 1) (1 * down e) p in
        let none = eqb-true (n * up e * 1) 0 q in
        let some = down_pos e in
        omega arith
    by true false p q h = false≢true h
    by false none p q h = false≢true h
one-plus (fin false n e) h = tt

equal-one : (m : Float) → T (fits binary32 m) → eq m one32 ≡ true → m ≡ one32
equal-one m f h = proper-eq m one32 (record { format = f; unsigned = one-plus m h }) one-proper h

magnitude-fits : (x y : Float) → T (fits binary32 (magnitude_of x y))
unfolding magnitude_of
magnitude-fits x y =
    let s = add binary32 (mul binary32 x x) (mul binary32 y y) in
    clamp-fits (sqrt_of s) (sqrt-fits s (add-fits binary32 (mul binary32 x x) (mul binary32 y y)))

-- ---- the statements

module _ (x y t : Float) where
  pub inside_is : tilt_of x y t ≡ Inside → le (magnitude_of x y) t ≡ true
  unfolding tilt_of tilt_at inside_of
  inside_is e = inside-tests (le (magnitude_of x y) t) (eq (magnitude_of x y) one32) e

  pub is-inside : le (magnitude_of x y) t ≡ true → tilt_of x y t ≡ Inside
  unfolding tilt_of tilt_at inside_of
  is-inside e = rw e

  pub never-unmet : tilt_of x y t ≡ Unmet → ⊥
  unfolding tilt_of tilt_at inside_of
  never-unmet e = some-test (le (magnitude_of x y) t) (eq (magnitude_of x y) one32) e

  pub full_is : tilt_of x y t ≡ Full → (magnitude_of x y ≡ one32) × (le (magnitude_of x y) t ≡ false)
  unfolding tilt_of tilt_at inside_of
  full_is e =
      let both = full-tests (le (magnitude_of x y) t) (eq (magnitude_of x y) one32) e in
      (equal-one (magnitude_of x y) (magnitude-fits x y) both.1, both.0)

  pub full-above : is_nan t ≡ false → tilt_of x y t ≡ Full → lt t one32 ≡ true
  unfolding is_nan of_bits
  full-above number e =
      let is = full_is e in
      above one32 t refl number (rw is.0 at is.1)

  pub between_is : is_nan x ≡ false → is_nan y ≡ false → is_nan t ≡ false → tilt_of x y t ≡ Between
      → (lt t (magnitude_of x y) ≡ true) × (lt (magnitude_of x y) one32 ≡ true)
  unfolding tilt_of tilt_at inside_of le
  between_is p q number e =
      let m = magnitude_of x y in
      let both = between-tests (le m t) (eq m one32) e in
      let most = magnitude-most x y p q in
      (above m t (no-nan-low m one32 most) number both.0, below (lt m one32) (eq m one32) most both.1)
