-- What follows from `IsRoot` for a caller: the root is above 0, it lies on the same side of every value of binary32 as the real root, so a root that is a value is met exactly,
-- and no two values are the root of one x.
use Rattle.std.specs.Prelude.{◌≡◌, refl, false, ℕ, ◌+◌, ◌*◌, ◌^◌, ◌≤◌, ◌<◌, T, Float, negsuc}
use Rattle.std.proofs.Common.{sym, ap, ◌∙◌, le_of_suc-le-suc, lt_of_not-le, le_of_eq, le_antisymm, mul-pos, arith, pow_pos}
use Rattle.std.proofs.Math.Nat.{eq_of_mul-eq-mul_right}
use Rattle.std.specs.Float.{nan, inf, fin, binary32}
use Rattle.std.specs.Float.Ieee.{down, fits}
use Rattle.std.specs.Float.Ieee.Exact.{HasValue}
use Rattle.std.specs.Float.Ieee.Fits.{down_pos}
use Rattle.std.specs.Float.Ieee.Positive.{positive, value_pos, positive_of_value}
use Rattle.numbers.specs.Root.{sqrt_of}
use Rattle.binary32.specs.WholeRoot.{square, twice-square}
use Rattle.binary32.specs.Nearest.{IsRoot, nearest-root}

le-by : (a b : ℕ) → (b < a → ⊥) → a ≤ b
le-by a b h = le_of_suc-le-suc (lt_of_not-le h)

-- for N = n * 2 ^ 149
most : (N p ρ : ℕ) → N ≤ p * p → (p < ρ → (p + ρ) * (p + ρ) < 4 * N) → ρ ≤ p
most N p ρ h over = le-by ρ p (λ (l : p < ρ). no l (over l))
  where
    no : p < ρ → (p + ρ) * (p + ρ) < 4 * N → ⊥
    no l o =
        let a = square (2 * p) (p + ρ) (omega arith) in
        let b = twice-square p in
        omega arith

least : (N p ρ : ℕ) → p * p ≤ N → (ρ < p → 4 * N < (p + ρ) * (p + ρ)) → p ≤ ρ
least N p ρ h under = le-by p ρ (λ (l : ρ < p). no l (under l))
  where
    no : ρ < p → 4 * N < (p + ρ) * (p + ρ) → ⊥
    no l o =
        let a = square (p + ρ) (2 * p) (omega arith) in
        let b = twice-square p in
        omega arith

module _ (x r : Float) (i : IsRoot x r) (y : Float) (p : ℕ) (h : T (fits binary32 y)) (v : HasValue y false p (2 ^ 149)) where
  pub at_most : i.n * 2 ^ 149 ≤ p * p → i.ρ ≤ p
  at_most l = most (i.n * 2 ^ 149) p i.ρ l (i.over y p h v)

  pub at_least : p * p ≤ i.n * 2 ^ 149 → p ≤ i.ρ
  at_least l = least (i.n * 2 ^ 149) p i.ρ l (i.under y p h v)

  pub exactly : p * p ≡ i.n * 2 ^ 149 → i.ρ ≡ p
  exactly e = le_antisymm (at_most (le_of_eq (sym e))) (at_least (le_of_eq e))

-- x has one number of units
units-only : (x : Float) (a b : ℕ) → HasValue x false a (2 ^ 149) → HasValue x false b (2 ^ 149) → a ≡ b
units-only nan a b u v = absurd u
units-only (inf s) a b u v = absurd u
units-only (fin s m e) a b u v = eq_of_mul-eq-mul_right (down e) (down_pos e) a b (sym u.1 ∙ v.1)

-- of two roots of x the one is no more than the other
no_more : (x r r' : Float) (i : IsRoot x r) (j : IsRoot x r') → i.ρ ≤ j.ρ
no_more x r r' i j = le-by i.ρ j.ρ (λ (l : j.ρ < i.ρ). no (i.n * 2 ^ 149) (j.n * 2 ^ 149) same (i.over r' j.ρ j.format j.is l) (j.under r i.ρ i.format i.is l))
  where
    same : i.n * 2 ^ 149 ≡ j.n * 2 ^ 149
    same = ap (λ (n : ℕ). n * 2 ^ 149) (units-only x i.n j.n i.of j.of)

    no : (N M : ℕ) → N ≡ M → (j.ρ + i.ρ) * (j.ρ + i.ρ) < 4 * N → 4 * M < (i.ρ + j.ρ) * (i.ρ + j.ρ) → ⊥
    no N M e a b =
        let f : (j.ρ + i.ρ) * (j.ρ + i.ρ) ≡ (i.ρ + j.ρ) * (i.ρ + j.ρ) = ap (λ (y : ℕ). y * y) (swap j.ρ i.ρ) in
        omega arith
      where
        swap : (a b : ℕ) → a + b ≡ b + a
        swap a b = omega arith

pub one-root : (x r r' : Float) (i : IsRoot x r) (j : IsRoot x r') → i.ρ ≡ j.ρ
one-root x r r' i j = le_antisymm (no_more x r r' i j) (no_more x r' r j i)

-- the root of a number above 0 is above 0
smallest : T (fits binary32 (fin false 1 (negsuc 148)))
unfolding fits
smallest = tt

pub root-positive : (x : Float) → T (fits binary32 x) → T (positive x) → T (positive (sqrt_of x))
root-positive x h p =
    let i = nearest-root x h p in
    let n_pos = value_pos x i.n (2 ^ 149) p (pow_pos 149) i.of in
    positive_of_value (sqrt_of x) i.ρ (2 ^ 149) i.is (at_least x (sqrt_of x) i (fin false 1 (negsuc 148)) 1 smallest (refl, refl) (mul-pos n_pos (pow_pos 149)))
