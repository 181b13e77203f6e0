-- The magnitude of a stick is at least each of its two sizes, where that is above a half: a square rounded loses at most half a place, which is too little
-- to bring its root below the next value. (Far below a half the square underflows, and this is false.)
use Rattle.std.specs.Prelude.{◌≡◌, ◌⊎◌, false, ℕ, ◌+◌, ◌-◌, ◌*◌, ◌≤◌, ◌<◌, Float}
use Rattle.std.proofs.Common.{sym, ap, ◌∙◌, subst, inl, inr, le_trans, le_of_eq, le_of_lt, le_of_suc-le-suc, lt_irrefl, lt_of_lt_of_le, lt_of_le_of_lt, lt_of_not-le, eq-or-lt_of_le, add-mul, mul_comm, mul_assoc, mul_right_comm, mul-le-mul_left, mul-le-mul_right, mul-lt-mul_of_pos_right, lt_of_mul-lt-mul_right, le_of_mul-le-mul_right, arith, lit<}
use Rattle.std.proofs.Math.Nat.{mul-mul-mul_comm}
use Rattle.std.specs.Float.{binary32}
use Rattle.std.specs.Float.Ieee.Fits.{round-fits}
use Rattle.binary32.specs.WholeRoot.{square, next-square, twice-square}
use Rattle.binary32.specs.Values.{Held, held, grid}
use Rattle.binary32.specs.Nearest.{IsRoot}
use Rattle.binary32.specs.Bounds as Root
use Rattle.theory_arithmetic.specs.Units.{half, one, place, one-pos, ones_pos, one-held}
use Rattle.theory_arithmetic.specs.Rounding.{rounded, value_of, value_of-is, at_most, at_least, at-least-half}

-- the size of a square, rounded
abbrev pub squared : ℕ → ℕ
squared X = rounded (X * X) (one * one)

-- ---- With X = (K + 1) * E, and E a place: a root that is at most K * E is too low, since its middle with X would be at most (K + 1/2) * E.
-- From K = 2 ^ 23 on that is below the root of X * X less 2 ^ 23 * E * E, and no more is lost when the square is rounded.
module _ (E K N X R : ℕ) (x : X ≡ (K + 1) * E) (r : R ≤ K * E) where
  middle : X + R ≤ (2 * K + 1) * E
  middle =
      let a = add-mul K 1 E in
      let b = add-mul (2 * K) 1 E in
      let c = mul_assoc 2 K E in
      omega arith

  sum-square : (X + R) * (X + R) ≤ (2 * K + 1) * (2 * K + 1) * (E * E)
  sum-square = le_trans (square (X + R) ((2 * K + 1) * E) middle) (le_of_eq (mul-mul-mul_comm (2 * K + 1) E (2 * K + 1) E))

  own_square : X * X ≡ (K + 1) * (K + 1) * (E * E)
  own_square = ap (λ (n : ℕ). n * n) x ∙ mul-mul-mul_comm (K + 1) E (K + 1) E

  too-low : 8388608 ≤ K → 4 * (X * X) ≤ 4 * N + 33554432 * (E * E) → 4 * N < (X + R) * (X + R) → ⊥
  too-low k lost low = no (lt_of_mul-lt-mul_right (E * E) (all ((K + 1) * (K + 1)) ((2 * K + 1) * (2 * K + 1)) own_square sum-square))
    where
      all : (p q : ℕ) → X * X ≡ p * (E * E) → (X + R) * (X + R) ≤ q * (E * E) → 4 * p * (E * E) < (q + 33554432) * (E * E)
      all p q a b =
          let c = mul_assoc 4 p (E * E) in
          let d = add-mul q 33554432 (E * E) in
          omega arith

      no : 4 * ((K + 1) * (K + 1)) < (2 * K + 1) * (2 * K + 1) + 33554432 → ⊥
      no h =
          let a = next-square K in
          let b = next-square (2 * K) in
          let c = twice-square K in
          omega arith

-- what is lost when a square x is rounded to A: half a place, e
spared : (U A N x e : ℕ) → 0 < U → A ≤ N → 2 * (x * U) ≤ 2 * (A * (U * U)) + U * U * e → 4 * x ≤ 4 * (N * U) + 2 * (U * e)
spared U A N x e pos a h =
    let l : 2 * x * U ≤ (2 * (A * U) + U * e) * U = sides in
    let m : 2 * x ≤ 2 * (A * U) + U * e = le_of_mul-le-mul_right l pos in
    let k : A * U ≤ N * U = mul-le-mul_right U a in
    omega arith
  where
    sides : 2 * x * U ≤ (2 * (A * U) + U * e) * U
    sides =
        let p = mul_assoc 2 x U in
        let q = add-mul (2 * (A * U)) (U * e) U in
        let r = mul_assoc 2 (A * U) U in
        let s = mul_assoc A U U in
        let t = mul_right_comm U e U in
        omega arith

-- ---- X units, above a half

module _ (z r : Float) (i : IsRoot z r) (X : ℕ) (h : Held X) (above : half < X) (enough : squared X ≤ i.n) where
  -- at 1
  at_one : X ≡ one → X ≤ i.ρ
  at_one e =
      let most : squared one ≤ one = at_most (one * one) (one * one) one ones_pos one-held (le_of_eq (mul_comm (one * one) one)) in
      let least : one ≤ squared one =
      at_least (one * one) (one * one) one ones_pos one-held (le_of_eq (mul_comm one (one * one))) (lt_of_le_of_lt most (lit< tt)) in
      let n : one ≤ i.n = le_trans least (subst (λ (x : ℕ). squared x ≤ i.n) e enough) in
      subst (λ (x : ℕ). x ≤ i.ρ) (sym e)
      (Root.at_least z r i (value_of one) one (round-fits binary32 false one one) (value_of-is one one-held) (mul-le-mul_right one n))

  -- X is a whole number of places, more than 2 ^ 23, and a value below it is at least a place less
  places : (P : ℕ) × (X ≡ P * place)
  places = go (grid X 125 h)
    where
      go : ((P : ℕ) × (X ≡ P * place)) ⊎ (X < 8388608 * place) → (P : ℕ) × (X ≡ P * place)
      go (inl a) = a
      go (inr l) = absurd (lt_irrefl X (lt_of_lt_of_le l (le_of_lt above)))

  abbrev K : ℕ
  K = places.0 - 1

  many : 8388608 < places.0
  many = lt_of_mul-lt-mul_right place (subst (λ (x : ℕ). half < x) places.1 above)

  K-least : 8388608 ≤ K
  K-least = let l = many in omega arith

  next : X ≡ (K + 1) * place
  next = places.1 ∙ ap (λ (x : ℕ). x * place) (let l = many in omega arith)

  below_by : i.ρ < X → i.ρ ≤ K * place
  below_by l = go (grid i.ρ 125 (held r false i.ρ i.format i.is))
    where
      go : ((P : ℕ) × (i.ρ ≡ P * place)) ⊎ (i.ρ < 8388608 * place) → i.ρ ≤ K * place
      go (inl a) =
          let b : a.0 < places.0 = lt_of_mul-lt-mul_right place (subst (λ (x : ℕ). x < places.0 * place) a.1 (subst (λ (x : ℕ). i.ρ < x) places.1 l)) in
          le_trans (le_of_eq a.1) (mul-le-mul_right place (omega arith))
      go (inr b) = le_trans (le_of_lt b) (mul-le-mul_right place K-least)

  -- what rounding the square loses
  lost : X < one → 4 * (X * X) ≤ 4 * (i.n * one) + 33554432 * (place * place)
  lost l =
      spared one (squared X) i.n (X * X) place one-pos enough
      (at-least-half (X * X) (one * one) 125 ones_pos (lt_of_lt_of_le (mul-lt-mul_of_pos_right below_one one-pos) (le_of_eq (mul_comm (one * one) one))))
    where
      below_one : X * X < one * one
      below_one = lt_of_le_of_lt (mul-le-mul_left X (le_of_lt l)) (mul-lt-mul_of_pos_right l one-pos)

  pub root-above : X ≤ one → X ≤ i.ρ
  root-above u = go (eq-or-lt_of_le u)
    where
      go : (X ≡ one) ⊎ (X < one) → X ≤ i.ρ
      go (inl e) = at_one e
      go (inr l) =
          le_of_suc-le-suc (lt_of_not-le (λ (g : i.ρ < X).
          too-low place K (i.n * one) X i.ρ next (below_by g) K-least (lost l) (i.under (value_of X) X (round-fits binary32 false X one) (value_of-is X h) g)))
