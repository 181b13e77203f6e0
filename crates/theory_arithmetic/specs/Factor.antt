-- The factor ((m - t) / (1 - t)) / m of the deadzone in units, each operation rounded, for 0 ≤ t < m ≤ 1: it is at most 2. And above a half, where it is at most
-- 1 / m rounded, m times the factor is at most 1 + 2 ^ -24. The ideas: m - t ≤ 1 - t, so the first quotient is at most 1; and where m is at most a half, 1 - t is
-- at least a half, so the first quotient is at most 2 m, which is a value. Nothing is asked of how small m is.
use Rattle.std.proofs.Common.{sym, ◌∙◌, le_trans, le_of_eq, le_of_lt, add-le-add, lt_of_le_of_lt, mul_comm, mul_assoc, mul_left_comm, mul-le-mul_left, mul-le-mul_right, arith, lit<, ltb→lt, nltb→le, pow_pos}
use Rattle.std.specs.Prelude.{Bool, true, false, not, ℕ, ◌+◌, ◌-◌, ◌*◌, ◌^◌, ◌≤◌, ◌<◌, T, ltb}
use Rattle.std.proofs.Math.Nat.{mul-lt-mul_of_pos_left, le_of_mul-le-mul_left}
use Rattle.binary32.specs.Values.{Held}
use Rattle.theory_arithmetic.specs.Units.{half, one, two, too_large, place, one-pos, power-held, one-held, two-held, double-held}
use Rattle.theory_arithmetic.specs.Rounding.{rounded, rounded-le, at_most, at_least, at-most-half}

-- ---- m is M units and t is q units

-- m - t
abbrev pub excess : ℕ → ℕ → ℕ
excess M q = rounded (M - q) one

-- 1 - t
abbrev pub rest : ℕ → ℕ
rest q = rounded (one - q) one

abbrev pub share : ℕ → ℕ → ℕ
share M q = rounded (excess M q) (rest q)

abbrev pub factor : ℕ → ℕ → ℕ
factor M q = rounded (share M q) M

sub-le : (a q : ℕ) → a - q ≤ a
sub-le a q = omega arith

sub-le-sub : (a b q : ℕ) → a ≤ b → a - q ≤ b - q
sub-le-sub a b q h = omega arith

module _ (M q : ℕ) (h : Held M) (l : q < M) (u : M ≤ one) where
  M-pos : 0 < M
  M-pos = omega arith

  pub rest-small : rest q < too_large
  rest-small = lt_of_le_of_lt (at_most (one - q) one one one-pos one-held (mul-le-mul_right one (sub-le one q))) (lit< tt)

  pub excess-le : excess M q ≤ M
  excess-le = at_most (M - q) one M one-pos h (mul-le-mul_right one (sub-le M q))

  excess-rest : excess M q ≤ rest q
  excess-rest = rounded-le (M - q) one (one - q) one one-pos one-pos (mul-le-mul_right one (sub-le-sub M one q u)) rest-small

  rest-least : (j : ℕ) → j < 277 → 2 ^ j ≤ one - q → 2 ^ j ≤ rest q
  rest-least j k g = at_least (one - q) one (2 ^ j) one-pos (power-held j k) (mul-le-mul_right one g) rest-small

  pub rest-pos : 0 < rest q
  rest-pos = rest-least 0 (lit< tt) (some M one q l u)
    where
      some : (M a q : ℕ) → q < M → M ≤ a → 1 ≤ a - q
      some M a q l u = omega arith

  pub share-le : share M q ≤ one
  share-le = at_most (excess M q) (rest q) one rest-pos one-held (le_trans (mul-le-mul_right one excess-rest) (le_of_eq (mul_comm (rest q) one)))

  -- where m is at most a half
  share-low : M ≤ half → share M q ≤ 2 * M
  share-low g =
      at_most (excess M q) (rest q) (2 * M) rest-pos (double-held M h (mul-le-mul_left 2 g))
      (le_trans (mul-le-mul_right one excess-le)
      (le_trans (le_of_eq (mul_left_comm M 2 half ∙ sym (mul_assoc 2 M half))) (mul-le-mul_left (2 * M) (rest-least 148 (lit< tt) (wide M half q l g)))))
    where
      wide : (M a q : ℕ) → q < M → M ≤ a → a ≤ 2 * a - q
      wide M a q l g = omega arith

  pub factor-le : factor M q ≤ two
  factor-le = go (ltb half M) (ltb→lt half M) (nltb→le half M)
    where
      by : share M q * one ≤ two * M → factor M q ≤ two
      by g = at_most (share M q) M two M-pos two-held g

      go : (b : Bool) → (T b → half < M) → (T (not b) → M ≤ half) → factor M q ≤ two
      go true y n = by (le_trans (mul-le-mul_right one share-le) (mul-le-mul_left two (le_of_lt (y tt))))
      go false y n = by (le_trans (mul-le-mul_right one (share-low (n tt))) (le_of_eq (mul_assoc 2 M one ∙ mul_left_comm 2 M one ∙ mul_comm M two)))

  -- where m is above a half, and so 1 / m below 2: there a place is twice as wide
  pub factor-close : half < M → factor M q * M ≤ one * one + one * place
  factor-close g =
      le_of_mul-le-mul_left
      (le_trans (at-most-half (share M q) M 126 M-pos (lt_of_le_of_lt (mul-le-mul_right one share-le) (mul-lt-mul_of_pos_left g (pow_pos 150))))
      (add-le-add (mul-le-mul_left 2 (mul-le-mul_right one share-le)) (mul-le-mul_right (2 * place) u)))
      (pow_pos 1)
