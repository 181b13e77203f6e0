-- The digits that `io` writes are those of the definitions: the fewest that hold a number are as many as `places_of` counts, and eight hold 32 bits.
-- The idea: one digit fewer holds the tenth part.
use Rattle.std.proofs.Common.{◌≡◌, refl, sym, ap, ◌∙◌, Bool, true, false, cond, [], ◌∷◌, ℕ, zero, suc, ◌+◌, ◌-◌, ◌/◌, ◌%◌, ◌^◌, ◌≤◌, ◌<◌, add-one, arith, length, length-append, ltb}
use Rattle.std.proofs.Math.Nat.{pow-suc, one-le-pow, pow-le-pow_right}
use borrow.Author.Tests.{ltb-true, ltb-false}
use Rattle.io.specs.Digits.{last_digits, hex_digit_ascii, IsDigitCount}
use Rattle.lines.specs.Text.{places_of, decimal_of, hex_of, number_text, hex_text}

pub digits-length : (b k n : ℕ) → length (last_digits b k n) ≡ k
digits-length b zero n = refl
digits-length b (suc k) n =
    length-append (last_digits b k (n / b)) (hex_digit_ascii (n % b) ∷ []) ∙ ap (λ (l : ℕ). l + 1) (digits-length b k (n / b)) ∙ add-one k

-- either one digit, or one more than the tenth part has
either : (b : Bool) (k p : ℕ) → p ≤ k → cond b 1 (p + 1) ≤ k + 1
either true k p h = omega arith
either false k p h = omega arith

places-most : (k n : ℕ) → places_of k n ≤ k + 1
unfolding places_of
places-most zero n = omega arith
places-most (suc k) n =
    let h : places_of k (n / 10) ≤ suc k = omega (arith, places-most k (n / 10)) in
    either (ltb n 10) (suc k) (places_of k (n / 10)) h

pub decimal-short : (n : ℕ) → length (decimal_of n) ≤ 20
unfolding decimal_of
decimal-short n = omega (arith, digits-length 10 (places_of 19 n) n, places-most 19 n)

-- a number of one digit has no second place
single : (n k : ℕ) → n < 10 → IsDigitCount 10 1 n k → k ≡ 1
single n zero h f = omega (arith, f.0)
single n (suc zero) h f = refl
single n (suc (suc k)) h f =
    let e : 10 ^ (suc (suc k) - 1) ≡ 10 ^ suc k = ap (λ (j : ℕ). 10 ^ j) (omega arith) in
    let low : 10 ^ (suc (suc k) - 1) ≤ n = f.2 (omega arith) in
    omega (arith, pow-suc 10 k, one-le-pow k 10 (omega arith))

-- the tenth part has one digit fewer
fewer : (n k : ℕ) → 10 ≤ n → IsDigitCount 10 1 n (suc k) → IsDigitCount 10 1 (n / 10) k
fewer n zero h f =
    let low : n < 10 ^ suc zero = f.1 in
    omega (arith, pow-suc 10 0)
fewer n (suc k) h f =
    let e : 10 ^ (suc (suc k) - 1) ≡ 10 ^ suc k = ap (λ (j : ℕ). 10 ^ j) (omega arith) in
    let d : 10 ^ (suc k - 1) ≡ 10 ^ k = ap (λ (j : ℕ). 10 ^ j) (omega arith) in
    let high : n < 10 ^ suc (suc k) = f.1 in
    let low : 10 ^ (suc (suc k) - 1) ≤ n = f.2 (omega arith) in
    (omega arith, omega (arith, pow-suc 10 (suc k)), λ t. omega (arith, pow-suc 10 k))

-- by the first digit, where the tenth part's places are known
places-by : (b : Bool) (n k p : ℕ) → ltb n 10 ≡ b → IsDigitCount 10 1 n (suc k) → (10 ≤ n → p ≡ k) → cond b 1 (p + 1) ≡ suc k
places-by true n k p e f g = sym (single n (suc k) (ltb-true _ _ e) f)
places-by false n k p e f g = ap (λ (j : ℕ). j + 1) (g (ltb-false _ _ e)) ∙ add-one k

places-are : (most n k : ℕ) → k ≤ most + 1 → IsDigitCount 10 1 n k → places_of most n ≡ k
unfolding places_of
places-are zero n k h f = omega (arith, f.0)
places-are (suc most) n zero h f = omega (arith, f.0)
places-are (suc most) n (suc k) h f =
    places-by (ltb n 10) n k (places_of most (n / 10)) refl f (λ t. places-are most (n / 10) k (omega arith) (fewer n k t f))

-- a number below the m-th power of the base has no more than m digits
at_most : (b least n k m : ℕ) → 0 < b → least ≤ m → n < b ^ m → IsDigitCount b least n k → k ≤ m
at_most b least n k m p h small f =
    go (ltb m k) refl
  where
    go : (t : Bool) → ltb m k ≡ t → k ≤ m
    go true e =
        let above : m < k = ltb-true _ _ e in
        let more : least < k = omega arith in
        let low : b ^ (k - 1) ≤ n = f.2 more in
        let high : b ^ m ≤ b ^ (k - 1) = pow-le-pow_right p {i = m} {j = k - 1} (omega arith) in
        omega arith
    go false e = ltb-false m k e

pub decimal-is : (n k : ℕ) → n < 10 ^ 20 → IsDigitCount 10 1 n k → last_digits 10 k n ≡ decimal_of n
unfolding decimal_of
decimal-is n k h f =
    ap (λ (p : ℕ). last_digits 10 p n) (sym (places-are 19 n k (at_most 10 1 n k 20 (omega arith) (omega arith) h f) f))

pub hex-is : (n k : ℕ) → n < 16 ^ 8 → IsDigitCount 16 8 n k → last_digits 16 k n ≡ hex_of n
unfolding hex_of
hex-is n k h f =
    let low : 8 ≤ k = f.0 in
    let high : k ≤ 8 = at_most 16 8 n k 8 (omega arith) (omega arith) h f in
    let eight : k ≡ 8 = omega arith in
    ap (λ (p : ℕ). last_digits 16 p n) eight

pub hex-short : (n : ℕ) → length (hex_of n) ≤ 8
unfolding hex_of
hex-short n = omega (arith, digits-length 16 8 n)

-- with the byte behind them

pub number_short : (n end : ℕ) → length (number_text n end) ≤ 21
unfolding number_text
number_short n end = omega (arith, length-append (decimal_of n) (end ∷ []), decimal-short n)

pub hex-text-short : (n end : ℕ) → length (hex_text n end) ≤ 9
unfolding hex_text
hex-text-short n end = omega (arith, length-append (hex_of n) (end ∷ []), hex-short n)
