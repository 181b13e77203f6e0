-- The bits of a number (`rules/specs/Down.antt`): put_bit gives bit k and leaves every other; it keeps a number of n bits one of n bits; and the lowest place is
-- the first whose bit is set, past the last where none is. By halving: bit k + 1 of a number is bit k of its half.
use Rattle.std.specs.Prelude.{ℕ, zero, suc, ◌+◌, ◌-◌, ◌/◌, ◌%◌, ◌^◌, ◌<◌, ◌≤◌, Bool, true, false, ◌≡◌, refl, eqb}
use Rattle.std.proofs.Common.{sym, ap, ◌∙◌, div-one, arith, eqb-true}
use Rattle.std.proofs.Math.Nat.{pow-succ', two-pow-succ, div-div-eq-div-mul}
use Rattle.std.specs.Int.Count.{under, count_trailing_zeros}
use Rattle.std.proofs.lemmas.Nat.{trailing_le}
use Rattle.std.proofs.lemmas.Bool.{eqb-false}
use Rattle.rules.specs.Names.{places_per_pad}
use Rattle.rules.specs.Down.{has_bit, put_bit, lowest_of}
use Rattle.theory_history.specs.Lemmas.Truth.{false-true}

-- ---- the lowest bit, and the bits of the half

bit-zero : (b : ℕ) → has_bit b 0 ≡ eqb (b % 2) 1
unfolding has_bit
bit-zero b = ap (λ (x : ℕ). eqb (x % 2) 1) (div-one b)

bit-suc : (b k : ℕ) → has_bit b (suc k) ≡ has_bit (b / 2) k
unfolding has_bit
bit-suc b k = ap (λ (x : ℕ). eqb (x % 2) 1) (ap (λ (x : ℕ). b / x) (pow-succ' 2 k) ∙ sym (div-div-eq-div-mul b 2 (2 ^ k)))

-- a lowest bit that is set: the number is odd
odd-of : (b : ℕ) → has_bit b 0 ≡ true → b % 2 ≡ 1
odd-of b up = eqb-true (b % 2) 1 (sym (bit-zero b) ∙ up)

even-of : (b : ℕ) → has_bit b 0 ≡ false → b % 2 ≡ 0
even-of b down =
    let other = eqb-false (b % 2) 1 (sym (bit-zero b) ∙ down) in
    by (b % 2) other (omega arith)
  where
    by : (x : ℕ) → (x ≡ 1 → ⊥) → x < 2 → x ≡ 0
    by x other few = omega arith

-- numbers that are odd alike have the lowest bit alike
same-lowest : (a b : ℕ) → a % 2 ≡ b % 2 → has_bit a 0 ≡ has_bit b 0
same-lowest a b same = bit-zero a ∙ (ap (λ (x : ℕ). eqb x 1) same ∙ sym (bit-zero b))

same-halves : (a b k : ℕ) → a / 2 ≡ b / 2 → has_bit a (suc k) ≡ has_bit b (suc k)
same-halves a b k same = bit-suc a k ∙ (ap (λ (x : ℕ). has_bit x k) same ∙ sym (bit-suc b k))

-- ---- a bit that is not set is added

add_half : (k b : ℕ) → (b + 2 ^ suc k) / 2 ≡ b / 2 + 2 ^ k
add_half k b = rw two-pow-succ (omega arith)

add-parity : (k b : ℕ) → (b + 2 ^ suc k) % 2 ≡ b % 2
add-parity k b = rw two-pow-succ (omega arith)

added-here : (k b : ℕ) → has_bit b k ≡ false → has_bit (b + 2 ^ k) k ≡ true
added-here zero b down =
    let even = even-of b down in
    let odd : (b + 1) % 2 ≡ 1 = omega arith in
    bit-zero (b + 1) ∙ rw odd
added-here (suc k) b down =
    bit-suc (b + 2 ^ suc k) k ∙ (ap (λ (x : ℕ). has_bit x k) (add_half k b) ∙ added-here k (b / 2) (sym (bit-suc b k) ∙ down))

added-other : (k j b : ℕ) → has_bit b k ≡ false → (j ≡ k → ⊥) → has_bit (b + 2 ^ k) j ≡ has_bit b j
added-other zero zero b down other = absurd (other refl)
added-other zero (suc j) b down other =
    let even = even-of b down in
    same-halves (b + 1) b j (omega arith)
added-other (suc k) zero b down other = same-lowest (b + 2 ^ suc k) b (add-parity k b)
added-other (suc k) (suc j) b down other =
    bit-suc (b + 2 ^ suc k) j
    ∙ (ap (λ (x : ℕ). has_bit x j) (add_half k b)
    ∙ (added-other k j (b / 2) (sym (bit-suc b k) ∙ down) (λ e. other (ap suc e)) ∙ sym (bit-suc b j)))

added-small : (k n b : ℕ) → has_bit b k ≡ false → k < n → b < 2 ^ n → b + 2 ^ k < 2 ^ n
added-small k zero b down inside small = absurd (omega arith)
added-small zero (suc n) b down inside small =
    let even = even-of b down in
    let twice = two-pow-succ n in
    omega arith
added-small (suc k) (suc n) b down inside small =
    let twice = two-pow-succ n in
    let step = two-pow-succ k in
    let half = added-small k n (b / 2) (sym (bit-suc b k) ∙ down) (omega arith) (omega arith) in
    omega arith

-- ---- one that is set is taken away

holds : (k b : ℕ) → has_bit b k ≡ true → 2 ^ k ≤ b
holds zero b up =
    let odd = odd-of b up in
    omega arith
holds (suc k) b up =
    let step = two-pow-succ k in
    let half = holds k (b / 2) (sym (bit-suc b k) ∙ up) in
    omega arith

take_half : (k b : ℕ) → 2 ^ suc k ≤ b → (b - 2 ^ suc k) / 2 ≡ b / 2 - 2 ^ k
take_half k b room =
    let step = two-pow-succ k in
    omega arith

take-parity : (k b : ℕ) → 2 ^ suc k ≤ b → (b - 2 ^ suc k) % 2 ≡ b % 2
take-parity k b room =
    let step = two-pow-succ k in
    omega arith

taken_here : (k b : ℕ) → has_bit b k ≡ true → has_bit (b - 2 ^ k) k ≡ false
taken_here zero b up =
    let odd = odd-of b up in
    let even : (b - 1) % 2 ≡ 0 = omega arith in
    bit-zero (b - 1) ∙ rw even
taken_here (suc k) b up =
    bit-suc (b - 2 ^ suc k) k
    ∙ (ap (λ (x : ℕ). has_bit x k) (take_half k b (holds (suc k) b up)) ∙ taken_here k (b / 2) (sym (bit-suc b k) ∙ up))

taken-other : (k j b : ℕ) → has_bit b k ≡ true → (j ≡ k → ⊥) → has_bit (b - 2 ^ k) j ≡ has_bit b j
taken-other zero zero b up other = absurd (other refl)
taken-other zero (suc j) b up other =
    let odd = odd-of b up in
    same-halves (b - 1) b j (omega arith)
taken-other (suc k) zero b up other = same-lowest (b - 2 ^ suc k) b (take-parity k b (holds (suc k) b up))
taken-other (suc k) (suc j) b up other =
    bit-suc (b - 2 ^ suc k) j
    ∙ (ap (λ (x : ℕ). has_bit x j) (take_half k b (holds (suc k) b up))
    ∙ (taken-other k j (b / 2) (sym (bit-suc b k) ∙ up) (λ e. other (ap suc e)) ∙ sym (bit-suc b j)))

-- ---- put_bit

put-same-by : (b k : ℕ) (v was : Bool) → has_bit b k ≡ was → has_bit (put_bit b k v) k ≡ v
unfolding put_bit
put-same-by b k true true is = rw is is
put-same-by b k true false is = rw is (added-here k b is)
put-same-by b k false true is = rw is (taken_here k b is)
put-same-by b k false false is = rw is is

-- bit k is what was put
pub put_same : (b k : ℕ) (v : Bool) → has_bit (put_bit b k v) k ≡ v
put_same b k v = put-same-by b k v (has_bit b k) refl

put-other-by : (b k j : ℕ) (v was : Bool) → has_bit b k ≡ was → (j ≡ k → ⊥) → has_bit (put_bit b k v) j ≡ has_bit b j
unfolding put_bit
put-other-by b k j true true is other = rw is
put-other-by b k j true false is other = rw is (added-other k j b is other)
put-other-by b k j false true is other = rw is (taken-other k j b is other)
put-other-by b k j false false is other = rw is

-- every other bit is as it was
pub put_other : (b k j : ℕ) (v : Bool) → (j ≡ k → ⊥) → has_bit (put_bit b k v) j ≡ has_bit b j
put_other b k j v other = put-other-by b k j v (has_bit b k) refl other

put-small-by : (b k n : ℕ) (v was : Bool) → has_bit b k ≡ was → k < n → b < 2 ^ n → put_bit b k v < 2 ^ n
unfolding put_bit
put-small-by b k n true true is inside small = rw is small
put-small-by b k n true false is inside small = rw is (added-small k n b is inside small)
put-small-by b k n false true is inside small = rw is (omega arith)
put-small-by b k n false false is inside small = rw is small

-- a number of n bits stays one
pub put_small : (b k n : ℕ) (v : Bool) → k < n → b < 2 ^ n → put_bit b k v < 2 ^ n
put_small b k n v inside small = put-small-by b k n v (has_bit b k) refl inside small

-- of 0 no bit is set
pub zero_bits : (k : ℕ) → has_bit 0 k ≡ false
zero_bits zero = bit-zero 0
zero_bits (suc k) = bit-suc 0 k ∙ zero_bits k

-- ---- the lowest

trailing-set : (n b : ℕ) → count_trailing_zeros n b < n → has_bit b (count_trailing_zeros n b) ≡ true
unfolding count_trailing_zeros
trailing-set zero b short = absurd (omega arith)
trailing-set (suc n) b short = by (b % 2) refl short (trailing-set n (b / 2))
  where
    by : (lowest : ℕ) → b % 2 ≡ lowest → under lowest (count_trailing_zeros n (b / 2)) < suc n
        → (count_trailing_zeros n (b / 2) < n → has_bit (b / 2) (count_trailing_zeros n (b / 2)) ≡ true)
        → has_bit b (under lowest (count_trailing_zeros n (b / 2))) ≡ true
    by zero is short rest = bit-suc b _ ∙ rest (omega arith)
    by (suc m) is short rest =
        let one : b % 2 ≡ 1 = omega arith in
        bit-zero b ∙ rw one

trailing-clear : (n b j : ℕ) → j < count_trailing_zeros n b → has_bit b j ≡ false
unfolding count_trailing_zeros
trailing-clear zero b j less = absurd (omega arith)
trailing-clear (suc n) b j less = by (b % 2) refl j less (trailing-clear n (b / 2))
  where
    by : (lowest : ℕ) → b % 2 ≡ lowest → (i : ℕ) → i < under lowest (count_trailing_zeros n (b / 2))
        → ((i : ℕ) → i < count_trailing_zeros n (b / 2) → has_bit (b / 2) i ≡ false)
        → has_bit b i ≡ false
    by zero is zero less rest = bit-zero b ∙ rw is
    by zero is (suc i) less rest = bit-suc b i ∙ rest i (omega arith)
    by (suc m) is i less rest = absurd (omega arith)

-- a lowest place is set
pub lowest_set : (b : ℕ) → lowest_of b < places_per_pad → has_bit b (lowest_of b) ≡ true
unfolding lowest_of
lowest_set b short = trailing-set places_per_pad b short

-- and none before it is
pub lowest-first : (b k : ℕ) → k < lowest_of b → has_bit b k ≡ false
unfolding lowest_of
lowest-first b k less = trailing-clear places_per_pad b k less

pub lowest-none : (b : ℕ) → ((k : ℕ) → k < places_per_pad → has_bit b k ≡ false) → lowest_of b ≡ places_per_pad
unfolding lowest_of
lowest-none b none = by (trailing_le places_per_pad b) (λ short. false-true (sym (none _ short) ∙ trailing-set places_per_pad b short))
  where
    by : count_trailing_zeros places_per_pad b ≤ places_per_pad → (count_trailing_zeros places_per_pad b < places_per_pad → ⊥) → count_trailing_zeros places_per_pad b ≡ places_per_pad
    by most not-less = omega arith
