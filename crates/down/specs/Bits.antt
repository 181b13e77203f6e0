-- The bits by masks: a power of two picks the bit out, so `or` puts it up and a difference takes it down; and the lowest of 52 is the lowest of 64, if it is one
-- of them.
use Rattle.std.specs.Prelude.{ℕ, zero, suc, ◌+◌, ◌-◌, ◌*◌, ◌/◌, ◌%◌, ◌^◌, ◌<◌, ◌≤◌, min, ◌≡◌, refl, true, false, cond, eqb}
use Rattle.std.proofs.Common.{◌∙◌, ap, shl_exact, pow-suc, one-mul, arith}
use Rattle.std.specs.Int.Bits.{bit_and, bit_or, or_add_and}
use Rattle.std.proofs.lemmas.Nat.Bits.{and_high}
use Rattle.std.specs.Int.Count.{count_trailing_zeros, under}
use Rattle.std.proofs.lemmas.Nat.{trailing_le}
use Rattle.std.proofs.Math.Nat.{zero-min, min-zero, suc-min-suc}
use Rattle.rules.specs.Names.{places_per_pad}
use Rattle.rules.specs.Down.{has_bit, put_bit, lowest_of}

-- a power of two as the machine makes it
pub power : (k : ℕ) → k < places_per_pad → (1 * 2 ^ k) % 2 ^ 64 ≡ 2 ^ k
power k l = shl_exact 1 k 64 (omega arith) (omega arith) ∙ one-mul (2 ^ k)

-- the bit, picked out
picked : (b k : ℕ) → bit_and b (2 ^ k) ≡ (b / 2 ^ k % 2) * 2 ^ k
picked b k =
    let double : 2 ^ (1 + k) ≡ 2 ^ k * 2 = ap (λ (n : ℕ). 2 ^ n) (omega arith) ∙ pow-suc 2 k in
    let alone : 2 ^ k ≡ 2 ^ (1 + k) - 2 ^ k = omega arith in
    ap (bit_and b) alone ∙ and_high b 1 k

-- where the bit is r
digit : (b k : ℕ) → (r : ℕ) → b / 2 ^ k % 2 ≡ r → bit_and b (2 ^ k) ≡ r * 2 ^ k
digit b k r e = picked b k ∙ ap (λ (n : ℕ). n * 2 ^ k) e

up_by : (b k r : ℕ) → b / 2 ^ k % 2 ≡ r → r < 2 → bit_or b (2 ^ k) ≡ cond (eqb r 1) b (b + 2 ^ k)
up_by b k zero e l = omega (arith, or_add_and b (2 ^ k), digit b k zero e)
up_by b k (suc zero) e l = omega (arith, or_add_and b (2 ^ k), digit b k 1 e)
up_by b k (suc (suc r)) e l = absurd (omega arith)

pub up : (b k : ℕ) → bit_or b (2 ^ k) ≡ put_bit b k true
unfolding put_bit has_bit
up b k = up_by b k (b / 2 ^ k % 2) refl (omega arith)

down_by : (b k r : ℕ) → b / 2 ^ k % 2 ≡ r → r < 2 → b - bit_and b (2 ^ k) ≡ cond (eqb r 1) (b - 2 ^ k) b
down_by b k zero e l = omega (arith, digit b k zero e)
down_by b k (suc zero) e l = omega (arith, digit b k 1 e)
down_by b k (suc (suc r)) e l = absurd (omega arith)

pub taken-down : (b k : ℕ) → b - bit_and b (2 ^ k) ≡ put_bit b k false
unfolding put_bit has_bit
taken-down b k = down_by b k (b / 2 ^ k % 2) refl (omega arith)

-- the first d digits of d + e
first_by : (d e b r : ℕ) → min (count_trailing_zeros (d + e) (b / 2)) d ≡ count_trailing_zeros d (b / 2) → min (under r (count_trailing_zeros (d + e) (b / 2))) (suc d) ≡ under r (count_trailing_zeros d (b / 2))
first_by d e b zero h = rw suc-min-suc (ap suc h)
first_by d e b (suc r) h = zero-min (suc d)

first_of : (d e b : ℕ) → min (count_trailing_zeros (d + e) b) d ≡ count_trailing_zeros d b
unfolding count_trailing_zeros
first_of zero e b = min-zero (count_trailing_zeros (0 + e) b)
first_of (suc d) e b =
    let more : suc d + e ≡ suc (d + e) = omega arith in
    rw more (first_by d e b (b % 2) (first_of d e (b / 2)))

pub lowest-is : (b : ℕ) → min (count_trailing_zeros 64 b) places_per_pad ≡ lowest_of b
unfolding lowest_of
lowest-is b = first_of places_per_pad 12 b

pub lowest-small : (b : ℕ) → lowest_of b ≤ places_per_pad
unfolding lowest_of
lowest-small b = trailing_le places_per_pad b
