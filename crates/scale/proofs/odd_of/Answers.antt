-- `odd_of` meets its contract: no difference of two numbers inside 01's limits wraps, and the machine's remainder by 2 is the definition's.
use Rattle.std.specs.Prelude.{◌≡◌, refl, ℕ, zero, suc, ◌%◌, ◌<◌, ℤ, pos, negsuc, neg_ℤ, ◌-ℤ◌, eqb}
use Rattle.std.proofs.Common.{mod-lt, arith, of_z, to_z-of_z}
use Rattle.std.specs.Int.{w32}
use Rattle.std.specs.Int.Signed.{rem_z}
use Rattle.numbers.specs.Scale.{is_one, odd_of}
use Rattle.scale.specs.Casts.{read, range-fits}
use Rattle.scale.proofs.odd_of.Goals as goal

-- the machine compares the bits of a remainder by 2 with 1
bits-one : (z : ℤ) → eqb (of_z w32 (rem_z z (pos 2))) 1 ≡ is_one (rem_z z (pos 2))
bits-one (pos n) = refl
bits-one (negsuc n) = minus (suc n % 2) (mod-lt (suc n) (omega arith))
  where
    minus : (r : ℕ) → r < 2 → eqb (of_z w32 (neg_ℤ (pos r))) 1 ≡ is_one (neg_ℤ (pos r))
    minus zero h = refl
    minus (suc zero) h = refl
    minus (suc (suc r)) h = absurd (omega arith)

pub overflow_sub-result : goal.overflow_sub-result
overflow_sub-result c =
    let a = c.args in
    rw (read a.max c.requires.1, read a.min c.requires.0) (range-fits a.min a.max c.requires.0 c.requires.1)

pub returns : goal.returns
unfolding odd_of
returns c =
    let a = c.args in
    rw (read a.max c.requires.1, read a.min c.requires.0, to_z-of_z (range-fits a.min a.max c.requires.0 c.requires.1)) (bits-one (a.max -ℤ a.min))
