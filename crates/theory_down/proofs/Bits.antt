-- The lowest place of a number is past the last place exactly where no place is set: one way; `lowest-none` of `specs/Bits` is the other. Since none before the lowest is set.
use Rattle.std.specs.Prelude.{ℕ, ◌<◌, false, ◌≡◌}
use Rattle.std.proofs.Common.{arith}
use Rattle.rules.specs.Names.{places_per_pad}
use Rattle.rules.specs.Down.{has_bit, lowest_of}
use Rattle.theory_down.specs.Bits.{lowest-first}

-- ---- the lowest

-- it is past the last place exactly where no place is set
pub lowest-past : (b : ℕ) → lowest_of b ≡ places_per_pad → (k : ℕ) → k < places_per_pad → has_bit b k ≡ false
lowest-past b past k short = lowest-first b k (omega arith)
