-- Names that stand in a list of bytes at start, start + stride, ..: that the bytes are there, and that the i-th of them stands again behind it.
-- Definitions only.
use Rattle.std.specs.Prelude.{ℕ, ◌+◌, ◌-◌, ◌*◌, ◌<◌, Bool, not, ◌&&◌, List, length, eqb}
use Rattle.rules.specs.Names.{no_name}
use Rattle.rules.specs.Sheets.{name_at, occurs_in}

pub record Spread (s : List ℕ) (start stride count : ℕ) : Type 0 where
  pub there : (i : ℕ) → i < count → start + stride * i < length s

-- one of the tests of `occurs_twice`
unfoldable pub occurs_again : List ℕ → ℕ → ℕ → ℕ → ℕ → Bool
unfolding name_at occurs_in
occurs_again s start stride count i =
    not (eqb (name_at s start stride i) no_name) && occurs_in s start stride (name_at s start stride i) (count - (i + 1)) (i + 1)
