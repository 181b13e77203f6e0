-- A part of a stored list, where the input's bytes are known: a kind, the length of what follows in four bytes, the highest first, and that. Definitions only.
use Rattle.std.specs.Prelude.{ℕ, ◌≡◌, List, ◌++◌, length, get_or, Option}
use Rattle.std.specs.Io.KnownBytes.{Consumes}
use Rattle.rules.specs.Forms.{field_of}

pub record Opens (opening : List ℕ) (kind size : ℕ) : Type 0 where
  pub long : length opening ≡ 5
  pub first : get_or opening 0 0 ≡ kind
  pub rest : field_of opening 1 4 ≡ size

-- the input lost the part of this kind with these bytes, and nothing else
abbrev pub GivesPart : Option (List ℕ) → Option (List ℕ) → ℕ → List ℕ → Type 0
GivesPart old new kind bytes = (opening : List ℕ) × Opens opening kind (length bytes) × Consumes old new (opening ++ bytes)
