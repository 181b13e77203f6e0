-- A list that was played: so many records were read one behind the other, and each came out right.
use Rattle.std.specs.Prelude.{ℕ, ◌+◌, List, Option, take}
use Rattle.std.specs.Io.KnownBytes.{Consumes}

-- one record: its bytes, the first of what was looked at, are what the input lost, as far as its bytes are known
abbrev pub OneRight : {S : Type 0} → (S → Option (List ℕ)) → (List ℕ → Type 0) → ℕ → S → S → Type 0
OneRight remaining right size from to = (bytes : List ℕ) × Consumes (remaining from) (remaining to) (take size bytes) × right bytes

pub data AllRight {S : Type 0} (remaining : S → Option (List ℕ)) (right : List ℕ → Type 0) (size : ℕ) (from : S) : S → ℕ → Type 0 where
  none : AllRight remaining right size from from 0
  one_more : {mid to : S} {n : ℕ} → AllRight remaining right size from mid n → OneRight remaining right size mid to
      → AllRight remaining right size from to (n + 1)
