-- The button records of one pad as a run, in place order, and the first of them that is due.
use Rattle.std.specs.Prelude.{true, cond, List, ℕ, zero, suc, ◌+◌, get_or}
use Rattle.rules.specs.declared.ButtonData.{ButtonData}
use Rattle.rules.specs.Names.{places_per_pad}
use Rattle.rules.specs.Hub.{past_button}
use Rattle.rules.specs.Repeat.{due_of}

-- the first due of the n records from i on; past the pad's last where none is
unfoldable pub first_from : List ButtonData → ℕ → ℕ → ℕ → ℕ → ℕ → ℕ
unfolding due_of
first_from run after every now zero i = places_per_pad
first_from run after every now (suc n) i =
    cond (due_of true (get_or run i past_button) after every now) i (first_from run after every now n (i + 1))

-- the first due of a pad's records
abbrev pub first_of : List ButtonData → ℕ → ℕ → ℕ → ℕ
first_of run after every now = first_from run after every now places_per_pad 0
