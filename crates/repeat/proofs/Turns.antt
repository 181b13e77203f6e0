-- One turn of the scan, and its end: a due record is the answer, a record that is not due leaves the answer to the records behind it.
use Rattle.std.specs.Prelude.{◌≡◌, Bool, true, false, List, ℕ, suc, ◌+◌, ◌-◌, ◌≤◌, ◌<◌, get_or}
use Rattle.std.proofs.Common.{arith}
use Rattle.rules.specs.declared.ButtonData.{ButtonData}
use Rattle.rules.specs.Names.{places_per_pad}
use Rattle.rules.specs.Hub.{past_button}
use Rattle.rules.specs.Repeat.{due_of}
use Rattle.repeat.specs.Run.{first_from}

module _ (run : List ButtonData) (after every now : ℕ) where
  -- whether a record is due
  abbrev pub test : ℕ → Bool
  test i = due_of true (get_or run i past_button) after every now

  -- what the records from i on give
  abbrev pub rest : ℕ → ℕ
  rest i = first_from run after every now (places_per_pad - i) i

  pub hit : (i : ℕ) → i < places_per_pad → test i ≡ true → i ≡ rest i
  unfolding first_from
  hit i below due = let left : places_per_pad - i ≡ suc (places_per_pad - (i + 1)) = omega arith in rw (left, due)

  pub miss : (i : ℕ) → i < places_per_pad → test i ≡ false → rest (i + 1) ≡ rest i
  unfolding first_from
  miss i below due = let left : places_per_pad - i ≡ suc (places_per_pad - (i + 1)) = omega arith in rw (left, due)

  pub end : (i : ℕ) → places_per_pad ≤ i → places_per_pad ≡ rest i
  unfolding first_from
  end i past = let left : places_per_pad - i ≡ 0 = omega arith in rw left
