-- The first due of a pad's records, as the library's `position` finds it.
use Rattle.std.specs.Prelude.{◌≡◌, Bool, true, false, cond, not, List, ℕ, zero, suc, ◌+◌, ◌<◌, length, get_or, position}
use Rattle.std.specs.List.{position_or_len}
use Rattle.std.specs.Option.{unwrap_or}
use Rattle.std.proofs.Common.{arith, drop, add-one}
use Rattle.std.proofs.Math.Seq.{drop-cons}
use Rattle.std.proofs.lemmas.List.{drop_all}
use Rattle.std.proofs.lemmas.List.Sums.{prefix_len-le-length}
use Rattle.std.proofs.lemmas.Grind.{common_steps}
use Rattle.rules.specs.declared.ButtonData.{ButtonData}
use Rattle.rules.specs.Names.{places_per_pad}
use Rattle.rules.specs.Hub.{past_button}
use Rattle.rules.specs.Repeat.{due_of}
use Rattle.repeat.specs.Run.{first_from, first_of}

-- one record, which is due or leaves the answer to those behind it
one : (due : Bool) (i n later : ℕ) → later ≡ i + 1 + n → cond due i later ≡ i + cond (not due) (1 + n) 0
one true i n later is = omega arith
one false i n later is = omega arith

module _ (run : List ButtonData) (after every now : ℕ) (whole : length run ≡ places_per_pad) where
  abbrev test : ButtonData → Bool
  test b = due_of true b after every now

  -- the first due of the n records from i on stands as far behind i as the first that passes in what is left there
  from-is : (n i : ℕ) → i + n ≡ places_per_pad → first_from run after every now n i ≡ i + position_or_len test (drop i run)
  unfolding first_from
  from-is zero i end = rw (drop_all i run (omega arith)) (omega arith)
  from-is (suc n) i end =
      let short : i < length run = omega arith in
      let later : first_from run after every now n (i + 1) ≡ i + 1 + position_or_len test (drop (suc i) run)
      = rw (← add-one i) (from-is n (i + 1) (omega arith)) in
      rw (drop-cons run i past_button short) (one (test (get_or run i past_button)) i _ _ later)

  pub first-is : unwrap_or (position test run) places_per_pad ≡ first_of run after every now
  first-is =
      let all = from-is places_per_pad 0 (omega arith) in
      grind (arith, common_steps, all, prefix_len-le-length (λ b. not (test b)) run)
