-- `sheets::occurs_twice` meets its contract: the definition says what `any` says of the numbers below the count.
use Rattle.std.proofs.Common.{◌≡◌, refl, ◌∙◌, rules, tests, arith, List, ℕ, zero, suc, ◌+◌, ◌-◌}
use Rattle.std.specs.List.{list_any, range_with_len}
use Rattle.std.proofs.lemmas.Iterator.{YieldsList-from_range}
use Rattle.std.proofs.lemmas.Iterator.Search.{any_from_yields_List}
use Rattle.rules.specs.Sheets.{occurs_twice}
use Rattle.sheets.specs.Spread.{occurs_again}
use Rattle.sheets.proofs.occurs_twice.Goals as goal

module _ (s : List ℕ) (start stride count : ℕ) where
  scanned : (n i : ℕ) → n + i ≡ count → list_any (occurs_again s start stride count) (range_with_len i n) ≡ occurs_twice s start stride n i
  unfolding occurs_twice occurs_again
  scanned zero i h = refl
  scanned (suc n) i h =
      let left : count - (i + 1) ≡ n = omega arith in
      rw (left, scanned n (i + 1) (omega arith))

pub returns : goal.returns
returns c =
    let a = c.args in
    any_from_yields_List (occurs_again a.s.now a.start a.stride a.count) _ _ _ c.any.ensures.ran
    (YieldsList-from_range 0 a.count a.count (cc) (omega arith)) (λ x b q k. search (rules, tests))
    ∙ scanned a.s.now a.start a.stride a.count a.count 0 (omega arith)
