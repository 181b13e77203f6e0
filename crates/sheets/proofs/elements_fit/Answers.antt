-- `sheets::elements_fit` meets its contract: the definition says what `all` says of the numbers below the count.
use Rattle.std.proofs.Common.{◌≡◌, refl, ap, ◌∙◌, rules, tests, arith, Bool, true, false, ◌&&◌, List, ℕ, zero, suc, ◌+◌}
use Rattle.std.specs.List.{list_all, range_with_len}
use Rattle.std.proofs.lemmas.Iterator.{YieldsList-from_range}
use Rattle.std.proofs.lemmas.Iterator.Search.{all_from_yields_List}
use Rattle.rules.specs.Sheets.{element_of, element_fits, rises, elements_fit}
use Rattle.sheets.proofs.elements_fit.Goals as goal

both : (a b c d : Bool) → c ≡ d → (a && b) && c ≡ a && (b && d)
both true b c d e = ap (λ (x : Bool). b && x) e
both false b c d e = refl

module _ (s : List ℕ) where
  abbrev fits : ℕ → Bool
  fits i = element_fits (element_of s i) && rises s i

  scanned : (n i : ℕ) → list_all fits (range_with_len i n) ≡ elements_fit s n i
  unfolding elements_fit
  scanned zero i = refl
  scanned (suc n) i = both (element_fits (element_of s i)) (rises s i) _ _ (scanned n (i + 1))

pub returns : goal.returns
returns c =
    all_from_yields_List (fits c.args.s.now) _ _ _ c.all.ensures.ran
    (YieldsList-from_range 0 c.args.count c.args.count (cc) (omega arith)) (λ x b q k. search (rules, tests))
    ∙ scanned c.args.s.now c.args.count 0
