-- `sheets::names_fit` meets its contract: the definition says what `all` says of the names.
use Rattle.std.proofs.Common.{◌≡◌, refl, ◌∙◌, rules, tests, arith, List, ℕ, zero, suc, ◌+◌, length, drop}
use Rattle.std.specs.List.{list_all}
use Rattle.std.proofs.Math.Seq.{drop-length}
use Rattle.std.proofs.lemmas.List.{drop_more}
use Rattle.std.proofs.lemmas.Iterator.{YieldsList-from_slice}
use Rattle.std.proofs.lemmas.Iterator.Search.{all_from_yields_List}
use Rattle.rules.specs.Names.{name_allowed}
use Rattle.rules.specs.Sheets.{names_fit}
use Rattle.sheets.proofs.names_fit.Goals as goal

module _ (s : List ℕ) where
  scanned : (n i : ℕ) → i + n ≡ length s → list_all name_allowed (drop i s) ≡ names_fit s n i
  unfolding names_fit
  scanned zero i h = let e : i ≡ length s = omega arith in rw (e, drop-length s) refl
  scanned (suc n) i h = rw (drop_more s i 0 (omega arith), scanned n (i + 1) (omega arith)) refl

pub returns : goal.returns
returns c =
    all_from_yields_List name_allowed _ _ _ c.all.ensures.ran
    (YieldsList-from_slice c.args.s.now (cc)) (λ x b q k. search (rules, tests))
    ∙ scanned c.args.s.now (length c.args.s.now) 0 (omega arith)
