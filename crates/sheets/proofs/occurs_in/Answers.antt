-- `sheets::occurs_in` meets its contract: the definition says what `any` says of the numbers from the first on.
use Rattle.std.proofs.Common.{◌≡◌, refl, ap, ◌∙◌, rules, tests, Bool, ◌||◌, List, ℕ, zero, suc, ◌+◌, ◌*◌, eqb, get_or}
use Rattle.std.specs.List.{list_any, range_with_len}
use Rattle.std.proofs.lemmas.Iterator.{YieldsList-from_range}
use Rattle.std.proofs.lemmas.Iterator.Search.{any_from_yields_List}
use Rattle.rules.specs.Sheets.{occurs_in, name_at}
use Rattle.sheets.proofs.occurs_in.Goals as goal

module _ (s : List ℕ) (start stride name : ℕ) where
  abbrev is_name : ℕ → Bool
  is_name i = eqb (get_or s (start + stride * i) 0) name

  scanned : (n i : ℕ) → list_any is_name (range_with_len i n) ≡ occurs_in s start stride name n i
  unfolding occurs_in name_at
  scanned zero i = refl
  scanned (suc n) i = ap (λ (b : Bool). is_name i || b) (scanned n (i + 1))

pub returns : goal.returns
returns c =
    let a = c.args in
    any_from_yields_List (is_name a.s.now a.start a.stride a.name) _ _ _ c.any.ensures.ran
    (YieldsList-from_range a.first a.count _ (cc) refl) (λ x b q k. search (rules, tests))
    ∙ scanned a.s.now a.start a.stride a.name _ a.first
