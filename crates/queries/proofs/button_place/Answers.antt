-- `queries::button_place` meets its contract: by whether an element has the name.
use Rattle.std.proofs.Common.{◌≡◌, ◌≤◌, ℕ, Bool, cond, List, sym, ◌∙◌, ap, ltb, lt-ltb, le-ltb}
use Rattle.rules.specs.Names.{nowhere, to_nec}
use Rattle.rules.specs.Places.{place_of, named_of, present_names}
use Rattle.rules.specs.Queries.{button_place_of}
use Rattle.queries.proofs.button_place.Goals as goal

pub returns-then-place-lt-NOWHERE : goal.returns-then-place-lt-NOWHERE
unfolding button_place_of
returns-then-place-lt-NOWHERE c =
    record {
      is = rw (← c.present_place-place.ensures.is, lt-ltb _ _ c.if-place-lt-NOWHERE.true);
      small = c.present_place-place.ensures.small;
    }

-- the place of `to_nec`'s code, where no element has the name
by_code :
    (codes names renames : List ℕ) (renamed : List Bool) (p n : ℕ) {named code r : ℕ} →
    named ≡ named_of (present_names names renames renamed p) p n →
    nowhere ≤ named →
    code ≡ to_nec n →
    r ≡ place_of codes p code →
    r ≡ button_place_of codes names renames renamed p n
unfolding button_place_of
by_code codes names renames renamed p n {named} en none ec er =
    er ∙ ap (place_of codes p) ec
    ∙ sym (ap (λ (b : Bool). cond b named (place_of codes p (to_nec n))) (le-ltb named nowhere none))
    ∙ ap (λ (k : ℕ). cond (ltb k nowhere) k (place_of codes p (to_nec n))) en

pub returns-else-place-lt-NOWHERE : goal.returns-else-place-lt-NOWHERE
returns-else-place-lt-NOWHERE c =
    record {
      is =
          by_code _ _ _ _ _ _ c.present_place-place.ensures.is c.if-place-lt-NOWHERE.false c.to_nec.ensures
          c.place_of.ensures.is;
      small = c.place_of.ensures.small;
    }
