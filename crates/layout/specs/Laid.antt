-- The rows of a sheet laid into lent arrays, from a place on: what they leave of the arrays, and one law for each row more.
use Rattle.std.specs.Prelude.{ℕ, zero, suc, ◌+◌, ◌-◌, ◌≤◌, ◌<◌, Bool, List, [], ◌∷◌, map, ◌≡◌, refl, get_or, set, take, drop, Float}
use Rattle.std.proofs.Common.{sym, ◌∙◌, add-zero, not-suc-le-zero, le_of_suc-le-suc, add-one, get_or-drop, drop-drop}
use Rattle.std.proofs.Math.Path.{ap}
use native.Mathlib.Omega.{arith}
use Rattle.std.proofs.Math.ListN.{length, length-drop}
use Rattle.std.proofs.Math.Seq.{take_all}
use Rattle.rules.specs.declared.Row.{Row}
use Rattle.rules.specs.Names.{places_per_pad}
use Rattle.rules.specs.Hub.{past_element}
use Rattle.rules.specs.Places.{element_next, direction_next, next_row, one_if, rows_from}
use Rattle.rules.specs.Calls.{laid, row_code, row_kind, row_name, row_element}
use Rattle.columns.specs.Columns.{elements_of, buttons_of, axes_of, slots_of}
use Rattle.columns.specs.Stores.{ElementPut}
use Rattle.layout.specs.Rows.{rows_next}

-- what an array of rows has past its end
abbrev pub past_row : Row
past_row = record { code = 0; kind = 0; name = 0; element = past_element }

laid_more :
    {A : Type 0} (f : Row → A) (xs : List A) (k i : ℕ) (rows : List Row) →
    i < length rows →
    set (laid xs k (map f (take i rows))) (k + i) (f (get_or rows i past_row)) ≡ laid xs k (map f (take (suc i) rows))
unfolding laid
laid_more f xs k i [] short = absurd (not-suc-le-zero short)
laid_more f xs k zero (r ∷ rows) short = rw add-zero
laid_more f xs k (suc i) (r ∷ rows) short =
    let place : k + suc i ≡ k + 1 + i = omega arith in
    rw place (laid_more f (set xs k (f r)) (k + 1) i rows (le_of_suc-le-suc short))

-- cs, ks, ns are the codes, kinds and names of the places, vs and ms the values and marks of the records
module _ (cs ks ns : List ℕ) (vs : List Float) (ms : List Bool) (k : ℕ) where
  -- the rows stand in the places from k on; the other records are as they were
  pub record LaidOut (rows : List Row) (cs' ks' ns' : List ℕ) (vs' : List Float) (ms' : List Bool) : Type 0 where
    pub codes : cs' ≡ laid cs k (map row_code rows)
    pub kinds : ks' ≡ laid ks k (map row_kind rows)
    pub names : ns' ≡ laid ns k (map row_name rows)
    pub elements : elements_of vs' ms' ≡ laid (elements_of vs ms) k (map row_element rows)
    pub buttons : (ts : List ℕ) → buttons_of vs' ts ms' ≡ buttons_of vs ts ms
    pub axes : (ts : List ℕ) → axes_of vs' ts ≡ axes_of vs ts
    pub slots : (ts bytes codes : List ℕ) → slots_of vs' ts bytes codes ≡ slots_of vs ts bytes codes

  pub laid_none : LaidOut [] cs ks ns vs ms
  unfolding laid
  laid_none =
      record {
        codes = refl;
        kinds = refl;
        names = refl;
        elements = refl;
        buttons = λ ts. refl;
        axes = λ ts. refl;
        slots = λ ts bytes codes. refl;
      }

  -- one row more
  pub laid-row :
      (rows : List Row) (i : ℕ) {r : Row} {cs' ks' ns' : List ℕ} {vs' vs'' : List Float} {ms' ms'' : List Bool} →
      i < length rows →
      r ≡ get_or rows i past_row →
      LaidOut (take i rows) cs' ks' ns' vs' ms' →
      ElementPut vs' ms' (k + i) r.element vs'' ms'' →
      LaidOut (take (i + 1) rows) (set cs' (k + i) r.code) (set ks' (k + i) r.kind) (set ns' (k + i) r.name) vs'' ms''
  laid-row rows i {ms' = ms'} short is before put =
      record {
        codes = rw (before.codes, is, add-one i) (laid_more row_code cs k i rows short);
        kinds = rw (before.kinds, is, add-one i) (laid_more row_kind ks k i rows short);
        names = rw (before.names, is, add-one i) (laid_more row_name ns k i rows short);
        elements = rw (put.elements, before.elements, is, add-one i) (laid_more row_element (elements_of vs ms) k i rows short);
        buttons = λ ts. put.buttons ts ∙ before.buttons ts;
        axes = λ ts. put.axes ts ∙ before.axes ts;
        slots = λ ts bytes codes. put.slots ts bytes codes ∙ before.slots ts bytes codes;
      }

-- ---- the rows that are left, with k of them laid, whatever they are: what the code goes by

module _ {row : Row} {rest : List Row} (rows : List Row) (k : ℕ) (left : row ∷ rest ≡ drop k rows) where
  pub first_inside : k < length rows
  first_inside = omega (arith, ap length left, length-drop k rows)

  pub first_is : row ≡ get_or rows k past_row
  first_is = ap (λ (l : List Row). get_or l 0 past_row) left ∙ rw (get_or-drop k rows 0 past_row, add-zero k)

  pub others-left : rest ≡ drop (k + 1) rows
  others-left = ap (drop 1) left ∙ drop-drop 1 k rows

pub laid_whole : (rows : List Row) (k : ℕ) → [] ≡ drop k rows → take k rows ≡ rows
laid_whole rows k left = take_all k rows (omega (arith, length-drop k rows, ap length left))

-- ---- the rows that are left, with k of the places laid

module _ (s : List ℕ) (n i d last : ℕ) (rows : List Row) (k : ℕ) (left : rows_from (places_per_pad - k) s n i d last ≡ drop k rows) where
  module _ (short : k < places_per_pad) where
    abbrev rest : List Row
    rest =
        rows_from (places_per_pad - (k + 1)) s n (i + one_if (element_next s n i d)) (d + one_if (direction_next s n i d)) (next_row s n i d last).code

    first-left : next_row s n i d last ∷ rest ≡ drop k rows
    first-left =
        let some : 0 < places_per_pad - k = omega arith in
        let less : places_per_pad - k - 1 ≡ places_per_pad - (k + 1) = omega arith in
        rw less at (sym (rows_next s n i d last (places_per_pad - k) some)) ∙ left

    pub row_inside : k < length rows
    row_inside = first_inside rows k first-left

    pub row_is : next_row s n i d last ≡ get_or rows k past_row
    row_is = first_is rows k first-left

    pub rest-left :
        {r : Row} {element direction : ℕ} →
        r ≡ next_row s n i d last →
        element ≡ one_if (element_next s n i d) →
        direction ≡ one_if (direction_next s n i d) →
        rows_from (places_per_pad - (k + 1)) s n (i + element) (d + direction) r.code ≡ drop (k + 1) rows
    rest-left is_row is-element is-direction = rw (is_row, is-element, is-direction) (others-left rows k first-left)

  pub all_laid : places_per_pad ≤ k → take k rows ≡ rows
  unfolding rows_from
  all_laid past =
      let none : places_per_pad - k ≡ 0 = omega arith in
      laid_whole rows k (rw none at left)
