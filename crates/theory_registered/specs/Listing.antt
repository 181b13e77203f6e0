-- Each of a registered pad's places is a listed element's, or has no kind, no name and nothing kept of limits. So a code that the sheet does not list is found
-- only as a direction's, with none of these.
use Rattle.std.specs.Prelude.{ℕ, zero, suc, ◌+◌, ◌-◌, ◌*◌, ◌<◌, Bool, true, false, ◌&&◌, List, ◌⊎◌, ◌≡◌, refl, ltb, get_or}
use Rattle.std.proofs.Common.{inl, inr, sym, ◌∙◌, arith, ltb-true}
use Rattle.std.proofs.Math.Path.{ap}
use Rattle.rules.specs.declared.Hub.{Hub}
use Rattle.rules.specs.declared.Row.{Row}
use Rattle.rules.specs.Names.{places_per_pad, nowhere, no_name}
use Rattle.rules.specs.Sheets.{count_of, element_of}
use Rattle.rules.specs.Places.{no_element, unlisted_row, listed_row, next_row, element_next, direction_next, rows_from, rows_of, one_if}
use Rattle.rules.specs.Hub.{place_in, kind_at, element_at}
use Rattle.rules.specs.Calls.{row_code, row_kind, row_name, row_element}
use Rattle.pad.specs.Lookup.{place-stands}
use Rattle.theory_registered.specs.Rows.{code_at}
use Rattle.theory_registered.specs.Columns.{row_at, Keeps}

-- a row is a listed element's
pub record Of (s : List ℕ) (n : ℕ) (row : Row) : Type 0 where
  pub element : ℕ
  pub inside : element < n
  pub is : row ≡ listed_row (element_of s element)

next_of : (s : List ℕ) (n i d last : ℕ) (mine : Bool) → element_next s n i d ≡ mine
    → (next_row s n i d last ≡ unlisted_row (next_row s n i d last).code) ⊎ Of s n (next_row s n i d last)
unfolding next_row element_next
next_of s n i d last true e = inr (record { element = i; inside = ltb-true i n (first (ltb i n) _ e); is = rw e })
  where
    first : (a b : Bool) → (a && b) ≡ true → a ≡ true
    first true b e = refl
    first false b e = e
next_of s n i d last false e = inl (rw e)

rows-of : (k : ℕ) (s : List ℕ) (n i d last j : ℕ)
    → (get_or (rows_from k s n i d last) j (unlisted_row 0) ≡ unlisted_row (get_or (rows_from k s n i d last) j (unlisted_row 0)).code)
    ⊎ Of s n (get_or (rows_from k s n i d last) j (unlisted_row 0))
unfolding rows_from
rows-of zero s n i d last j = inl refl
rows-of (suc k) s n i d last zero = next_of s n i d last (element_next s n i d) refl
rows-of (suc k) s n i d last (suc j) =
    rows-of k s n (i + one_if (element_next s n i d)) (d + one_if (direction_next s n i d)) (next_row s n i d last).code j

pub row_of : (s : List ℕ) (j : ℕ) → (row_at s j ≡ unlisted_row (row_at s j).code) ⊎ Of s (count_of s) (row_at s j)
unfolding row_at rows_of
row_of s j = rows-of places_per_pad s (count_of s) 0 0 0 j

-- its code, its kind and its name
module _ (s : List ℕ) (n : ℕ) (row : Row) (o : Of s n row) where
  pub row-code : row.code ≡ (element_of s o.element).code
  unfolding listed_row
  row-code = ap row_code o.is

  pub row-kind : row.kind ≡ (element_of s o.element).kind
  unfolding listed_row
  row-kind = ap row_kind o.is

  pub row-name : row.name ≡ (element_of s o.element).name
  unfolding listed_row
  row-name = ap row_name o.is

-- a place with nothing of an element
pub record Bare (h : Hub) (k : ℕ) : Type 0 where
  pub kind : kind_at h k ≡ 0
  pub name : get_or h.names k no_name ≡ no_name
  pub element : element_at h k ≡ no_element

-- a code that is not listed has such a place
module _ (h : Hub) (p : ℕ) (s : List ℕ) (keeps : Keeps h p s) (c : ℕ) (none : (e : ℕ) → e < count_of s → code_at s e ≡ c → ⊥) where
  pub bare : place_in h p c < nowhere → Bare h (place_in h p c)
  bare found = by (row_of s (place_in h p c - places_per_pad * p))
    where
      at : places_per_pad * p + (place_in h p c - places_per_pad * p) ≡ place_in h p c
      at =
          let own = (place-stands h.codes p c found).own in
          omega arith

      inside : place_in h p c - places_per_pad * p < places_per_pad
      inside =
          let own = (place-stands h.codes p c found).own in
          omega arith

      row : Row
      row = row_at s (place_in h p c - places_per_pad * p)

      code : row.code ≡ c
      code =
          sym (keeps.codes (place_in h p c - places_per_pad * p) inside)
          ∙ (ap (λ (k : ℕ). get_or h.codes k 0) at ∙ (place-stands h.codes p c found).has)

      by : (row ≡ unlisted_row row.code) ⊎ Of s (count_of s) row → Bare h (place_in h p c)
      by (inl is) =
          record {
            kind = ap (λ (k : ℕ). kind_at h k) (sym at) ∙ (keeps.kinds (place_in h p c - places_per_pad * p) inside ∙ ap row_kind is);
            name = ap (λ (k : ℕ). get_or h.names k no_name) (sym at) ∙ (keeps.names (place_in h p c - places_per_pad * p) inside ∙ ap row_name is);
            element = ap (λ (k : ℕ). element_at h k) (sym at) ∙ (keeps.elements (place_in h p c - places_per_pad * p) inside ∙ ap row_element is);
          }
      by (inr o) = absurd (none o.element o.inside (sym (row-code s (count_of s) row o) ∙ code))
