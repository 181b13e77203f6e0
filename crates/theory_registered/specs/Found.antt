-- A listed element is found: the lookup of its code in a kept pad answers the place that registration gave it, with its kind, its name and what is kept of
-- its limits. By the scan that the lookup equals on codes that do not fall.
use Rattle.std.specs.Prelude.{ℕ, ◌+◌, ◌-◌, ◌*◌, ◌<◌, ◌≤◌, Bool, true, false, cond, List, ◌⊎◌, ◌≡◌, refl, eqb, ltb, get_or}
use Rattle.std.proofs.Common.{inl, inr, ◌∙◌, arith, ltb-true, ltb-false}
use Rattle.std.proofs.Math.Path.{ap}
use Rattle.rules.specs.declared.Hub.{Hub}
use Rattle.rules.specs.declared.Row.{Row}
use Rattle.rules.specs.declared.SheetElement.{SheetElement}
use Rattle.rules.specs.Names.{pad_limit, places_per_pad, nowhere, no_name}
use Rattle.rules.specs.Sheets.{sheet_refusal, count_of, element_of, element_button}
use Rattle.rules.specs.Places.{scan_of, no_element, axis_element, listed_row, rows_of}
use Rattle.rules.specs.Hub.{place_in, kind_at, element_at}
use Rattle.pad.specs.Lookup.{Absent, First, scan-cases}
use Rattle.pad.specs.Rising.{place-is-scan}
use Rattle.theory_registered.specs.Rows.{code_at, Stands, places-stand}
use Rattle.theory_registered.specs.Columns.{row_at, Keeps, keeps-rise, code_here, places-length}

-- the first place that has the number is what the scan finds
module _ (column : List ℕ) (c k n r : ℕ) (one : First column c k n r) where
  same_first : (other : ℕ) → First column c k n other → (less more : Bool) → ltb other r ≡ less → ltb r other ≡ more → other ≡ r
  same_first other two true more el em = absurd (one.before other two.from (ltb-true other r el) two.has)
  same_first other two false true el em = absurd (two.before r one.from (ltb-true r other em) one.has)
  same_first other two false false el em =
      let a = ltb-false other r el in
      let b = ltb-false r other em in
      omega arith

  scan-first : scan_of column n k c ≡ r
  scan-first = by (scan-cases column c n k)
    where
      by : ((scan_of column n k c ≡ nowhere) × Absent column c k n) ⊎ First column c k n (scan_of column n k c) → scan_of column n k c ≡ r
      by (inl (nothing, absent)) = absurd (absent.none r one.from one.to one.has)
      by (inr two) = same_first (scan_of column n k c) two (ltb (scan_of column n k c) r) (ltb r (scan_of column n k c)) refl refl

-- what the hub keeps of a listed element: its place is found, and has its kind, its name and what scaling and the deadzone want of it
pub record Listed (h : Hub) (p : ℕ) (e : SheetElement) : Type 0 where
  pub found : place_in h p e.code < nowhere
  pub kind : kind_at h (place_in h p e.code) ≡ e.kind
  pub name : get_or h.names (place_in h p e.code) no_name ≡ e.name
  pub element : element_at h (place_in h p e.code) ≡ cond (eqb e.kind element_button) no_element (axis_element e)

module _ (h : Hub) (p : ℕ) (s : List ℕ) (stands : p < pad_limit) (taken : sheet_refusal true s ≡ 0) (keeps : Keeps h p s) (e : ℕ) (short : e < count_of s) where
  standing : Stands s (rows_of s (count_of s)) e
  standing = places-stand s taken e short

  abbrev number : ℕ
  number = standing.place

  inside : number < places_per_pad
  inside =
      let i = standing.inside in
      omega (arith, places-length s)

  row_is : row_at s number ≡ listed_row (element_of s e)
  unfolding row_at
  row_is = standing.row

  before-is : (j : ℕ) → j < number → (row_at s j).code < code_at s e
  unfolding row_at
  before-is = standing.before

  code_is : (row_at s number).code ≡ code_at s e
  unfolding listed_row
  code_is = ap (λ (r : Row). r.code) row_is

  smaller : (j : ℕ) → places_per_pad * p ≤ j → j < places_per_pad * p + number → get_or h.codes j 0 ≡ code_at s e → ⊥
  smaller j from to same =
      let i = inside in
      let a = code_here h p s keeps j from (omega arith) in
      let b = before-is (j - places_per_pad * p) (omega arith) in
      differ (get_or h.codes j 0) (row_at s (j - places_per_pad * p)).code (code_at s e) a b same
    where
      differ : (x y z : ℕ) → x ≡ y → y < z → x ≡ z → ⊥
      differ x y z a b c = omega arith

  first-place : First h.codes (code_at s e) (places_per_pad * p) places_per_pad (places_per_pad * p + number)
  first-place =
      let i = inside in
      record { from = omega arith; to = omega arith; has = keeps.codes number inside ∙ code_is; before = smaller }

  -- the lookup answers the place that registration gave it
  place_is : place_in h p (code_at s e) ≡ places_per_pad * p + number
  place_is =
      place-is-scan h.codes p (code_at s e) stands (keeps-rise h p s taken keeps)
      ∙ scan-first h.codes (code_at s e) (places_per_pad * p) places_per_pad (places_per_pad * p + number) first-place

  pub listed : Listed h p (element_of s e)
  unfolding listed_row
  listed =
      let i = inside in
      record {
        found = rw place_is (omega arith);
        kind = rw place_is (keeps.kinds number inside ∙ ap (λ (r : Row). r.kind) row_is);
        name = rw place_is (keeps.names number inside ∙ ap (λ (r : Row). r.name) row_is);
        element = rw place_is (keeps.elements number inside ∙ ap (λ (r : Row). r.element) row_is);
      }
