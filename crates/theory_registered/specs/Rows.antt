-- The 52 places that registration lays for a good sheet: their codes do not fall, and each listed element stands in one, behind places of smaller codes.
-- By what stands next: an element, a direction, both at once, or nothing more.
use Prim.Native.Nat.{ℕ, zero, suc, ◌+◌, ◌-◌, ◌<◌, ◌≤◌}
use Rattle.std.specs.Prelude.{Bool, ◌&&◌, ◌||◌, List, [], ◌∷◌, map, eqb, length, get_or}
use Rattle.std.proofs.Math.Bool.{true, false}
use Rattle.std.proofs.Math.Path.{◌≡◌, refl}
use Rattle.std.proofs.Common.{ap, subst}
use native.Mathlib.Omega.{arith}
use Rattle.std.proofs.Math.Dec.{ltb, leb}
use borrow.Author.Tests.{eqb-true, eqb-false, ltb-true, ltb-false, leb-true, leb-false, ne_eqb}
use Rattle.rules.specs.declared.Row.{Row}
use Rattle.rules.specs.Names.{places_per_pad, code_up}
use Rattle.rules.specs.Sheets.{element_of, count_of, rises, sheet_refusal}
use Rattle.rules.specs.Places.{listed_row, unlisted_row, directions, element_next, direction_next, next_row, one_if, rows_from, rows_of}
use Rattle.rules.specs.Calls.{row_code}
use Rattle.sheets.specs.Laws.{good, element-keeps}

-- the i-th element's code
abbrev pub code_at : List ℕ → ℕ → ℕ
code_at s i = (element_of s i).code

-- ---- "Codes strictly rise"

-- the element after another has the larger code
module _ (s : List ℕ) (taken : sheet_refusal true s ≡ 0) where
  above_before : (i : ℕ) → rises s (i + 1) ≡ true → code_at s i < code_at s (i + 1)
  unfolding rises
  above_before i h =
      let some : i + 1 ≡ 0 → ⊥ = λ x. omega arith in
      let before : i + 1 - 1 ≡ i = omega arith in
      ltb-true (code_at s i) (code_at s (i + 1)) (rw (ne_eqb (i + 1) 0 some, before) at h)

  after_one : (i : ℕ) → i + 1 < count_of s → code_at s i < code_at s (i + 1)
  after_one i short =
      let e : 0 + (i + 1) ≡ i + 1 = omega arith in
      above_before i (subst (λ (j : ℕ). rises s j ≡ true) e (element-keeps s (count_of s) 0 (i + 1) (good s taken).keep short).1)

  after_more : (k i : ℕ) → i + suc k < count_of s → code_at s i < code_at s (i + suc k)
  after_more zero i short =
      let e : i + 1 ≡ i + suc zero = omega arith in
      subst (λ (j : ℕ). code_at s i < code_at s j) e (after_one i (omega arith))
  after_more (suc k) i short =
      let e : i + suc k + 1 ≡ i + suc (suc k) = omega arith in
      let here = after_more k i (omega arith) in
      let next = subst (λ (j : ℕ). code_at s (i + suc k) < code_at s j) e (after_one (i + suc k) (omega arith)) in
      omega arith

  pub codes-rise : (i j : ℕ) → i < j → j < count_of s → code_at s i < code_at s j
  codes-rise i j less short =
      let e : i + suc (j - i - 1) ≡ j = omega arith in
      subst (λ (k : ℕ). code_at s i < code_at s k) e (after_more (j - i - 1) i (omega arith))

-- ---- what stands next

module _ (s : List ℕ) (n i d : ℕ) where
  pub element-facts : element_next s n i d ≡ true → (i < n) × (d < directions → code_at s i ≤ code_up + d)
  unfolding element_next
  element-facts next = by (ltb i n) (leb directions d) (leb (code_at s i) (code_up + d)) refl refl refl next
    where
      by : (inside all most : Bool) → ltb i n ≡ inside → leb directions d ≡ all → leb (code_at s i) (code_up + d) ≡ most → (inside && (all || most)) ≡ true
          → (i < n) × (d < directions → code_at s i ≤ code_up + d)
      by true true most ei ea em e = (ltb-true i n ei, λ few. let past = leb-true directions d ea in absurd (omega arith))
      by true false true ei ea em e = (ltb-true i n ei, λ few. leb-true (code_at s i) (code_up + d) em)
      by true false false ei ea em e = let z : ◌≡◌ {A = ℕ} 0 1 = cc in absurd (omega arith)
      by false all most ei ea em e = let z : ◌≡◌ {A = ℕ} 0 1 = cc in absurd (omega arith)

  pub no-element-facts : element_next s n i d ≡ false → i < n → (d < directions) × (code_up + d < code_at s i)
  unfolding element_next
  no-element-facts next short = by (ltb i n) (leb directions d) (leb (code_at s i) (code_up + d)) refl refl refl next
    where
      by : (inside all most : Bool) → ltb i n ≡ inside → leb directions d ≡ all → leb (code_at s i) (code_up + d) ≡ most → (inside && (all || most)) ≡ false
          → (d < directions) × (code_up + d < code_at s i)
      by true true most ei ea em e = let z : ◌≡◌ {A = ℕ} 0 1 = cc in absurd (omega arith)
      by true false true ei ea em e = let z : ◌≡◌ {A = ℕ} 0 1 = cc in absurd (omega arith)
      by true false false ei ea em e = (leb-false directions d ea, leb-false (code_at s i) (code_up + d) em)
      by false all most ei ea em e = let past = ltb-false i n ei in absurd (omega arith)

  pub direction-facts : direction_next s n i d ≡ true → (d < directions) × (i < n → code_up + d ≤ code_at s i)
  unfolding direction_next
  direction-facts next = by (ltb d directions) (leb n i) (leb (code_up + d) (code_at s i)) refl refl refl next
    where
      by : (inside all most : Bool) → ltb d directions ≡ inside → leb n i ≡ all → leb (code_up + d) (code_at s i) ≡ most → (inside && (all || most)) ≡ true
          → (d < directions) × (i < n → code_up + d ≤ code_at s i)
      by true true most ei ea em e = (ltb-true d directions ei, λ few. let past = leb-true n i ea in absurd (omega arith))
      by true false true ei ea em e = (ltb-true d directions ei, λ few. leb-true (code_up + d) (code_at s i) em)
      by true false false ei ea em e = let z : ◌≡◌ {A = ℕ} 0 1 = cc in absurd (omega arith)
      by false all most ei ea em e = let z : ◌≡◌ {A = ℕ} 0 1 = cc in absurd (omega arith)

  pub no-direction-facts : direction_next s n i d ≡ false → d < directions → (i < n) × (code_at s i < code_up + d)
  unfolding direction_next
  no-direction-facts next short = by (ltb d directions) (leb n i) (leb (code_up + d) (code_at s i)) refl refl refl next
    where
      by : (inside all most : Bool) → ltb d directions ≡ inside → leb n i ≡ all → leb (code_up + d) (code_at s i) ≡ most → (inside && (all || most)) ≡ false
          → (i < n) × (code_at s i < code_up + d)
      by true true most ei ea em e = let z : ◌≡◌ {A = ℕ} 0 1 = cc in absurd (omega arith)
      by true false true ei ea em e = let z : ◌≡◌ {A = ℕ} 0 1 = cc in absurd (omega arith)
      by true false false ei ea em e = (leb-false n i ea, leb-false (code_up + d) (code_at s i) em)
      by false all most ei ea em e = let past = ltb-false d directions ei in absurd (omega arith)

-- ---- codes that do not fall

pub data Climbs : ℕ → List ℕ → Type 0 where
  top : {last : ℕ} → Climbs last []
  on : {last c : ℕ} {cs : List ℕ} → last ≤ c → Climbs c cs → Climbs last (c ∷ cs)

climbs-least : {last : ℕ} {cs : List ℕ} → Climbs last cs → (j : ℕ) → j < length cs → last ≤ get_or cs j 0
climbs-least top j short = absurd (omega arith)
climbs-least (on l w) zero short = l
climbs-least (on l w) (suc j) short =
    let rest = climbs-least w j (omega arith) in
    omega arith

pub climbs-rise : {last : ℕ} {cs : List ℕ} → Climbs last cs → (i j : ℕ) → i ≤ j → j < length cs → get_or cs i 0 ≤ get_or cs j 0
climbs-rise top i j less short = absurd (omega arith)
climbs-rise (on l w) zero zero less short = omega arith
climbs-rise (on l w) zero (suc j) less short = climbs-least w j (omega arith)
climbs-rise (on l w) (suc i) zero less short = absurd (omega arith)
climbs-rise (on l w) (suc i) (suc j) less short = climbs-rise w i j (omega arith) (omega arith)

-- where a sheet's e-th element stands among the rows: its row is the sheet's, and the codes before it are smaller
pub record Stands (s : List ℕ) (rows : List Row) (e : ℕ) : Type 0 where
  pub place : ℕ
  pub inside : place < length rows
  pub row : get_or rows place (unlisted_row 0) ≡ listed_row (element_of s e)
  pub before : (j : ℕ) → j < place → (get_or rows j (unlisted_row 0)).code < code_at s e

module _ (s : List ℕ) (n : ℕ) (rise : (i j : ℕ) → i < j → j < n → code_at s i < code_at s j) where
  -- nothing that is still to be laid has a code below the last
  record Ahead (i d last : ℕ) : Type 0 where
    pub element : i < n → last ≤ code_at s i
    pub direction : d < directions → last ≤ code_up + d

  next-by : (i d last : ℕ) (element direction : Bool) → element_next s n i d ≡ element → direction_next s n i d ≡ direction → Ahead i d last
      → (last ≤ (next_row s n i d last).code) × Ahead (i + one_if element) (d + one_if direction) (next_row s n i d last).code
  unfolding next_row listed_row
  next-by i d last true direction ee ed a =
      let f = element-facts s n i d ee in
      rw ee
      (a.element f.0, record { element = λ short. let more = rise i (i + 1) (omega arith) short in omega arith; direction = λ few. let most = f.1 (omega arith) in omega arith })
  next-by i d last false true ee ed a =
      let f = direction-facts s n i d ed in
      let same : i + 0 ≡ i = omega arith in
      rw (ee, ed)
      (a.direction f.0, record { element = rw same f.1; direction = λ few. omega arith })
  next-by i d last false false ee ed a =
      rw (ee, ed) (
        omega arith,
        record {
          element = λ short. let f = no-element-facts s n i d ee (omega arith) in let g = no-direction-facts s n i d ed f.0 in absurd (omega arith);
          direction = λ few. let g = no-direction-facts s n i d ed (omega arith) in let f = no-element-facts s n i d ee g.0 in absurd (omega arith);
        },
      )

  rows-climb : (k i d last : ℕ) → Ahead i d last → Climbs last (map row_code (rows_from k s n i d last))
  unfolding rows_from
  rows-climb zero i d last a = top
  rows-climb (suc k) i d last a =
      let next = next-by i d last (element_next s n i d) (direction_next s n i d) refl refl a in
      on next.0 (rows-climb k _ _ _ next.1)

  -- ---- each element is laid

  here : (r : Row) (rows : List Row) (e : ℕ) → r ≡ listed_row (element_of s e) → Stands s (r ∷ rows) e
  here r rows e same = record { place = 0; inside = omega arith; row = same; before = λ j short. absurd (omega arith) }

  later : (r : Row) (rows : List Row) (e : ℕ) → r.code < code_at s e → Stands s rows e → Stands s (r ∷ rows) e
  later r rows e less w =
      let inside = w.inside in
      record { place = suc w.place; inside = omega arith; row = w.row; before = by }
    where
      by : (j : ℕ) → j < suc w.place → (get_or (r ∷ rows) j (unlisted_row 0)).code < code_at s e
      by zero short = less
      by (suc j) short = w.before j (omega arith)

  not-above : (i e : ℕ) (same : Bool) → eqb e i ≡ same → i ≤ e → e < n → code_at s i ≤ code_at s e
  not-above i e true es from short = rw (eqb-true e i es) (omega arith)
  not-above i e false es from short =
      let other = eqb-false e i es in
      let less : i < e = omega arith in
      let more = rise i e less short in
      omega arith

  -- an element is laid at once, or something of a smaller code is, and there is still room for what is left
  laid_by : (k i d last e : ℕ) (element direction same : Bool) → element_next s n i d ≡ element → direction_next s n i d ≡ direction → eqb e i ≡ same
      → i ≤ e → e < n → n - i + (directions - d) ≤ suc k
      → (n - (i + one_if element) + (directions - (d + one_if direction)) ≤ k → i + one_if element ≤ e
      → Stands s (rows_from k s n (i + one_if element) (d + one_if direction) (next_row s n i d last).code) e)
      → Stands s (next_row s n i d last ∷ rows_from k s n (i + one_if element) (d + one_if direction) (next_row s n i d last).code) e
  unfolding next_row listed_row
  laid_by k i d last e true direction true ee ed es from short room rest =
      let at = eqb-true e i es in
      here _ _ e (rw (ee, at))
  laid_by k i d last e true direction false ee ed es from short room rest =
      let other = eqb-false e i es in
      let more : i < e = omega arith in
      later _ _ e (rw ee (rise i e more short)) (rest (omega arith) (omega arith))
  laid_by k i d last e false true same ee ed es from short room rest =
      let f = no-element-facts s n i d ee (omega arith) in
      let least = not-above i e same es from short in
      later _ _ e (rw (ee, ed) (omega arith)) (rest (omega arith) (omega arith))
  laid_by k i d last e false false same ee ed es from short room rest =
      let f = no-element-facts s n i d ee (omega arith) in
      let g = no-direction-facts s n i d ed f.0 in
      absurd (omega arith)

  -- with room for the elements and the directions that are left, every element that is left is laid
  rows-stand : (k i d last e : ℕ) → i ≤ e → e < n → n - i + (directions - d) ≤ k → Stands s (rows_from k s n i d last) e
  unfolding rows_from
  rows-stand zero i d last e from short room = absurd (omega arith)
  rows-stand (suc k) i d last e from short room =
      laid_by k i d last e (element_next s n i d) (direction_next s n i d) (eqb e i) refl refl refl from short room
      (λ left more. rows-stand k _ _ _ e more short left)

-- ---- a good sheet's places

pub rows-length : (k : ℕ) (s : List ℕ) (n i d last : ℕ) → length (rows_from k s n i d last) ≡ k
unfolding rows_from
rows-length zero s n i d last = refl
rows-length (suc k) s n i d last = ap suc (rows-length k s n _ _ _)

module _ (s : List ℕ) (taken : sheet_refusal true s ≡ 0) where
  -- the 52 codes do not fall
  pub places-climb : Climbs 0 (map row_code (rows_of s (count_of s)))
  unfolding rows_of
  places-climb =
      rows-climb s (count_of s) (codes-rise s taken) places_per_pad 0 0 0 (record { element = λ short. omega arith; direction = λ few. omega arith })

  -- every element of the sheet has a place
  pub places-stand : (e : ℕ) → e < count_of s → Stands s (rows_of s (count_of s)) e
  unfolding rows_of
  places-stand e short =
      let few = (good s taken).few in
      rows-stand s (count_of s) (codes-rise s taken) places_per_pad 0 0 0 e (omega arith) short (omega arith)
