-- Laws of laying a sheet out, one for each turn of the loop: what is laid and what is left to lay give the whole, place by place.
use Prim.Native.Nat.{ℕ, zero, suc, ◌+◌, ◌-◌, ◌<◌, ◌≤◌}
use Rattle.std.specs.Prelude.{Bool, true, false, ◌&&◌, ◌||◌, List, [], ◌∷◌, ◌++◌, ◌≡◌, ltb, length, take, set}
use Rattle.std.proofs.Common.{append-nil, sym, ◌∙◌, add-one, arith, take-suc-set, take_all, ltb-true}
use Rattle.std.proofs.Math.Path.{refl}
use Rattle.std.proofs.Math.Numerals.{sub-one}
use Rattle.std.proofs.Math.Dec.{leb}
use Rattle.std.proofs.Math.Seq.{append_snoc}
use mir.Val.{bool_byte}
use Rattle.rules.specs.declared.Row.{Row}
use Rattle.rules.specs.Names.{places_per_pad, code_up}
use Rattle.rules.specs.Sheets.{element_of}
use Rattle.rules.specs.Places.{directions, element_next, direction_next, next_row, one_if, rows_from}

-- ---- a test as a number

-- as the machine has it
pub byte-is : (b : Bool) → bool_byte b ≡ one_if b
byte-is true = refl
byte-is false = refl

pub one-if-small : (b : Bool) → one_if b ≤ 1
one-if-small true = omega arith
one-if-small false = omega arith

-- ---- bounds

inside : (m n : ℕ) (first rest : Bool) → ltb m n ≡ first → (first && rest) ≡ true → m < n
inside m n true rest e both = ltb-true m n e
inside m n false rest e both = let z : ◌≡◌ {A = ℕ} 0 1 = cc in absurd (omega arith)

module _ (s : List ℕ) (n i d : ℕ) where
  pub element-inside : element_next s n i d ≡ true → i < n
  unfolding element_next
  element-inside next = inside i n (ltb i n) (leb directions d || leb (element_of s i).code (code_up + d)) refl next

  pub direction-inside : direction_next s n i d ≡ true → d < directions
  unfolding direction_next
  direction-inside next = inside d directions (ltb d directions) (leb n i || leb (code_up + d) (element_of s i).code) refl next

-- ---- rows laid, whatever they are: what the code goes by

-- after the k-th row is laid, what is laid and what is left give what they gave before
pub row_laid : (rows rest : List Row) (row : Row) (k : ℕ) → k < length rows → take (k + 1) (set rows k row) ++ rest ≡ take k rows ++ (row ∷ rest)
row_laid rows rest row k short = rw (add-one k, take-suc-set rows k row short) (append_snoc (take k rows) row rest)

-- all are laid
pub rows-laid : (rows rest : List Row) (k : ℕ) → length rows ≤ k → rest ≡ [] → rows ≡ take k rows ++ rest
rows-laid rows rest k past none = rw (none, take_all k rows past) (sym (append-nil rows))

-- ---- a place more

module _ (s : List ℕ) (n i d last : ℕ) where
  abbrev row : Row
  row = next_row s n i d last

  abbrev rest : ℕ → List Row
  rest left = rows_from left s n (i + one_if (element_next s n i d)) (d + one_if (direction_next s n i d)) row.code

  pub rows_next : (left : ℕ) → 0 < left → rows_from left s n i d last ≡ row ∷ rest (left - 1)
  unfolding rows_from
  rows_next zero some = absurd (omega arith)
  rows_next (suc left) some = rw sub-one

  -- after the k-th place is laid, what is laid and what is left give what they gave before
  pub laid_next : (rows : List Row) (k : ℕ) → k < places_per_pad → length rows ≡ places_per_pad
      → take (k + 1) (set rows k row) ++ rest (places_per_pad - (k + 1)) ≡ take k rows ++ rows_from (places_per_pad - k) s n i d last
  laid_next rows k short long =
      let inside-rows : k < length rows = omega arith in
      let some : 0 < places_per_pad - k = omega arith in
      let less : places_per_pad - k - 1 ≡ places_per_pad - (k + 1) = omega arith in
      rw (rows_next (places_per_pad - k) some, less) (row_laid rows (rest (places_per_pad - (k + 1))) row k inside-rows)

  -- the same of the row, the numbers of elements and of directions that the code has
  pub laid-step : (r : Row) (element direction : ℕ) (rows whole : List Row) (k : ℕ) → r ≡ row → element ≡ one_if (element_next s n i d)
      → direction ≡ one_if (direction_next s n i d) → k < places_per_pad → length rows ≡ places_per_pad
      → take k rows ++ rows_from (places_per_pad - k) s n i d last ≡ whole
      → take (k + 1) (set rows k r) ++ rows_from (places_per_pad - (k + 1)) s n (i + element) (d + direction) r.code ≡ whole
  laid-step r element direction rows whole k is_row is-element is-direction short long before =
      rw (is_row, is-element, is-direction) (laid_next rows k short long ∙ before)

-- all are laid
pub laid-all : (s : List ℕ) (n i d last : ℕ) (rows : List Row) (k : ℕ) → places_per_pad ≤ k → length rows ≡ places_per_pad
    → rows ≡ take k rows ++ rows_from (places_per_pad - k) s n i d last
unfolding rows_from
laid-all s n i d last rows k past long =
    let none : places_per_pad - k ≡ 0 = omega arith in
    rows-laid rows (rows_from (places_per_pad - k) s n i d last) k (omega arith) (rw none refl)
