-- The codes of a good sheet's places never fall, so that on a registered pad the halving search is the plain scan. The code laid last is at most each
-- that is still to be laid.
use Prim.Native.Nat.{ℕ, zero, suc, ◌+◌, ◌<◌, ◌≤◌}
use Rattle.std.specs.Prelude.{Bool, cond, ◌&&◌, ◌||◌, List, [], ◌∷◌, map, ◌≡◌, ltb, leb, get_or, length}
use Rattle.std.proofs.Math.Bool.{true, false}
use Rattle.std.proofs.Math.Path.{refl, ap}
use Rattle.std.proofs.Common.{add-zero, le_of_suc-le-suc, not-suc-le-zero}
use native.Mathlib.Omega.{arith}
use borrow.Author.Tests.{ltb-true, ltb-false, leb-true, leb-false}
use Rattle.rules.specs.declared.Row.{Row}
use Rattle.rules.specs.Names.{places_per_pad, code_up}
use Rattle.rules.specs.Sheets.{element_of}
use Rattle.rules.specs.Calls.{row_code}
use Rattle.layout.specs.Good.{Good}
use Rattle.rules.specs.Places.{directions, unlisted_row, listed_row, element_next, direction_next, next_row, one_if, rows_from, rows_of}

-- no row has a code below the one before it
pub Rising : ℕ → List Row → Type 0
Rising last [] = Unit
Rising last (r ∷ rs) = (last ≤ r.code) × Rising r.code rs

at_least : (last : ℕ) (rows : List Row) → Rising last rows → (j : ℕ) → j < length rows → last ≤ get_or (map row_code rows) j 0
unfolding Rising
at_least last [] rising j short = absurd (not-suc-le-zero short)
at_least last (r ∷ rows) rising zero short = rising.0
at_least last (r ∷ rows) rising (suc j) short =
    let here = rising.0 in
    let rest = at_least r.code rows rising.1 j (le_of_suc-le-suc short) in
    omega arith

in_order : (last : ℕ) (rows : List Row) → Rising last rows → (i j : ℕ) → i ≤ j → j < length rows
    → get_or (map row_code rows) i 0 ≤ get_or (map row_code rows) j 0
unfolding Rising
in_order last [] rising i j most short = absurd (not-suc-le-zero short)
in_order last (r ∷ rows) rising zero zero most short = omega arith
in_order last (r ∷ rows) rising zero (suc j) most short = at_least r.code rows rising.1 j (le_of_suc-le-suc short)
in_order last (r ∷ rows) rising (suc i) zero most short = absurd (not-suc-le-zero most)
in_order last (r ∷ rows) rising (suc i) (suc j) most short =
    in_order r.code rows rising.1 i j (le_of_suc-le-suc most) (le_of_suc-le-suc short)

module _ (s : List ℕ) (n : ℕ) (good : Good s n) where
  -- the code laid last is at most the next element's and the next direction's
  record Behind (i d last : ℕ) : Type 0 where
    pub element : i < n → last ≤ (element_of s i).code
    pub direction : d < directions → last ≤ code_up + d

  -- the row that two tests give: whether the next place is an element's, and whether it is a direction's
  abbrev row_by : Bool → Bool → ℕ → ℕ → ℕ → Row
  row_by element direction i d last = cond element (listed_row (element_of s i)) (unlisted_row (cond direction (code_up + d) last))

  record Step (element direction : Bool) (i d last : ℕ) : Type 0 where
    pub most : last ≤ (row_by element direction i d last).code
    pub behind : Behind (i + one_if element) (d + one_if direction) (row_by element direction i d last).code

  -- by the six tests: elements left, directions all laid, the element's code is at most the direction's; directions left, elements all laid, the
  -- direction's code is at most the element's
  step_by : (i d last : ℕ) (a b c e f g : Bool) → ltb i n ≡ a → leb directions d ≡ b → leb (element_of s i).code (code_up + d) ≡ c
      → ltb d directions ≡ e → leb n i ≡ f → leb (code_up + d) (element_of s i).code ≡ g → Behind i d last
      → Step (a && (b || c)) (e && (f || g)) i d last
  unfolding listed_row
  step_by i d last true b c e true g ea eb ec ee ef eg w =
      let less = ltb-true i n ea in
      let past = leb-true n i ef in
      absurd (omega arith)
  step_by i d last true true c true false g ea eb ec ee ef eg w =
      let past = leb-true directions d eb in
      let less = ltb-true d directions ee in
      absurd (omega arith)
  step_by i d last true false c false false g ea eb ec ee ef eg w =
      let less = leb-false directions d eb in
      let past = ltb-false d directions ee in
      absurd (omega arith)
  step_by i d last true false false true false false ea eb ec ee ef eg w =
      let above = leb-false (element_of s i).code (code_up + d) ec in
      let below = leb-false (code_up + d) (element_of s i).code eg in
      absurd (omega arith)
  step_by i d last true true c false false g ea eb ec ee ef eg w =
      let past = leb-true directions d eb in
      record {
        most = w.element (ltb-true i n ea);
        behind =
            record {
              element = λ more. omega (arith, good.rising i more);
              direction = λ less. omega arith;
            };
      }
  step_by i d last true false true true false true ea eb ec ee ef eg w =
      let at_most = leb-true (element_of s i).code (code_up + d) ec in
      record {
        most = w.element (ltb-true i n ea);
        behind = record { element = λ more. omega (arith, good.rising i more); direction = λ less. omega arith };
      }
  step_by i d last true false true true false false ea eb ec ee ef eg w =
      let at_most = leb-true (element_of s i).code (code_up + d) ec in
      record {
        most = w.element (ltb-true i n ea);
        behind = record { element = λ more. omega (arith, good.rising i more); direction = λ less. omega arith };
      }
  step_by i d last true false false true false true ea eb ec ee ef eg w =
      let at_most = leb-true (code_up + d) (element_of s i).code eg in
      record {
        most = w.direction (ltb-true d directions ee);
        behind = record { element = λ more. rw (add-zero i) at_most; direction = λ less. omega arith };
      }
  step_by i d last false b c e false g ea eb ec ee ef eg w =
      let past = ltb-false i n ea in
      let less = leb-false n i ef in
      absurd (omega arith)
  step_by i d last false b c true true g ea eb ec ee ef eg w =
      let past = ltb-false i n ea in
      record {
        most = w.direction (ltb-true d directions ee);
        behind = record { element = λ more. omega arith; direction = λ less. omega arith };
      }
  step_by i d last false b c false true g ea eb ec ee ef eg w =
      let past = ltb-false i n ea in
      let all = ltb-false d directions ee in
      record { most = omega arith; behind = record { element = λ more. omega arith; direction = λ less. omega arith } }

  step : (i d last : ℕ) → Behind i d last → Step (element_next s n i d) (direction_next s n i d) i d last
  unfolding element_next direction_next
  step i d last w =
      step_by i d last (ltb i n) (leb directions d) (leb (element_of s i).code (code_up + d)) (ltb d directions) (leb n i)
      (leb (code_up + d) (element_of s i).code) refl refl refl refl refl refl w

  rising-from : (k i d last : ℕ) → Behind i d last → Rising last (rows_from k s n i d last)
  unfolding rows_from next_row Rising
  rising-from zero i d last w = tt
  rising-from (suc k) i d last w =
      let next = step i d last w in
      (next.most, rising-from k _ _ _ next.behind)

  rows-length : (k i d last : ℕ) → length (rows_from k s n i d last) ≡ k
  unfolding rows_from
  rows-length zero i d last = refl
  rows-length (suc k) i d last = ap suc (rows-length k _ _ _)

  -- the codes of the 52 places never fall
  pub never-fall : (i j : ℕ) → i ≤ j → j < places_per_pad → get_or (map row_code (rows_of s n)) i 0 ≤ get_or (map row_code (rows_of s n)) j 0
  unfolding rows_of
  never-fall i j most short =
      let rising = rising-from places_per_pad 0 0 0 (record { element = λ some. omega arith; direction = λ less. omega arith }) in
      in_order 0 (rows_from places_per_pad s n 0 0 0) rising i j most (rw (rows-length places_per_pad 0 0 0) short)
