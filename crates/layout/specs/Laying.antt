-- What a row more makes of what has its place: the rows that were left are that row and those that are left now.
use Prim.Native.Nat.{ℕ, suc, ◌+◌, ◌-◌, ◌<◌, ◌≤◌}
use Rattle.std.specs.Prelude.{List, [], ◌∷◌, ◌≡◌, refl}
use Rattle.std.proofs.Common.{arith}
use Rattle.rules.specs.declared.Row.{Row}
use Rattle.rules.specs.Names.{places_per_pad}
use Rattle.rules.specs.Places.{element_next, direction_next, next_row, one_if, rows_from, rows_of}
use Rattle.layout.specs.Rows.{one-if-small}
use Rattle.layout.specs.declared.Laying.{Laying}

-- the rows of the places from k on
abbrev pub rows_left : ℕ → List ℕ → ℕ → Laying → List Row
rows_left k s n l = rows_from (places_per_pad - k) s n l.elements l.directions l.code

pub record Steps (s : List ℕ) (n : ℕ) (l : Laying) (row : Row) (l' : Laying) : Type 0 where
  pub rows : (k : ℕ) → k < places_per_pad → rows_left k s n l ≡ row ∷ rows_left (k + 1) s n l'
  pub elements : l'.elements ≤ l.elements + 1
  pub directions : l'.directions ≤ l.directions + 1

pub steps :
    (s : List ℕ) (n : ℕ) (l : Laying) {row : Row} {element direction : ℕ} →
    row ≡ next_row s n l.elements l.directions l.code →
    element ≡ one_if (element_next s n l.elements l.directions) →
    direction ≡ one_if (direction_next s n l.elements l.directions) →
    Steps s n l row (record { elements = l.elements + element; directions = l.directions + direction; code = row.code })
unfolding rows_from
steps s n l is_row is-element is-direction =
    record {
      rows =
          λ k short.
          let more : places_per_pad - k ≡ suc (places_per_pad - (k + 1)) = omega arith in
          rw (more, is_row, is-element, is-direction) refl;
      elements = omega (arith, is-element, one-if-small);
      directions = omega (arith, is-direction, one-if-small);
    }

pub first_rows : (s : List ℕ) (n : ℕ) (l : Laying) → l.elements ≡ 0 → l.directions ≡ 0 → l.code ≡ 0 → rows_left 0 s n l ≡ rows_of s n
unfolding rows_of
first_rows s n l elements directions code = rw (elements, directions, code) refl

pub none_left : (k : ℕ) (s : List ℕ) (n : ℕ) (l : Laying) → places_per_pad ≤ k → rows_left k s n l ≡ []
unfolding rows_from
none_left k s n l past =
    let none : places_per_pad - k ≡ 0 = omega arith in
    rw none refl
