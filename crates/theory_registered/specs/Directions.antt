-- The four directions have places in every registered pad, listed or not: "an event may also carry a direction code". With room for what is left to lay, each
-- direction that is left is laid, by itself or as the element that has its code.
use Prim.Native.Nat.{ℕ, zero, suc, ◌+◌, ◌-◌, ◌*◌, ◌<◌, ◌≤◌}
use Rattle.std.specs.Prelude.{Bool, List, ◌∷◌, ◌≡◌, eqb, length, get_or}
use Rattle.std.proofs.Math.Bool.{true, false}
use Rattle.std.proofs.Math.Path.{refl}
use Rattle.std.proofs.Common.{◌∙◌, arith}
use borrow.Author.Tests.{eqb-true, eqb-false}
use Rattle.rules.specs.declared.Hub.{Hub}
use Rattle.rules.specs.declared.Row.{Row}
use Rattle.rules.specs.Names.{pad_limit, places_per_pad, nowhere, code_up}
use Rattle.rules.specs.Sheets.{sheet_refusal, count_of}
use Rattle.rules.specs.Places.{listed_row, unlisted_row, directions, element_next, direction_next, next_row, one_if, rows_from, rows_of}
use Rattle.rules.specs.Hub.{place_in}
use Rattle.pad.specs.Rising.{place_found}
use Rattle.sheets.specs.Laws.{good}
use Rattle.theory_registered.specs.Rows.{element-facts, direction-facts, no-element-facts, no-direction-facts, rows-length}
use Rattle.theory_registered.specs.Columns.{row_at, Keeps, keeps-rise}

-- one of the rows has the code
record HasCode (rows : List Row) (c : ℕ) : Type 0 where
  pub place : ℕ
  pub inside : place < length rows
  pub has : (get_or rows place (unlisted_row 0)).code ≡ c

here : (r : Row) (rows : List Row) (c : ℕ) → r.code ≡ c → HasCode (r ∷ rows) c
here r rows c same = record { place = 0; inside = omega arith; has = same }

later : (r : Row) (rows : List Row) (c : ℕ) → HasCode rows c → HasCode (r ∷ rows) c
later r rows c w =
    let inside = w.inside in
    record { place = suc w.place; inside = omega arith; has = w.has }

module _ (s : List ℕ) (n : ℕ) where
  laid_by : (k i d last e : ℕ) (element direction same : Bool) → element_next s n i d ≡ element → direction_next s n i d ≡ direction → eqb e d ≡ same
      → d ≤ e → e < directions → n - i + (directions - d) ≤ suc k
      → (n - (i + one_if element) + (directions - (d + one_if direction)) ≤ k → d + one_if direction ≤ e
      → HasCode (rows_from k s n (i + one_if element) (d + one_if direction) (next_row s n i d last).code) (code_up + e))
      → HasCode (next_row s n i d last ∷ rows_from k s n (i + one_if element) (d + one_if direction) (next_row s n i d last).code) (code_up + e)
  unfolding next_row listed_row
  laid_by k i d last e true true true ee ed es from short room rest =
      let at = eqb-true e d es in
      let f = element-facts s n i d ee in
      let g = direction-facts s n i d ed in
      let most = f.1 g.0 in
      let least = g.1 f.0 in
      here _ _ (code_up + e) (rw (ee, at) (omega arith))
  laid_by k i d last e false true true ee ed es from short room rest =
      let at = eqb-true e d es in
      here _ _ (code_up + e) (rw (ee, ed, at))
  laid_by k i d last e element true false ee ed es from short room rest =
      let other = eqb-false e d es in
      later _ _ (code_up + e) (rest (omega arith) (omega arith))
  laid_by k i d last e true false same ee ed es from short room rest =
      let f = (element-facts s n i d ee).0 in
      later _ _ (code_up + e) (rest (omega arith) (omega arith))
  laid_by k i d last e false false same ee ed es from short room rest =
      let g = no-direction-facts s n i d ed (omega arith) in
      let f = no-element-facts s n i d ee g.0 in
      absurd (omega arith)

  rows-have : (k i d last e : ℕ) → d ≤ e → e < directions → n - i + (directions - d) ≤ k → HasCode (rows_from k s n i d last) (code_up + e)
  unfolding rows_from
  rows-have zero i d last e from short room = absurd (omega arith)
  rows-have (suc k) i d last e from short room =
      laid_by k i d last e (element_next s n i d) (direction_next s n i d) (eqb e d) refl refl refl from short room
      (λ left more. rows-have k _ _ _ e more short left)

module _ (h : Hub) (p : ℕ) (s : List ℕ) (stands : p < pad_limit) (taken : sheet_refusal true s ≡ 0) (keeps : Keeps h p s) (e : ℕ) (short : e < directions) where
  standing : HasCode (rows_of s (count_of s)) (code_up + e)
  unfolding rows_of
  standing =
      let few = (good s taken).few in
      rows-have s (count_of s) places_per_pad 0 0 0 e (omega arith) short (omega arith)

  inside : standing.place < places_per_pad
  unfolding rows_of
  inside =
      let i = standing.inside in
      omega (arith, rows-length places_per_pad s (count_of s) 0 0 0)

  has_code : (row_at s standing.place).code ≡ code_up + e
  unfolding row_at
  has_code = standing.has

  -- Up, Down, Left and Right are found
  pub direction-found : place_in h p (code_up + e) < nowhere
  direction-found =
      let i = inside in
      place_found h.codes p (code_up + e) stands (keeps-rise h p s taken keeps) (places_per_pad * p + standing.place) (omega arith) (omega arith)
      (keeps.codes standing.place inside ∙ has_code)
