-- The arrays, packed again out of the law book's lists: every cell of every array is some record's, so that the lists tell the arrays. A column is the list
-- of one field; an array is its columns one behind the other.
use Prim.Native.Nat.{ℕ, zero, suc, ◌+◌, ◌<◌}
use Rattle.std.specs.Prelude.{◌≡◌, List, [], ◌∷◌, ◌++◌, map, length}
use Rattle.std.proofs.Math.Path.{refl, ap}
use Rattle.std.proofs.Common.{sym, ◌∙◌, add-zero, zero-add}
use Rattle.std.proofs.Math.Bool.{Bool, false}
use Rattle.std.proofs.Math.ListN.{get_or}
use Rattle.std.specs.Float.Ieee.{Float, nan}
use native.Mathlib.Omega.{arith}
use Rattle.rules.specs.declared.Element.{Element}
use Rattle.rules.specs.declared.ButtonData.{ButtonData}
use Rattle.rules.specs.declared.AxisData.{AxisData}
use Rattle.rules.specs.declared.Slot.{Slot}
use Rattle.rules.specs.Names.{queue_room}
use Rattle.columns.specs.Tabled.{tabled}
use Rattle.columns.specs.Columns.{places, values_long, times_long, marks_long, bytes_long, elements_of, buttons_of, axes_of, slots_of, element_in, button_in, axis_in, slot_in}
use Rattle.columns.specs.Columns.{button_values, axis_values, lows, ranges, thresholds, queue_values}
use Rattle.columns.specs.Columns.{button_stamps, button_counters, button_sinces, axis_stamps, axis_counters, queue_times}
use Rattle.columns.specs.Columns.{pressed_marks, repeating_marks, odd_marks, queue_kinds, queue_pads, queue_names}

-- ---- the columns, in their order

abbrev pub packed_values : List ButtonData → List AxisData → List Element → List Slot → List Float
packed_values buttons axes elements slots =
    map (λ (b : ButtonData). b.value) buttons
    ++ (map (λ (a : AxisData). a.value) axes
    ++ (map (λ (e : Element). e.low) elements
    ++ (map (λ (e : Element). e.range) elements
    ++ (map (λ (e : Element). e.threshold) elements
    ++ map (λ (s : Slot). s.value) slots))))

abbrev pub packed_times : List ButtonData → List AxisData → List Slot → List ℕ
packed_times buttons axes slots =
    map (λ (b : ButtonData). b.stamp) buttons
    ++ (map (λ (b : ButtonData). b.counter) buttons
    ++ (map (λ (b : ButtonData). b.since) buttons
    ++ (map (λ (a : AxisData). a.stamp) axes
    ++ (map (λ (a : AxisData). a.counter) axes
    ++ map (λ (s : Slot). s.time) slots))))

abbrev pub packed_marks : List ButtonData → List Element → List Bool
packed_marks buttons elements =
    map (λ (b : ButtonData). b.pressed) buttons
    ++ (map (λ (b : ButtonData). b.repeating) buttons
    ++ map (λ (e : Element). e.odd) elements)

abbrev pub packed_bytes : List Slot → List ℕ
packed_bytes slots = map (λ (s : Slot). s.kind) slots ++ (map (λ (s : Slot). s.pad) slots ++ map (λ (s : Slot). s.name) slots)

abbrev pub packed_codes : List Slot → List ℕ
packed_codes slots = map (λ (s : Slot). s.code) slots

-- ---- a list is the table of its elements

whole_from : {A : Type 0} (i : ℕ) (l : List A) (f : ℕ → A) (d : A) → ((k : ℕ) → k < length l → f (i + k) ≡ get_or l k d) → tabled i (length l) f ≡ l
unfolding tabled
whole_from i [] f d h = refl
whole_from i (x ∷ l) f d h =
    let at : f i ≡ x = ap f (omega arith) ∙ h 0 (omega arith) in
    rw (at, whole_from (suc i) l f d (λ k less. ap f (omega arith) ∙ h (suc k) (omega arith)))

whole : {A : Type 0} (n : ℕ) (l : List A) (d : A) → length l ≡ n → tabled 0 n (λ k. get_or l k d) ≡ l
whole n l d e = rw (← e) (whole_from 0 l (λ k. get_or l k d) d (λ k less. ap (λ (j : ℕ). get_or l j d) (omega arith)))

-- a table in two parts
halves : {A : Type 0} (i m n : ℕ) (f : ℕ → A) → tabled i m f ++ tabled (i + m) n f ≡ tabled i (m + n) f
unfolding tabled
halves i zero n f = rw (add-zero, zero-add)
halves i (suc m) n f =
    let next : i + suc m ≡ suc i + m = omega arith in
    let long : suc m + n ≡ suc (m + n) = omega arith in
    rw (next, long, halves (suc i) m n f)

-- a column is a part of its array's table: `at` makes the records, f reads the array
module _ {R A : Type 0} (field : R → A) (at : ℕ → R) (f : ℕ → A) where
  column-from : (i n s : ℕ) → ((k : ℕ) → field (at k) ≡ f (s + k)) → map field (tabled i n at) ≡ tabled (s + i) n f
  unfolding tabled
  column-from i zero s h = refl
  column-from i (suc n) s h =
      let next : s + suc i ≡ suc (s + i) = omega arith in
      rw (h i, column-from (suc i) n s h, next)

  last-column : (n s : ℕ) → ((k : ℕ) → field (at k) ≡ f (s + k)) → map field (tabled 0 n at) ≡ tabled s n f
  last-column n s h = column-from 0 n s h ∙ ap (λ (j : ℕ). tabled j n f) (add-zero s)

  -- and the columns behind it
  column :
      (n s m : ℕ) (rest : List A) → ((k : ℕ) → field (at k) ≡ f (s + k)) → rest ≡ tabled (s + n) m f → map field (tabled 0 n at) ++ rest ≡ tabled s (n + m) f
  column n s m rest h e = rw (last-column n s h, e) (halves s n m f)

-- ---- each array is its columns

module _ (vs : List Float) (ts : List ℕ) (ms : List Bool) (bs cs : List ℕ) where
  abbrev button : ℕ → ButtonData
  button = button_in vs ts ms

  abbrev axis : ℕ → AxisData
  axis = axis_in vs ts

  abbrev element : ℕ → Element
  element = element_in vs ms

  abbrev slot : ℕ → Slot
  slot = slot_in vs ts bs cs

  pub values-packed : length vs ≡ values_long → packed_values (buttons_of vs ts ms) (axes_of vs ts) (elements_of vs ms) (slots_of vs ts bs cs) ≡ vs
  unfolding buttons_of axes_of elements_of slots_of
  values-packed e =
      let f : ℕ → Float = λ k. get_or vs k nan in
      column (λ (b : ButtonData). b.value) button f places button_values _ _ (λ k. refl)
      (column (λ (a : AxisData). a.value) axis f places axis_values _ _ (λ k. refl)
      (column (λ (e : Element). e.low) element f places lows _ _ (λ k. refl)
      (column (λ (e : Element). e.range) element f places ranges _ _ (λ k. refl)
      (column (λ (e : Element). e.threshold) element f places thresholds _ _ (λ k. refl)
      (last-column (λ (s : Slot). s.value) slot f queue_room queue_values (λ k. refl))))))
      ∙ whole values_long vs nan e

  pub times-packed : length ts ≡ times_long → packed_times (buttons_of vs ts ms) (axes_of vs ts) (slots_of vs ts bs cs) ≡ ts
  unfolding buttons_of axes_of slots_of
  times-packed e =
      let f : ℕ → ℕ = λ k. get_or ts k 0 in
      column (λ (b : ButtonData). b.stamp) button f places button_stamps _ _ (λ k. refl)
      (column (λ (b : ButtonData). b.counter) button f places button_counters _ _ (λ k. refl)
      (column (λ (b : ButtonData). b.since) button f places button_sinces _ _ (λ k. refl)
      (column (λ (a : AxisData). a.stamp) axis f places axis_stamps _ _ (λ k. refl)
      (column (λ (a : AxisData). a.counter) axis f places axis_counters _ _ (λ k. refl)
      (last-column (λ (s : Slot). s.time) slot f queue_room queue_times (λ k. refl))))))
      ∙ whole times_long ts 0 e

  pub marks-packed : length ms ≡ marks_long → packed_marks (buttons_of vs ts ms) (elements_of vs ms) ≡ ms
  unfolding buttons_of elements_of
  marks-packed e =
      let f : ℕ → Bool = λ k. get_or ms k false in
      column (λ (b : ButtonData). b.pressed) button f places pressed_marks _ _ (λ k. refl)
      (column (λ (b : ButtonData). b.repeating) button f places repeating_marks _ _ (λ k. refl)
      (last-column (λ (e : Element). e.odd) element f places odd_marks (λ k. refl)))
      ∙ whole marks_long ms false e

  pub bytes_packed : length bs ≡ bytes_long → packed_bytes (slots_of vs ts bs cs) ≡ bs
  unfolding slots_of
  bytes_packed e =
      let f : ℕ → ℕ = λ k. get_or bs k 0 in
      column (λ (s : Slot). s.kind) slot f queue_room queue_kinds _ _ (λ k. refl)
      (column (λ (s : Slot). s.pad) slot f queue_room queue_pads _ _ (λ k. refl)
      (last-column (λ (s : Slot). s.name) slot f queue_room queue_names (λ k. refl)))
      ∙ whole bytes_long bs 0 e

  pub codes-packed : length cs ≡ queue_room → packed_codes (slots_of vs ts bs cs) ≡ cs
  unfolding slots_of
  codes-packed e =
      last-column (λ (s : Slot). s.code) slot (λ k. get_or cs k 0) queue_room 0 (λ k. ap (λ (j : ℕ). get_or cs j 0) (sym (zero-add k)))
      ∙ whole queue_room cs 0 e
