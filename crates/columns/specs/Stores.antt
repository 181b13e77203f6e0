-- A record stored in its columns: its own list has it at the place, and the other lists are as they were, since no two columns of an array meet. That two
-- columns lie apart is a test on where they start, which computes; `simp` then finds each store and each read by itself.
use Rattle.std.specs.Prelude.{ℕ, ◌+◌, ◌≤◌, ◌<◌, ◌≡◌, refl, ◌≢◌, Bool, true, false, ◌||◌, List, get_or, set, leb, Float}
use Rattle.std.proofs.Math.ListN.{length, length-set}
use Rattle.std.proofs.Math.Seq.{get_or-set_same}
use Rattle.std.proofs.Common.{get_or-set_other, leb-true}
use native.Mathlib.Omega.{arith}
use Rattle.rules.specs.declared.Element.{Element}
use Rattle.rules.specs.declared.ButtonData.{ButtonData}
use Rattle.rules.specs.declared.AxisData.{AxisData}
use Rattle.rules.specs.declared.Slot.{Slot}
use Rattle.rules.specs.Names.{nowhere, queue_room}
use Rattle.columns.specs.Tabled.{tabled-same, tabled-set}
use Rattle.columns.specs.Columns.{places, values_long, times_long, marks_long, bytes_long, element_in, button_in, axis_in, slot_in, elements_of, buttons_of, axes_of, slots_of}
use Rattle.columns.specs.Columns.{button_values, axis_values, lows, ranges, thresholds, queue_values, button_stamps, button_counters, button_sinces, axis_stamps, axis_counters, queue_times, pressed_marks, repeating_marks, odd_marks, queue_kinds, queue_pads, queue_names}

-- ---- one number stored at k of the column that starts at s, and one read at j of the column that starts at s'

-- whether two columns of n places do not meet
abbrev apart : ℕ → ℕ → ℕ → Bool
apart n s s' = leb (s + n) s' || leb (s' + n) s

never-meet : (n s s' k j : ℕ) (a b : Bool) → leb (s + n) s' ≡ a → leb (s' + n) s ≡ b → (a || b) ≡ true → k < n → j < n → s' + j ≢ s + k
never-meet n s s' k j true b ea eb h lk lj e = omega (arith, leb-true (s + n) s' ea)
never-meet n s s' k j false true ea eb h lk lj e = omega (arith, leb-true (s' + n) s eb)
never-meet n s s' k j false false ea eb h lk lj e = let z : ◌≡◌ {A = ℕ} 0 1 = cc in omega arith

-- at another place of the same column
other_place : {A : Type 0} (l : List A) (s k j : ℕ) (x d : A) → j ≢ k → get_or (set l (s + k) x) (s + j) d ≡ get_or l (s + j) d
other_place l s k j x d h = get_or-set_other l (s + k) (s + j) x d (λ e. h (omega arith))

module _ {A : Type 0} (n : ℕ) (l : List A) where
  -- in another column
  other : (s s' k j : ℕ) (x d : A) → apart n s s' ≡ true → k < n → j < n → get_or (set l (s + k) x) (s' + j) d ≡ get_or l (s' + j) d
  other s s' k j x d h lk lj =
      get_or-set_other l (s + k) (s' + j) x d (never-meet n s s' k j (leb (s + n) s') (leb (s' + n) s) refl refl h lk lj)

  -- at the same place of the same column
  same : (s k : ℕ) (x d : A) → leb (s + n) (length l) ≡ true → k < n → get_or (set l (s + k) x) (s + k) d ≡ x
  same s k x d fits lk = get_or-set_same l (s + k) x d (omega (arith, leb-true (s + n) (length l) fits))

-- the columns of records, and those of the queue
module _ {A : Type 0} (l : List A) (s s' k j : ℕ) (x d : A) where
  other-column : apart places s s' ≡ true → k < places → j < places → get_or (set l (s + k) x) (s' + j) d ≡ get_or l (s' + j) d
  other-column = other places l s s' k j x d

  other-of-queue : apart queue_room s s' ≡ true → k < queue_room → j < queue_room → get_or (set l (s + k) x) (s' + j) d ≡ get_or l (s' + j) d
  other-of-queue = other queue_room l s s' k j x d

module _ {A : Type 0} (l : List A) (s k : ℕ) (x d : A) where
  same-column : leb (s + places) (length l) ≡ true → k < places → get_or (set l (s + k) x) (s + k) d ≡ x
  same-column = same places l s k x d

  same-of-queue : leb (s + queue_room) (length l) ≡ true → k < queue_room → get_or (set l (s + k) x) (s + k) d ≡ x
  same-of-queue = same queue_room l s k x d

-- a place of the queue is below the records' too
placed : {j : ℕ} → j < queue_room → j < places
placed l = omega arith

-- ---- what a store leaves

pub record ButtonPut
    (vs : List Float) (ts : List ℕ) (ms : List Bool) (k : ℕ) (b : ButtonData) (vs' : List Float) (ts' : List ℕ) (ms' : List Bool) :
    Type 0 where
  pub buttons : buttons_of vs' ts' ms' ≡ set (buttons_of vs ts ms) k b
  pub axes : axes_of vs' ts' ≡ axes_of vs ts
  pub elements : elements_of vs' ms' ≡ elements_of vs ms
  pub slots : (bs cs : List ℕ) → slots_of vs' ts' bs cs ≡ slots_of vs ts bs cs

pub record AxisPut (vs : List Float) (ts : List ℕ) (k : ℕ) (a : AxisData) (vs' : List Float) (ts' : List ℕ) : Type 0 where
  pub axes : axes_of vs' ts' ≡ set (axes_of vs ts) k a
  pub buttons : (ms : List Bool) → buttons_of vs' ts' ms ≡ buttons_of vs ts ms
  pub elements : (ms : List Bool) → elements_of vs' ms ≡ elements_of vs ms
  pub slots : (bs cs : List ℕ) → slots_of vs' ts' bs cs ≡ slots_of vs ts bs cs

pub record ElementPut (vs : List Float) (ms : List Bool) (k : ℕ) (e : Element) (vs' : List Float) (ms' : List Bool) : Type 0 where
  pub elements : elements_of vs' ms' ≡ set (elements_of vs ms) k e
  pub buttons : (ts : List ℕ) → buttons_of vs' ts ms' ≡ buttons_of vs ts ms
  pub axes : (ts : List ℕ) → axes_of vs' ts ≡ axes_of vs ts
  pub slots : (ts bs cs : List ℕ) → slots_of vs' ts bs cs ≡ slots_of vs ts bs cs

pub record SlotPut (vs : List Float) (ts bs cs : List ℕ) (k : ℕ) (s : Slot) (vs' : List Float) (ts' bs' cs' : List ℕ) : Type 0 where
  pub slots : slots_of vs' ts' bs' cs' ≡ set (slots_of vs ts bs cs) k s
  pub buttons : (ms : List Bool) → buttons_of vs' ts' ms ≡ buttons_of vs ts ms
  pub axes : axes_of vs' ts' ≡ axes_of vs ts
  pub elements : (ms : List Bool) → elements_of vs' ms ≡ elements_of vs ms

-- ---- the four stores

module _ (vs : List Float) (ts : List ℕ) (ms : List Bool) (k : ℕ) (b : ButtonData) (l : k ≤ nowhere) where
  abbrev button-vs : List Float
  button-vs = set vs (button_values + k) b.value

  abbrev button-ts : List ℕ
  button-ts = set (set (set ts (button_stamps + k) b.stamp) (button_counters + k) b.counter) (button_sinces + k) b.since

  abbrev button-ms : List Bool
  button-ms = set (set ms (pressed_marks + k) b.pressed) (repeating_marks + k) b.repeating

  pub button-put :
      length vs ≡ values_long → length ts ≡ times_long → length ms ≡ marks_long → ButtonPut vs ts ms k b button-vs button-ts button-ms
  unfolding buttons_of axes_of elements_of slots_of
  button-put ev et em =
      let lk : k < places = omega arith in
      record {
        buttons =
            tabled-set places (button_in vs ts ms) (button_in button-vs button-ts button-ms) k b lk
            (simp (other-column, same-column, length-set, ev, et, em))
            (λ j lj p. simp (other-column, other_place));
        axes = tabled-same places (axis_in vs ts) (axis_in button-vs button-ts) (λ j lj. simp other-column);
        elements = tabled-same places (element_in vs ms) (element_in button-vs button-ms) (λ j lj. simp other-column);
        slots = λ bs cs. tabled-same queue_room (slot_in vs ts bs cs) (slot_in button-vs button-ts bs cs) (λ j few. let lj = placed few in simp other-column);
      }

module _ (vs : List Float) (ts : List ℕ) (k : ℕ) (a : AxisData) (l : k ≤ nowhere) where
  abbrev axis-vs : List Float
  axis-vs = set vs (axis_values + k) a.value

  abbrev axis-ts : List ℕ
  axis-ts = set (set ts (axis_stamps + k) a.stamp) (axis_counters + k) a.counter

  pub axis-put : length vs ≡ values_long → length ts ≡ times_long → AxisPut vs ts k a axis-vs axis-ts
  unfolding buttons_of axes_of elements_of slots_of
  axis-put ev et =
      let lk : k < places = omega arith in
      record {
        axes =
            tabled-set places (axis_in vs ts) (axis_in axis-vs axis-ts) k a lk
            (simp (other-column, same-column, length-set, ev, et))
            (λ j lj p. simp (other-column, other_place));
        buttons = λ ms. tabled-same places (button_in vs ts ms) (button_in axis-vs axis-ts ms) (λ j lj. simp other-column);
        elements = λ ms. tabled-same places (element_in vs ms) (element_in axis-vs ms) (λ j lj. simp other-column);
        slots = λ bs cs. tabled-same queue_room (slot_in vs ts bs cs) (slot_in axis-vs axis-ts bs cs) (λ j few. let lj = placed few in simp other-column);
      }

module _ (vs : List Float) (ms : List Bool) (k : ℕ) (e : Element) (l : k ≤ nowhere) where
  abbrev element-vs : List Float
  element-vs = set (set (set vs (lows + k) e.low) (ranges + k) e.range) (thresholds + k) e.threshold

  abbrev element-ms : List Bool
  element-ms = set ms (odd_marks + k) e.odd

  pub element-put : length vs ≡ values_long → length ms ≡ marks_long → ElementPut vs ms k e element-vs element-ms
  unfolding buttons_of axes_of elements_of slots_of
  element-put ev em =
      let lk : k < places = omega arith in
      record {
        elements =
            tabled-set places (element_in vs ms) (element_in element-vs element-ms) k e lk
            (simp (other-column, same-column, length-set, ev, em))
            (λ j lj p. simp (other-column, other_place));
        buttons = λ ts. tabled-same places (button_in vs ts ms) (button_in element-vs ts element-ms) (λ j lj. simp other-column);
        axes = λ ts. tabled-same places (axis_in vs ts) (axis_in element-vs ts) (λ j lj. simp other-column);
        slots = λ ts bs cs. tabled-same queue_room (slot_in vs ts bs cs) (slot_in element-vs ts bs cs) (λ j few. let lj = placed few in simp other-column);
      }

module _ (vs : List Float) (ts bs cs : List ℕ) (k : ℕ) (s : Slot) (few : k < queue_room) where
  abbrev slot-vs : List Float
  slot-vs = set vs (queue_values + k) s.value

  abbrev slot-ts : List ℕ
  slot-ts = set ts (queue_times + k) s.time

  abbrev slot-bs : List ℕ
  slot-bs = set (set (set bs (queue_kinds + k) s.kind) (queue_pads + k) s.pad) (queue_names + k) s.name

  abbrev slot-cs : List ℕ
  slot-cs = set cs k s.code

  pub slot-put :
      length vs ≡ values_long →
      length ts ≡ times_long →
      length bs ≡ bytes_long →
      length cs ≡ queue_room →
      SlotPut vs ts bs cs k s slot-vs slot-ts slot-bs slot-cs
  unfolding buttons_of axes_of elements_of slots_of
  slot-put ev et eb ec =
      let lk = placed few in
      let room : k < length cs = omega arith in
      record {
        slots =
            tabled-set queue_room (slot_in vs ts bs cs) (slot_in slot-vs slot-ts slot-bs slot-cs) k s few
            (simp (other-of-queue, same-of-queue, get_or-set_same, length-set, ev, et, eb))
            (λ j lj p. simp (other-of-queue, other_place, get_or-set_other));
        buttons = λ ms. tabled-same places (button_in vs ts ms) (button_in slot-vs slot-ts ms) (λ j lj. simp other-column);
        axes = tabled-same places (axis_in vs ts) (axis_in slot-vs slot-ts) (λ j lj. simp other-column);
        elements = λ ms. tabled-same places (element_in vs ms) (element_in slot-vs ms) (λ j lj. simp other-column);
      }
