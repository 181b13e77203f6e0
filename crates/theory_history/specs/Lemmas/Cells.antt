-- What a place of the hub holds of its button record, and what one event makes of it: an event writes the place of its code and no other.
use Rattle.std.specs.Prelude.{ℕ, ◌+◌, ◌<◌, Bool, cond, ◌&&◌, ◌||◌, List, ◌≡◌, eqb, Float}
use Rattle.std.proofs.Math.Bool.{true, false}
use Rattle.std.proofs.Math.Path.{refl}
use Rattle.std.proofs.Common.{sym, arith}
use Rattle.std.proofs.Math.ListN.{length}
use Rattle.std.proofs.Math.Seq.{get_or-set_same, get_or-set_other}
use borrow.Author.Tests.{eqb-true, eqb-false}
use Rattle.numbers.specs.Constants.{zero32, one32}
use Rattle.rules.specs.declared.Hub.{Hub}
use Rattle.rules.specs.declared.Event.{Event}
use Rattle.rules.specs.declared.EventType.{EventType}
use Rattle.rules.specs.declared.EventType.TheVariants.{Pressed, Released, Repeated, Changed, Axis, Connected, Disconnected, Dropped}
use Rattle.rules.specs.declared.ButtonData.{ButtonData}
use Rattle.rules.specs.Names.{nowhere}
use Rattle.rules.specs.Places.{place_of}
use Rattle.rules.specs.Events.{code_of}
use Rattle.rules.specs.State.{button_type, writes_button_type, writes_axis_type, button_after, writes_button, writes_axis}
use Rattle.rules.specs.Hub.{place_in, has_button_at, has_axis_at, button_at, past_button}
use Rattle.rules.specs.Step.{updated_at, updated_of}

-- a button record without its stamp, counter, repeating mark and since, and whether it is there
pub record Cell : Type 0 where
  pub known : Bool
  pub pressed : Bool
  pub value : Float

unfoldable pub cell_at : Hub → ℕ → Cell
cell_at h k = record { known = has_button_at h k; pressed = (button_at h k).pressed; value = (button_at h k).value }

-- what is read of it
abbrev pub cell_pressed : Cell → Bool
cell_pressed x = x.known && x.pressed

abbrev pub cell_value : Cell → Float
cell_value x = cond x.known x.value zero32

abbrev pub cell_type : EventType → Cell → Cell
cell_type (Pressed n c) x = record { known = true; pressed = true; value = cond x.known x.value one32 }
cell_type (Released n c) x = record { known = true; pressed = false; value = cond x.known x.value zero32 }
cell_type (Repeated n c) x = record { known = true; pressed = cond x.known x.pressed true; value = cond x.known x.value one32 }
cell_type (Changed n c v) x = record { known = true; pressed = x.known && x.pressed; value = v }
cell_type (Axis n c v) x = x
cell_type Connected x = x
cell_type Disconnected x = x
cell_type Dropped x = x

-- the lengths of the state's columns
pub record Long (h : Hub) : Type 0 where
  pub hasbutton : length h.hasbutton ≡ nowhere
  pub buttons : length h.buttons ≡ nowhere + 1
  pub hasaxis : length h.hasaxis ≡ nowhere

-- whether an event is of a place's code
unfoldable pub hits : List ℕ → ℕ → Event → Bool
unfolding place_of code_of
hits codes k e = eqb (place_of codes e.pad (code_of e)) k

here : (t : EventType) (known : Bool) (b : ButtonData) (time counter : ℕ)
    → record { known = known || writes_button_type t; pressed = (button_type t known b time counter).pressed; value = (button_type t known b time counter).value }
    ≡ cell_type t (record { known = known; pressed = b.pressed; value = b.value })
here (Pressed n c) true b time counter = refl
here (Pressed n c) false b time counter = refl
here (Released n c) true b time counter = refl
here (Released n c) false b time counter = refl
here (Repeated n c) true b time counter = refl
here (Repeated n c) false b time counter = refl
here (Changed n c v) true b time counter = refl
here (Changed n c v) false b time counter = refl
here (Axis n c v) true b time counter = refl
here (Axis n c v) false b time counter = refl
here Connected true b time counter = refl
here Connected false b time counter = refl
here Disconnected true b time counter = refl
here Disconnected false b time counter = refl
here Dropped true b time counter = refl
here Dropped false b time counter = refl

module _ (h : Hub) (e : Event) (k : ℕ) (long : Long h) (inside : k < nowhere) where
  -- the event's own place
  abbrev at : ℕ
  at = place_in h e.pad (code_of e)

  written : (hit : Bool) → eqb at k ≡ hit → cell_at (updated_of true h e) k ≡ cond hit (cell_type e.event (cell_at h k)) (cell_at h k)
  unfolding cell_at updated_of updated_at button_after writes_button
  written true is =
      let same = eqb-true at k is in
      let t : k < length h.hasbutton = omega (arith, long.hasbutton) in
      let b : k < length h.buttons = omega (arith, long.buttons) in
      rw (same, get_or-set_same h.hasbutton k (has_button_at h k || writes_button_type e.event) false t, get_or-set_same h.buttons k (button_type e.event (has_button_at h k) (button_at h k) e.time h.counter) past_button b)
      (here e.event (has_button_at h k) (button_at h k) e.time h.counter)
  written false is =
      let other : k ≡ at → ⊥ = λ x. eqb-false at k is (sym x) in
      rw (get_or-set_other h.hasbutton at k _ false other, get_or-set_other h.buttons at k _ past_button other)

  pub cell-after : cell_at (updated_of true h e) k ≡ cond (hits h.codes k e) (cell_type e.event (cell_at h k)) (cell_at h k)
  unfolding hits
  cell-after = written (eqb at k) refl

  -- an axis record comes to the place of an axis event's code alone
  hasaxis-by : (hit : Bool) → eqb at k ≡ hit → has_axis_at (updated_of true h e) k ≡ cond hit (has_axis_at h k || writes_axis_type e.event) (has_axis_at h k)
  unfolding updated_of updated_at writes_axis
  hasaxis-by true is =
      let same = eqb-true at k is in
      let t : k < length h.hasaxis = omega (arith, long.hasaxis) in
      rw (same, get_or-set_same h.hasaxis k (has_axis_at h k || writes_axis_type e.event) false t)
  hasaxis-by false is =
      let other : k ≡ at → ⊥ = λ x. eqb-false at k is (sym x) in
      rw (get_or-set_other h.hasaxis at k _ false other)

  pub hasaxis-after : has_axis_at (updated_of true h e) k ≡ cond (hits h.codes k e) (has_axis_at h k || writes_axis_type e.event) (has_axis_at h k)
  unfolding hits
  hasaxis-after = hasaxis-by (eqb at k) refl
