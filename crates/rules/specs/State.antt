-- State: the records of a code after an event, gilrs's `GamepadState`, and what is read of them. Definitions only.
use Rattle.std.specs.Prelude.{ℕ, ◌+◌, Bool, true, false, cond, not, ◌&&◌, ltb, Float}
use Rattle.numbers.specs.Constants.{zero32, one32}
use Rattle.rules.specs.declared.Event.{Event}
use Rattle.rules.specs.declared.EventType.{EventType}
use Rattle.rules.specs.declared.EventType.TheVariants.{Pressed, Released, Repeated, Changed, Axis, Connected, Disconnected, Dropped}
use Rattle.rules.specs.declared.ButtonData.{ButtonData}
use Rattle.rules.specs.declared.AxisData.{AxisData}
use Rattle.rules.specs.Names.{last_time}

-- ---- reads

-- pressed by code reads the button record alone
unfoldable pub read_pressed : Bool → ButtonData → Bool
read_pressed known b = known && b.pressed

-- "Reading a code looks at axes first"
unfoldable pub read_value : Bool → AxisData → Bool → ButtonData → Float
read_value axis_known a button_known b = cond axis_known a.value (cond button_known b.value zero32)

-- ---- the button record: `set_btn_pressed`, `set_btn_repeating`, `set_btn_value`

-- the five fields that gilrs keeps of a button
pub record CrateButton : Type 0 where
  pub value : Float
  pub stamp : ℕ
  pub counter : ℕ
  pub pressed : Bool
  pub repeating : Bool

-- a record without `since`, and with it
abbrev pub crate_of : ButtonData → CrateButton
crate_of b = record { value = b.value; stamp = b.stamp; counter = b.counter; pressed = b.pressed; repeating = b.repeating }

abbrev pub held_from : CrateButton → ℕ → ButtonData
held_from b since =
    record { value = b.value; stamp = b.stamp; counter = b.counter; pressed = b.pressed; repeating = b.repeating; since = since }

-- "Pressing a new button also sets value 1.0; a first Changed leaves it unpressed"
abbrev pub crate_type : EventType → Bool → CrateButton → ℕ → ℕ → CrateButton
crate_type (Pressed n c) known b time counter =
    record { value = cond known b.value one32; stamp = time; counter = counter; pressed = true; repeating = false }
crate_type (Released n c) known b time counter =
    record { value = cond known b.value zero32; stamp = time; counter = counter; pressed = false; repeating = false }
crate_type (Repeated n c) known b time counter =
    record { value = cond known b.value one32; stamp = time; counter = counter; pressed = cond known b.pressed true; repeating = true }
crate_type (Changed n c v) known b time counter =
    record { value = v; stamp = time; counter = counter; pressed = known && b.pressed; repeating = known && b.repeating }
crate_type (Axis n c v) known b time counter = b
crate_type Connected known b time counter = b
crate_type Disconnected known b time counter = b
crate_type Dropped known b time counter = b

-- gilrs's record after an event
unfoldable pub crate_after : Event → Bool → CrateButton → ℕ → CrateButton
crate_after e known b counter = crate_type e.event known b e.time counter

-- whether an event writes the button record of its code, or the axis record
abbrev pub writes_button_type : EventType → Bool
writes_button_type (Pressed n c) = true
writes_button_type (Released n c) = true
writes_button_type (Repeated n c) = true
writes_button_type (Changed n c v) = true
writes_button_type (Axis n c v) = false
writes_button_type Connected = false
writes_button_type Disconnected = false
writes_button_type Dropped = false

unfoldable pub writes_button : Event → Bool
writes_button e = writes_button_type e.event

-- W-206: "the time at which it last went from not pressed to pressed": the event's time where the record reads pressed with it and did not before;
-- else what it was, and 0 in a new record
unfoldable pub since_after : Bool → ButtonData → Bool → ℕ → ℕ
unfolding read_pressed
since_after known b pressed time = cond (pressed && not (read_pressed known b)) time (cond known b.since 0)

-- the button record after an event that writes one: gilrs's five fields as gilrs has them, and `since`; any other event leaves it
abbrev pub button_type : EventType → Bool → ButtonData → ℕ → ℕ → ButtonData
button_type t known b time counter =
    let after = crate_type t known (crate_of b) time counter in
    cond (writes_button_type t) (held_from after (since_after known b after.pressed time)) b

unfoldable pub button_after : Event → Bool → ButtonData → ℕ → ButtonData
unfolding since_after
button_after e known b counter = button_type e.event known b e.time counter

-- ---- the axis record: `update_axis`

abbrev pub axis_type : EventType → AxisData → ℕ → ℕ → AxisData
axis_type (Axis n c v) a time counter = record { value = v; stamp = time; counter = counter }
axis_type (Pressed n c) a time counter = a
axis_type (Released n c) a time counter = a
axis_type (Repeated n c) a time counter = a
axis_type (Changed n c v) a time counter = a
axis_type Connected a time counter = a
axis_type Disconnected a time counter = a
axis_type Dropped a time counter = a

unfoldable pub axis_after : Event → AxisData → ℕ → AxisData
axis_after e a counter = axis_type e.event a e.time counter

abbrev pub writes_axis_type : EventType → Bool
writes_axis_type (Axis n c v) = true
writes_axis_type (Pressed n c) = false
writes_axis_type (Released n c) = false
writes_axis_type (Repeated n c) = false
writes_axis_type (Changed n c v) = false
writes_axis_type Connected = false
writes_axis_type Disconnected = false
writes_axis_type Dropped = false

unfoldable pub writes_axis : Event → Bool
writes_axis e = writes_axis_type e.event

-- ---- "The counter goes from 2^62-1 to 0": `inc`

unfoldable pub next_counter : ℕ → ℕ
next_counter n = cond (ltb n last_time) (n + 1) 0
