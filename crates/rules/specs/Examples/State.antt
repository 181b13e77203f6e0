-- State: the records of a code after each kind of event, first and later, what is read of them, and the counter.
use Rattle.std.specs.Prelude.{ℕ, ◌≡◌, refl, Bool, true, false, List, [], ◌∷◌, map, Float}
use Rattle.numbers.specs.Constants.{zero32, one32, minus_one32}
use Rattle.rules.specs.declared.Event.{Event}
use Rattle.rules.specs.declared.EventType.{EventType}
use Rattle.rules.specs.declared.EventType.TheVariants.{Pressed, Released, Repeated, Changed, Axis, Connected, Disconnected, Dropped}
use Rattle.rules.specs.declared.ButtonData.{ButtonData}
use Rattle.rules.specs.declared.AxisData.{AxisData}
use Rattle.rules.specs.State.{read_pressed, read_value, button_after, axis_after, writes_button, writes_axis, next_counter}
use Rattle.rules.specs.Examples.Table.{◌is◌, Right, event, half32}

-- ---- the button record

held : Float → ℕ → ℕ → Bool → Bool → ℕ → ButtonData
held value stamp counter pressed repeating since =
    record { value = value; stamp = stamp; counter = counter; pressed = pressed; repeating = repeating; since = since }

-- a record that is there: 0.5, stamped 1 at counter 2, last pressed at 3
old : Bool → Bool → ButtonData
old pressed repeating = held half32 1 2 pressed repeating 3

-- the record after an event at 7 and counter 9, where there was none
first : EventType → ButtonData
first t = button_after (event 7 t) false (old true true) 9

later : Bool → Bool → EventType → ButtonData
later pressed repeating t = button_after (event 7 t) true (old pressed repeating) 9

-- "Pressing a new button also sets value 1.0; a first Changed leaves it unpressed". A first Released makes a record that is not pressed, 0.0; a first
-- Repeated one that is pressed and repeating, 1.0. "a record that begins with Released or Changed has 0. A repeat that creates a record sets it to its own
-- time"
firsts :
    Right (
    first (Pressed 1 11) is held one32 7 9 true false 7
    ∷ first (Released 1 11) is held zero32 7 9 false false 0
    ∷ first (Repeated 1 11) is held one32 7 9 true true 7
    ∷ first (Changed 1 11 minus_one32) is held minus_one32 7 9 false false 0
    ∷ [])
unfolding first held old button_after
firsts = refl

-- Pressed and Released on a record leave its value and end repeating; Repeated leaves pressed and value; Changed leaves pressed and repeating. "Pressed on an
-- already pressed button keeps it; release keeps it too"
laters :
    Right (
    later false true (Pressed 1 11) is held half32 7 9 true false 7
    ∷ later true true (Pressed 1 11) is held half32 7 9 true false 3
    ∷ later true true (Released 1 11) is held half32 7 9 false false 3
    ∷ later false false (Released 1 11) is held half32 7 9 false false 3
    ∷ later true false (Repeated 1 11) is held half32 7 9 true true 3
    ∷ later false false (Repeated 1 11) is held half32 7 9 false true 3
    ∷ later true true (Changed 1 11 one32) is held one32 7 9 true true 3
    ∷ later false false (Changed 1 11 one32) is held one32 7 9 false false 3
    ∷ [])
unfolding later held old button_after
laters = refl

-- what writes no button record leaves it whole, also where it is absent
unwritten :
    Right (
    later false false (Axis 33 11 one32) is old false false
    ∷ first (Axis 33 11 one32) is old true true
    ∷ first Connected is old true true
    ∷ later true false Disconnected is old true false
    ∷ later true false Dropped is old true false
    ∷ [])
unfolding first later held old button_after
unwritten = refl

-- ---- since when it is held (W-206), over a few events, the oldest first

held_after : Bool → ButtonData → List Event → ℕ
held_after known b [] = b.since
held_after known b (e ∷ es) = held_after true (button_after e known b 9) es

-- of a record that was not there
since : List Event → ℕ
since es = held_after false (old true true) es

-- neither a repeat nor a second press moves it; a release does not clear it, and the next press does
sinces :
    Right (
    since (event 5 (Pressed 1 11) ∷ event 9 (Repeated 1 11) ∷ event 12 (Pressed 1 11) ∷ []) is 5
    ∷ since (event 5 (Released 1 11) ∷ []) is 0
    ∷ since (event 7 (Repeated 1 11) ∷ []) is 7
    ∷ since (event 5 (Pressed 1 11) ∷ event 6 (Released 1 11) ∷ []) is 5
    ∷ since (event 5 (Pressed 1 11) ∷ event 6 (Released 1 11) ∷ event 8 (Pressed 1 11) ∷ []) is 8
    ∷ since (event 5 (Changed 1 11 one32) ∷ event 6 (Pressed 1 11) ∷ event 6 (Changed 1 11 one32) ∷ []) is 6
    ∷ since (event 9 (Pressed 1 11) ∷ event 4 (Released 1 11) ∷ event 2 (Pressed 1 11) ∷ []) is 2
    ∷ [])
unfolding since held_after old held button_after
sinces = refl

-- ---- the axis record: "value, stamp and counter together"

axes :
    Right (
    axis_after (event 7 (Axis 33 11 one32)) (record { value = half32; stamp = 1; counter = 2 }) 9
    is record { value = one32; stamp = 7; counter = 9 }
    ∷ [])
unfolding axis_after
axes = refl

-- ---- which record an event writes; Connected, Disconnected and Dropped change no state

eight : List Event
eight =
    map (event 7)
    (Pressed 1 11 ∷ Released 1 11 ∷ Repeated 1 11 ∷ Changed 1 11 one32 ∷ Axis 33 11 one32 ∷ Connected ∷ Disconnected ∷ Dropped ∷ [])

button-writers : map writes_button eight ≡ (true ∷ true ∷ true ∷ true ∷ false ∷ false ∷ false ∷ false ∷ [])
unfolding eight writes_button
button-writers = refl

axis-writers : map writes_axis eight ≡ (false ∷ false ∷ false ∷ false ∷ true ∷ false ∷ false ∷ false ∷ [])
unfolding eight writes_axis
axis-writers = refl

-- ---- reads: "Reading a code looks at axes first"; pressed reads the button record alone; an absent record reads false and 0.0

presses : Right (read_pressed true (old true false) is true ∷ read_pressed true (old false true) is false ∷ read_pressed false (old true false) is false ∷ [])
unfolding read_pressed old held
presses = refl

stick : AxisData
stick = record { value = minus_one32; stamp = 1; counter = 2 }

values :
    Right (
    read_value true stick true (old true false) is minus_one32
    ∷ read_value true stick false (old true false) is minus_one32
    ∷ read_value false stick true (old true false) is half32
    ∷ read_value false stick false (old true false) is zero32
    ∷ [])
unfolding read_value stick old held
values = refl

-- ---- "The counter goes from 2^62-1 to 0"

counter : Right (next_counter 0 is 1 ∷ next_counter 0x3ffffffffffffffe is 0x3fffffffffffffff ∷ next_counter 0x3fffffffffffffff is 0 ∷ [])
unfolding next_counter
counter = refl
