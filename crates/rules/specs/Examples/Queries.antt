-- The queries: refusals, the fallback to `to_nec`, axes before buttons, and records that are absent.
use Rattle.std.specs.Prelude.{refl, true, false, [], ◌∷◌, Err, None, Ok, Some}
use Rattle.numbers.specs.Constants.{zero32, one32, minus_one32}
use Rattle.rules.specs.declared.Hub.{Hub}
use Rattle.rules.specs.declared.EventType.TheVariants.{Pressed, Axis}
use Rattle.rules.specs.Names.{code_left, dpad_left}
use Rattle.rules.specs.Queries.{pressed_by_code, pressed_by_name, connected_of, value_by_code, value_by_name, threshold_by_code, button_by_code, button_by_name, axis_by_code, axis_by_name, name_by_code, code_by_name}
use Rattle.rules.specs.Examples.Table.{◌is◌, Right, event, half32}
use Rattle.rules.specs.Examples.Desk.{desk, south, plain, stick_x, trigger, hat_x, given}
use Rattle.rules.specs.Refusals.{numbered}

-- South and the unnamed button are pressed, and Left; LeftStickX stands at -1.0; and South's code has an axis record too, of 0.5
busy : Hub
busy =
    given (desk true true)
    (event 5 (Pressed 1 south)
    ∷ event 6 (Pressed 0 plain)
    ∷ event 7 (Pressed dpad_left code_left)
    ∷ event 8 (Axis 33 stick_x minus_one32)
    ∷ event 9 (Axis 33 south half32)
    ∷ [])

-- ---- pressed: by code it reads the button record alone; "`is_pressed` by a name that no element has falls back to `to_nec`"

-- South, the unnamed 0x131 as East, Left, West that nothing has; LeftTrigger2 is an element's name, and its record is absent
presses :
    Right (
    pressed_by_code busy 0 south is Ok true
    ∷ pressed_by_code busy 0 code_left is Ok true
    ∷ pressed_by_code busy 0 0x00010132 is Ok false
    ∷ pressed_by_code busy 1 south is Err (numbered 6)
    ∷ pressed_by_name busy 0 1 is Ok true
    ∷ pressed_by_name busy 0 2 is Ok true
    ∷ pressed_by_name busy 0 dpad_left is Ok true
    ∷ pressed_by_name busy 0 4 is Ok false
    ∷ pressed_by_name busy 0 8 is Ok false
    ∷ pressed_by_name busy 0 0 is Err (numbered 16)
    ∷ pressed_by_name busy 0 33 is Err (numbered 16)
    ∷ pressed_by_name busy 1 0 is Err (numbered 6)
    ∷ connected_of busy 0 is Ok true
    ∷ connected_of busy 1 is Err (numbered 6)
    ∷ [])
unfolding busy desk given pressed_by_code pressed_by_name connected_of
presses = refl

-- ---- values: "Reading a code looks at axes first"; "A query by a code not known reads false or 0.0"

values :
    Right (
    value_by_code busy 0 south is Ok (Some half32)
    ∷ value_by_code busy 0 plain is Ok (Some one32)
    ∷ value_by_code busy 0 stick_x is Ok (Some minus_one32)
    ∷ value_by_code busy 0 0x00010132 is Ok (Some zero32)
    ∷ value_by_code busy 1 south is Err (numbered 6)
    ∷ value_by_name busy 0 33 is Ok (Some minus_one32)
    ∷ value_by_name busy 0 34 is Ok (Some zero32)
    ∷ value_by_name busy 0 40 is Ok (Some zero32)
    ∷ value_by_name busy 0 1 is Err (numbered 16)
    ∷ value_by_name busy 0 32 is Err (numbered 16)
    ∷ value_by_name busy 1 32 is Err (numbered 6)
    ∷ [])
unfolding busy desk given value_by_code value_by_name
values = refl

-- "Axis elements only: deadzone / (max - min) * 2"
thresholds :
    Right (
    threshold_by_code busy 0 stick_x is Ok (Some half32)
    ∷ threshold_by_code busy 0 hat_x is Ok (Some zero32)
    ∷ threshold_by_code busy 0 south is Ok None
    ∷ threshold_by_code busy 0 code_left is Ok None
    ∷ threshold_by_code busy 1 stick_x is Err (numbered 6)
    ∷ [])
unfolding busy desk given threshold_by_code
thresholds = refl

-- ---- records: no fallback by name, and "an absent record needs an answer of its own"

buttons :
    Right (
    button_by_code busy 0 plain is Ok (Some (record { value = one32; stamp = 6; counter = 0; pressed = true; repeating = false; since = 6 }))
    ∷ button_by_code busy 0 trigger is Ok None
    ∷ button_by_code busy 0 0x00010132 is Ok None
    ∷ button_by_code busy 1 plain is Err (numbered 6)
    ∷ button_by_name busy 0 1 is Ok (Some (record { value = one32; stamp = 5; counter = 0; pressed = true; repeating = false; since = 5 }))
    ∷ button_by_name busy 0 2 is Ok None
    ∷ button_by_name busy 0 8 is Ok None
    ∷ button_by_name busy 0 33 is Err (numbered 16)
    ∷ [])
unfolding busy desk given button_by_code button_by_name
buttons = refl

axes :
    Right (
    axis_by_code busy 0 south is Ok (Some (record { value = half32; stamp = 9; counter = 0 }))
    ∷ axis_by_code busy 0 plain is Ok None
    ∷ axis_by_code busy 1 south is Err (numbered 6)
    ∷ axis_by_name busy 0 33 is Ok (Some (record { value = minus_one32; stamp = 8; counter = 0 }))
    ∷ axis_by_name busy 0 39 is Ok None
    ∷ axis_by_name busy 0 40 is Ok None
    ∷ axis_by_name busy 0 1 is Err (numbered 16)
    ∷ [])
unfolding busy desk given axis_by_code axis_by_name
axes = refl

-- ---- names and codes

numbers :
    Right (
    name_by_code busy 0 trigger is Ok (Some 8)
    ∷ name_by_code busy 0 plain is Ok None
    ∷ name_by_code busy 0 code_left is Ok None
    ∷ name_by_code busy 1 trigger is Err (numbered 6)
    ∷ code_by_name busy 0 8 is Ok (Some trigger)
    ∷ code_by_name busy 0 39 is Ok (Some hat_x)
    ∷ code_by_name busy 0 2 is Ok None
    ∷ code_by_name busy 0 255 is Err (numbered 16)
    ∷ [])
unfolding busy desk given name_by_code code_by_name
numbers = refl
