-- Steps, as pumps of a few records: what is taken, filtered, queued and stored; Connected and Disconnected.
use Rattle.std.specs.Prelude.{ℕ, zero, suc, ◌+◌, ◌≡◌, refl, Bool, true, false, List, [], ◌∷◌, ◌++◌, get_or, replicate, pos, negsuc, None, Ok, Some}
use Rattle.std.specs.Float.{binary32}
use Rattle.std.specs.Float.Ieee.{of_bits}
use Rattle.numbers.specs.Constants.{zero32, one32, minus_one32}
use Rattle.rules.specs.declared.Hub.{Hub}
use Rattle.rules.specs.declared.SheetElement.{SheetElement}
use Rattle.rules.specs.declared.EventType.TheVariants.{Pressed, Changed, Axis, Disconnected, Dropped}
use Rattle.rules.specs.declared.PumpAnswer.TheVariants.{Drained}
use Rattle.rules.specs.Names.{code_up, code_right, dpad_right, dpad_x}
use Rattle.rules.specs.Sheets.{sheet_bytes}
use Rattle.rules.specs.Calls.{register_as, register_of, insert_of, inc_of, rename_of}
use Rattle.rules.specs.Hub.{converts_in, converts_now, hats_now, has_button_at, has_axis_at}
use Rattle.rules.specs.Step.{head_after}
use Rattle.rules.specs.Queries.{pressed_by_code, connected_of, button_by_code, axis_by_code, name_by_code}
use Rattle.rules.specs.Examples.Table.{◌is◌, Right, button, axis, event, half32, three_quarters32}
use Rattle.rules.specs.Examples.Desk.{bare, desk, two_pads, south, plain, stick_x, stick_y, trigger, hat_x, raw, press, move, connect, disconnect, pump, after, given, tells, told, events_bytes}

-- ---- what is taken and queued

-- queued events pass the filters: a trigger at 0.75 is pressed, and its Changed comes out of the deadzone as 0.5
trigger-pressed :
    tells (desk true true) (move trigger (pos 3) 7) 2 ≡ told (Drained 21 2 2) (event 7 (Pressed 8 trigger) ∷ event 7 (Changed 8 trigger half32) ∷ [])
unfolding tells told desk raw
trigger-pressed = refl

-- with updates off nothing is stored, and a trigger at or above pressed gives Pressed every time; with updates on once
pressed-every-time :
    Right (
    tells (desk false false) (move trigger (pos 3) 7 ++ move trigger (pos 4) 8) 4
    is told (Drained 42 4 4)
    (event 7 (Pressed 8 trigger)
    ∷ event 7 (Changed 8 trigger three_quarters32)
    ∷ event 8 (Pressed 8 trigger)
    ∷ event 8 (Changed 8 trigger one32)
    ∷ [])
    ∷ tells (desk false true) (move trigger (pos 3) 7 ++ move trigger (pos 4) 8) 3
    is told (Drained 42 3 3)
    (event 7 (Pressed 8 trigger) ∷ event 7 (Changed 8 trigger three_quarters32) ∷ event 8 (Changed 8 trigger one32) ∷ [])
    ∷ [])
unfolding tells told desk raw
pressed-every-time = refl

-- with the filters off a hat stays an axis
unfiltered : tells (desk false true) (move hat_x (negsuc 0) 7) 1 ≡ told (Drained 21 1 1) (event 7 (Axis dpad_x hat_x minus_one32) ∷ [])
unfolding tells told desk raw
unfiltered = refl

-- LeftStickX goes to 1.0, LeftStickY to 0.25, and LeftStickX back to 0.25, where both lie in the dead zone: the clearing event of LeftStickY waits, keeps the
-- time of its cause and passes the filters itself
cleared :
    tells (desk true true) (move stick_x (pos 4) 5 ++ (move stick_y (pos 1) 6 ++ move stick_x (pos 1) 7)) 4
    ≡ told (Drained 63 4 4)
    (event 5 (Axis 33 stick_x one32)
    ∷ event 6 (Axis 34 stick_y (of_bits binary32 0x3e800000))
    ∷ event 7 (Axis 33 stick_x zero32)
    ∷ event 7 (Axis 34 stick_y zero32)
    ∷ [])
unfolding tells told desk raw
cleared = refl

-- with updates off the state still has LeftStickY's 0.25, and the flag alone ends the clearing events
cleared-once :
    tells (given (desk true false) (event 1 (Axis 34 stick_y (of_bits binary32 0x3e800000)) ∷ []))
    (move stick_y (pos 4) 5 ++ (move stick_x (pos 1) 6 ++ move stick_x (pos 1) 7))
    2
    ≡ told (Drained 63 2 4) (event 5 (Axis 34 stick_y one32) ∷ event 6 (Axis 34 stick_y zero32) ∷ [])
unfolding given tells told desk raw
cleared-once = refl

-- a button element named DPadX gives that axis 1.0, which a converting pad makes Right
hat-button :
    tells (register_of (bare true true) (sheet_bytes 0 (button south 39 ∷ []))).hub (press south 5) 2
    ≡ told (Drained 21 2 2) (event 5 (Pressed dpad_right code_right) ∷ event 5 (Changed dpad_right code_right one32) ∷ [])
unfolding bare register_as sheet_bytes tells told raw
hat-button = refl

-- a record keeps the counter of its event's step, and its time
counted : button_by_code (after (inc_of (inc_of (desk true true))) (press south 7)) 0 south
    ≡ Ok (Some (record { value = one32; stamp = 7; counter = 2; pressed = true; repeating = false; since = 7 }))
unfolding after desk raw inc_of button_by_code
counted = refl

-- with updates off nothing is stored
unstored : button_by_code (after (desk true false) (press south 7)) 0 south ≡ Ok None
unfolding after desk raw button_by_code
unstored = refl

-- while something waits, no record is looked at: Disconnected stands behind South's two events, and two steps do not reach it
not-looked-at : connected_of (pump (desk true true) (press south 5 ++ disconnect 6) 0 (replicate 44 0) 2).pumped.hub 0 ≡ Ok true
unfolding pump desk raw connected_of
not-looked-at = refl

-- the ring's front goes on by one where something waited, around the end too
heads : Right (head_after 5 0 is 5 ∷ head_after 5 1 is 6 ∷ head_after 63 2 is 0 ∷ [])
unfolding head_after
heads = refl

-- ---- inserted events

inserted : Bool → Hub
inserted filters = (insert_of (desk filters true) (events_bytes (event 7 Dropped ∷ []))).hub

-- DROPPED is a step; it is skipped with filters on and written with filters off
inserted-dropped :
    Right (tells (inserted true) [] 0 is told (Drained 0 0 1) [] ∷ tells (inserted false) [] 1 is told (Drained 0 1 1) (event 7 Dropped ∷ []) ∷ [])
unfolding inserted tells told desk insert_of events_bytes
inserted-dropped = refl

-- Disconnected that was inserted does not disconnect: the flag follows taken records
inserted-disconnected : connected_of (after (insert_of (desk true true) (events_bytes (event 7 Disconnected ∷ []))).hub []) 0 ≡ Ok true
unfolding after desk insert_of events_bytes connected_of
inserted-disconnected = refl

-- ---- Disconnected: "Disconnected clears nothing"; records of a disconnected pad are served

parted : Hub
parted = after (given (desk true true) (event 5 (Pressed 1 south) ∷ [])) (disconnect 6)

parting :
    tells (desk true true) (disconnect 6 ++ press plain 7) 3
    ≡ told (Drained 42 3 3) (event 6 Disconnected ∷ event 7 (Pressed 0 plain) ∷ event 7 (Changed 0 plain one32) ∷ [])
unfolding tells told desk raw
parting = refl

-- "connected but from a taken Disconnected record to the next Connected"
parted-reads : Right (pressed_by_code parted 0 south is Ok true ∷ connected_of parted 0 is Ok false ∷ [])
unfolding parted given after desk raw pressed_by_code connected_of
parted-reads = refl

-- ---- Connected: "fresh state and deadzone flags"

-- South is pressed and LeftStickX has a value, then Connected
joined : Hub
joined = after (given (desk true true) (event 5 (Pressed 1 south) ∷ event 6 (Axis 33 stick_x one32) ∷ [])) (disconnect 7 ++ connect 8)

joined-reads : Right (pressed_by_code joined 0 south is Ok false ∷ connected_of joined 0 is Ok true ∷ [])
unfolding joined given after desk raw pressed_by_code connected_of
joined-reads = refl

joined-button : button_by_code joined 0 south ≡ Ok None
unfolding joined given after desk raw button_by_code
joined-button = refl

joined-axis : axis_by_code joined 0 stick_x ≡ Ok None
unfolding joined given after desk raw axis_by_code
joined-axis = refl

-- the flag of LeftStickX is up before, and down after, also with updates off
flags :
    Right (
    get_or (after (desk true false) (move stick_x (pos 4) 6)).flags 2 false is true
    ∷ get_or (after (desk true false) (move stick_x (pos 4) 6 ++ connect 7)).flags 2 true is false
    ∷ [])
unfolding after desk raw
flags = refl

-- another pad's state stays
pressed_both : Hub
pressed_both = after (given two_pads (record { pad = 1; time = 5; event = Pressed 1 south } ∷ event 5 (Pressed 1 south) ∷ [])) (connect 7)

other-pad : Right (pressed_by_code pressed_both 1 south is Ok true ∷ pressed_by_code pressed_both 0 south is Ok false ∷ [])
unfolding pressed_both given two_pads after raw pressed_by_code
other-pad = refl

-- the whole pad: 48 elements and the four directions fill its 52 places, and the first and the last lose their marks
first-button : ℕ
first-button = 0x00010230

last-button : ℕ
last-button = first-button + 47

rising : ℕ → ℕ → List SheetElement
rising zero code = []
rising (suc n) code = button code 255 ∷ rising n (code + 1)

full-pad : Hub
full-pad = (register_of (bare true true) (sheet_bytes 0 (rising 48 first-button))).hub

full-given : Hub
full-given = given full-pad (event 5 (Pressed 0 code_up) ∷ event 5 (Pressed 0 last-button) ∷ event 5 (Axis 33 last-button one32) ∷ [])

full-cleared :
    Right (
    has_button_at full-given 0 is true
    ∷ has_button_at full-given 51 is true
    ∷ has_axis_at full-given 51 is true
    ∷ has_button_at (after full-given (connect 6)) 0 is false
    ∷ has_button_at (after full-given (connect 6)) 51 is false
    ∷ has_axis_at (after full-given (connect 6)) 51 is false
    ∷ [])
unfolding full-given full-pad rising last-button first-button given after bare register_as sheet_bytes raw
full-cleared = refl

-- and the last of its six deadzone flags, RightStickY's
right-stick : Hub
right-stick = after (register_of (bare true true) (sheet_bytes 0 (axis stick_y 37 (negsuc 3) (pos 4) 2 ∷ []))).hub (move stick_y (pos 4) 6)

last-flag : Right (get_or right-stick.flags 5 false is true ∷ get_or (after right-stick (connect 7)).flags 5 true is false ∷ [])
unfolding right-stick after bare register_as sheet_bytes raw
last-flag = refl

-- ---- "and the names and hats of the registered sheet (gilrs loads the mapping afresh, so a rename is lost)"

-- hats are 15 and South's code is named DPadRight: the pad converts, until a rename makes its hats 0
hatted : Hub
hatted = (register_of (bare true true) (sheet_bytes 15 (button south 19 ∷ axis hat_x 39 (negsuc 0) (pos 1) 0 ∷ []))).hub

renamed : Hub
renamed = (rename_of hatted 0 (19 ∷ 40 ∷ [])).hub

converts :
    Right (converts_now hatted 0 is true ∷ converts_now renamed 0 is false ∷ converts_now (after renamed (connect 7)) 0 is true ∷ [])
unfolding hatted renamed bare register_as sheet_bytes rename_of after raw converts_in
converts = refl

hats : Right (hats_now hatted 0 is 15 ∷ hats_now renamed 0 is 0 ∷ hats_now (after renamed (connect 7)) 0 is 15 ∷ [])
unfolding hatted renamed bare register_as sheet_bytes rename_of after raw hats_now
hats = refl

names :
    Right (
    name_by_code renamed 0 hat_x is Ok (Some 40)
    ∷ name_by_code (after renamed (disconnect 7)) 0 hat_x is Ok (Some 40)
    ∷ name_by_code (after renamed (connect 7)) 0 hat_x is Ok (Some 39)
    ∷ [])
unfolding hatted renamed bare register_as sheet_bytes rename_of after raw name_by_code
names = refl
