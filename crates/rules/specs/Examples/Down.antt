-- W-213, what is down: the bits, the counts, what moves them and what does not, and the two queries.
use Rattle.std.specs.Prelude.{◌+◌, ◌^◌, ◌≡◌, refl, true, false, List, [], ◌∷◌, ◌++◌, replicate, pos, negsuc, Err, None, Ok, Some}
use Rattle.numbers.specs.Constants.{zero32, one32}
use Rattle.rules.specs.declared.Hub.{Hub}
use Rattle.rules.specs.declared.Event.{Event}
use Rattle.rules.specs.declared.EventType.TheVariants.{Pressed, Released, Repeated, Changed, Axis, Disconnected}
use Rattle.rules.specs.Names.{code_left, dpad_left}
use Rattle.rules.specs.Down.{has_bit, put_bit, lowest_of, count_after, bits_after, counts_after}
use Rattle.rules.specs.Calls.{register_as, register_of, rename_of}
use Rattle.rules.specs.Queries.{down_of, lowest_pressed, pad_down}
use Rattle.rules.specs.Examples.Table.{◌is◌, Right, event, three_quarters32}
use Rattle.rules.specs.Examples.Desk.{desk, two_pads, sheet, south, plain, trigger, hat_x, raw, press, move, connect, disconnect, pump, after, given}
use Rattle.rules.specs.Refusals.{numbered}

-- ---- bits: 5 has bits 0 and 2

bits :
    Right (
    has_bit 5 0 is true
    ∷ has_bit 5 1 is false
    ∷ has_bit 5 2 is true
    ∷ has_bit 5 63 is false
    ∷ [])
unfolding has_bit
bits = refl

put :
    Right (
    put_bit 5 1 true is 7
    ∷ put_bit 5 1 false is 5
    ∷ put_bit 5 2 true is 5
    ∷ put_bit 5 2 false is 1
    ∷ put_bit (2 ^ 52) 51 true is (2 ^ 52 + 2 ^ 51)
    ∷ [])
unfolding put_bit
put = refl

-- the 52nd place is the last; a bit above it is no place's
lowest :
    Right (
    lowest_of 0 is 52
    ∷ lowest_of 1 is 0
    ∷ lowest_of 40 is 3
    ∷ lowest_of (2 ^ 51) is 51
    ∷ lowest_of (2 ^ 52) is 52
    ∷ [])
unfolding lowest_of
lowest = refl

counts : Right (count_after 0 true is 1 ∷ count_after 51 true is 52 ∷ count_after 52 true is 52 ∷ count_after 2 false is 1 ∷ count_after 0 false is 0 ∷ [])
unfolding count_after
counts = refl

-- only where a record begins or ceases to read pressed; place 53 is the second of pad 1, and place 208 is no pad's
followed :
    Right (
    bits_after (1 ∷ 1 ∷ 0 ∷ 0 ∷ []) 53 false true is (1 ∷ 3 ∷ 0 ∷ 0 ∷ [])
    ∷ bits_after (1 ∷ 3 ∷ 0 ∷ 0 ∷ []) 53 true false is (1 ∷ 1 ∷ 0 ∷ 0 ∷ [])
    ∷ bits_after (1 ∷ 1 ∷ 0 ∷ 0 ∷ []) 53 true true is (1 ∷ 1 ∷ 0 ∷ 0 ∷ [])
    ∷ bits_after (1 ∷ 1 ∷ 0 ∷ 0 ∷ []) 0 false false is (1 ∷ 1 ∷ 0 ∷ 0 ∷ [])
    ∷ bits_after (1 ∷ 1 ∷ 0 ∷ 0 ∷ []) 208 false true is (1 ∷ 1 ∷ 0 ∷ 0 ∷ [])
    ∷ counts_after (1 ∷ 1 ∷ 0 ∷ 0 ∷ []) 53 false true is (1 ∷ 2 ∷ 0 ∷ 0 ∷ [])
    ∷ counts_after (1 ∷ 1 ∷ 0 ∷ 0 ∷ []) 53 true false is (1 ∷ 0 ∷ 0 ∷ 0 ∷ [])
    ∷ counts_after (1 ∷ 1 ∷ 0 ∷ 0 ∷ []) 53 true true is (1 ∷ 1 ∷ 0 ∷ 0 ∷ [])
    ∷ [])
unfolding bits_after counts_after
followed = refl

-- ---- what moves the count, and what does not: one event more at a time

told : List Event → Hub
told es = given (desk true true) es

-- "a press of a pressed button" counts once; a release counts down, and of a button that is not pressed not
presses :
    Right (
    down_of (told []) 0 is Ok (pad_down 0 false)
    ∷ down_of (told (event 5 (Pressed 1 south) ∷ [])) 0 is Ok (pad_down 1 false)
    ∷ down_of (told (event 5 (Pressed 1 south) ∷ event 6 (Pressed 1 south) ∷ [])) 0 is Ok (pad_down 1 false)
    ∷ down_of (told (event 5 (Pressed 1 south) ∷ event 6 (Pressed 0 plain) ∷ [])) 0 is Ok (pad_down 2 false)
    ∷ down_of (told (event 5 (Pressed 1 south) ∷ event 6 (Pressed 0 plain) ∷ event 7 (Released 1 south) ∷ [])) 0 is Ok (pad_down 1 false)
    ∷ down_of (told (event 5 (Released 1 south) ∷ event 6 (Released 1 south) ∷ [])) 0 is Ok (pad_down 0 false)
    ∷ [])
unfolding told given desk down_of
presses = refl

-- a repeat presses where no record stood, and nowhere else; a value presses nothing, nor does it release
others :
    Right (
    down_of (told (event 5 (Repeated 1 south) ∷ [])) 0 is Ok (pad_down 1 false)
    ∷ down_of (told (event 5 (Released 1 south) ∷ event 6 (Repeated 1 south) ∷ [])) 0 is Ok (pad_down 0 false)
    ∷ down_of (told (event 5 (Pressed 1 south) ∷ event 6 (Repeated 1 south) ∷ [])) 0 is Ok (pad_down 1 false)
    ∷ down_of (told (event 5 (Changed 8 trigger three_quarters32) ∷ [])) 0 is Ok (pad_down 0 false)
    ∷ down_of (told (event 5 (Pressed 1 south) ∷ event 6 (Changed 1 south zero32) ∷ [])) 0 is Ok (pad_down 1 false)
    ∷ down_of (told (event 5 (Axis 33 south one32) ∷ [])) 0 is Ok (pad_down 0 false)
    ∷ down_of (told (event 5 (Pressed 1 south) ∷ event 6 Disconnected ∷ [])) 0 is Ok (pad_down 1 false)
    ∷ [])
unfolding told given desk down_of
others = refl

-- "whether any axis element reads pressed": a trigger, or any other axis that an event pressed; a direction that the sheet does not list is no element, and counts
axes :
    Right (
    down_of (told (event 5 (Pressed 8 trigger) ∷ [])) 0 is Ok (pad_down 1 true)
    ∷ down_of (told (event 5 (Pressed 0 hat_x) ∷ event 6 (Pressed 1 south) ∷ [])) 0 is Ok (pad_down 2 true)
    ∷ down_of (told (event 5 (Pressed 8 trigger) ∷ event 6 (Pressed 1 south) ∷ event 7 (Released 8 trigger) ∷ [])) 0 is Ok (pad_down 1 false)
    ∷ down_of (told (event 5 (Pressed dpad_left code_left) ∷ [])) 0 is Ok (pad_down 1 false)
    ∷ [])
unfolding told given desk down_of
axes = refl

-- a hat at -1 and a trigger at 0.75, as records: Left is down, and the trigger, an axis element
pumped :
    Right (
    down_of (after (desk true true) (move hat_x (negsuc 0) 5)) 0 is Ok (pad_down 1 false)
    ∷ down_of (after (desk true true) (move hat_x (negsuc 0) 5 ++ move trigger (pos 3) 6)) 0 is Ok (pad_down 2 true)
    ∷ down_of (after (desk true true) (move hat_x (negsuc 0) 5 ++ move hat_x (pos 0) 6)) 0 is Ok (pad_down 0 false)
    ∷ down_of (after (desk true false) (press south 5)) 0 is Ok (pad_down 0 false)
    ∷ down_of (given (desk true false) (event 5 (Pressed 1 south) ∷ [])) 0 is Ok (pad_down 1 false)
    ∷ [])
unfolding after given desk raw down_of
pumped = refl

-- it is kept in the step: a pump that stops after one has counted the press, though Changed still waits
stopped : down_of (pump (desk true true) (press south 5) 0 (replicate 44 0) 1).pumped.hub 0 ≡ Ok (pad_down 1 false)
unfolding pump desk raw down_of
stopped = refl

-- ---- Connected and registration leave nothing down, Disconnected and a rename all; another pad's stays

held : Hub
held = given (desk true true) (event 5 (Pressed 1 south) ∷ event 5 (Pressed 8 trigger) ∷ [])

kept :
    Right (
    down_of (after held (disconnect 6)) 0 is Ok (pad_down 2 true)
    ∷ down_of (after held (disconnect 6 ++ connect 7)) 0 is Ok (pad_down 0 false)
    ∷ down_of (after held (connect 7 ++ press south 8)) 0 is Ok (pad_down 1 false)
    ∷ down_of (rename_of held 0 (255 ∷ 255 ∷ 255 ∷ 255 ∷ 255 ∷ 255 ∷ [])).hub 0 is Ok (pad_down 2 true)
    ∷ down_of (register_of held sheet).hub 0 is Ok (pad_down 2 true)
    ∷ down_of (register_of held sheet).hub 1 is Ok (pad_down 0 false)
    ∷ [])
unfolding held given after desk sheet raw register_as rename_of down_of
kept = refl

both : Hub
both = given two_pads (record { pad = 1; time = 5; event = Pressed 1 south } ∷ event 5 (Pressed 0 plain) ∷ [])

other-pad :
    Right (
    down_of both 0 is Ok (pad_down 1 false)
    ∷ down_of both 1 is Ok (pad_down 1 false)
    ∷ down_of (after both (connect 7)) 0 is Ok (pad_down 0 false)
    ∷ down_of (after both (connect 7)) 1 is Ok (pad_down 1 false)
    ∷ [])
unfolding both given two_pads after raw down_of
other-pad = refl

-- the bits by themselves: South has the first place of pad 1
anew : (after both (connect 7)).down ≡ 0 ∷ 1 ∷ 0 ∷ 0 ∷ []
unfolding both given two_pads after raw
anew = refl

-- ---- the lowest pressed code: the directions, listed or not, stand between the buttons and the axes

lowest-code :
    Right (
    lowest_pressed (told []) 0 is Ok None
    ∷ lowest_pressed (told (event 5 (Pressed 8 trigger) ∷ [])) 0 is Ok (Some trigger)
    ∷ lowest_pressed (told (event 5 (Pressed 8 trigger) ∷ event 6 (Pressed 0 plain) ∷ [])) 0 is Ok (Some plain)
    ∷ lowest_pressed (told (event 5 (Pressed 1 south) ∷ event 6 (Pressed 0 plain) ∷ [])) 0 is Ok (Some south)
    ∷ lowest_pressed (told (event 5 (Pressed 8 trigger) ∷ event 6 (Pressed dpad_left code_left) ∷ [])) 0 is Ok (Some code_left)
    ∷ lowest_pressed (told (event 5 (Pressed 1 south) ∷ event 6 (Released 1 south) ∷ [])) 0 is Ok None
    ∷ lowest_pressed both 1 is Ok (Some south)
    ∷ [])
unfolding told both given two_pads desk lowest_pressed
lowest-code = refl

-- ---- "pad not registered": 6 alone

refusals :
    Right (
    down_of held 1 is Err (numbered 6)
    ∷ down_of held 255 is Err (numbered 6)
    ∷ down_of (desk true true) 0 is Ok (pad_down 0 false)
    ∷ [])
unfolding held given desk down_of
refusals = refl

code-refusals : Right (lowest_pressed held 1 is Err (numbered 6) ∷ lowest_pressed (after held (disconnect 6)) 0 is Ok (Some south) ∷ [])
unfolding held given after desk raw lowest_pressed
code-refusals = refl
