-- The public calls: new, register, rename, update, insert_event and the counter.
use Rattle.std.specs.Prelude.{ℕ, zero, suc, ◌≡◌, refl, true, false, List, [], ◌∷◌, take, replicate, Err, Ok}
use Rattle.std.specs.Float.Ieee as Ieee
use Rattle.numbers.specs.Constants.{one32}
use Rattle.rules.specs.declared.Hub.{Hub}
use Rattle.rules.specs.declared.Event.{Event}
use Rattle.rules.specs.declared.EventType.TheVariants.{Pressed, Changed, Axis, Connected, Disconnected}
use Rattle.rules.specs.declared.PumpAnswer.TheVariants.{Drained}
use Rattle.rules.specs.Names.{code_up, code_right, dpad_right}
use Rattle.rules.specs.Sheets.{sheet_bytes}
use Rattle.rules.specs.Hub.{place_in, has_button_at, has_axis_at, axis_at}
use Rattle.rules.specs.Places.{place_of}
use Rattle.rules.specs.Calls.{new_of, register_as, register_of, register_archived_of, rename_of, update_of, insert_of, inc_of, reset_of}
use Rattle.rules.specs.Examples.Table.{◌is◌, Right, button, event, half32, three_quarters32}
use Rattle.rules.specs.Examples.Desk.{bare, desk, south, stick_x, hat_x, raw, press, disconnect, pump, after, tells, told, events_bytes, given}
use Rattle.rules.specs.Refusals.{numbered}

-- ---- new

new-answers :
    Right ((new_of three_quarters32 half32 false true true).answer is Ok tt ∷ (new_of half32 half32 false true true).answer is Err (numbered 1) ∷ [])
unfolding new_of Ieee.of_bits Ieee.lt Ieee.le
new-answers = refl

-- a refused `new` hands back a hub that filters and updates nothing
new-refused :
    Right ((new_of half32 half32 true true true).hub.filters is false ∷ (new_of half32 half32 true true true).hub.updates is false ∷ [])
unfolding new_of Ieee.of_bits Ieee.lt Ieee.le
new-refused = refl

-- what `new` is given is what the hub keeps
kept-thresholds :
    Right (
    (new_of three_quarters32 half32 true false true).hub.pressed is three_quarters32
    ∷ (new_of three_quarters32 half32 true false true).hub.released is half32
    ∷ [])
unfolding new_of Ieee.of_bits Ieee.lt Ieee.le
kept-thresholds = refl

kept-marks :
    Right (
    (new_of three_quarters32 half32 true false true).hub.reversed is true
    ∷ (new_of three_quarters32 half32 true false true).hub.filters is false
    ∷ (new_of three_quarters32 half32 true false true).hub.updates is true
    ∷ [])
unfolding new_of Ieee.of_bits Ieee.lt Ieee.le
kept-marks = refl

-- ---- register and register_archived: "Pads 0..3, registered in that order"; 2: "four pads stand", before 3

-- n pads of no elements
blank : ℕ → Hub
blank zero = bare true true
blank (suc n) = (register_of (blank n) (sheet_bytes 0 [])).hub

registers :
    Right (
    (register_of (blank 0) (sheet_bytes 0 [])).answer is Ok 0
    ∷ (register_of (blank 3) (sheet_bytes 0 [])).answer is Ok 3
    ∷ (register_of (blank 4) (sheet_bytes 0 [])).answer is Err (numbered 2)
    ∷ (register_of (blank 4) []).answer is Err (numbered 2)
    ∷ (register_of (blank 0) []).answer is Err (numbered 3)
    ∷ (register_of (blank 0) (sheet_bytes 16 [])).answer is Err (numbered 4)
    ∷ (register_of (blank 0) (sheet_bytes 0 (button 1 7 ∷ button 2 7 ∷ []))).answer is Err (numbered 5)
    ∷ [])
unfolding blank bare register_as sheet_bytes
registers = refl

-- W-212: the archived call takes what `register` refuses by 29, pads of both are numbered together, and partial hats do not convert
archives :
    Right (
    (register_of (blank 1) (sheet_bytes 7 [])).answer is Err (numbered 29)
    ∷ (register_archived_of (blank 1) (sheet_bytes 7 [])).answer is Ok 1
    ∷ (register_archived_of (blank 1) (sheet_bytes 15 [])).answer is Ok 1
    ∷ (register_of (register_archived_of (blank 1) (sheet_bytes 7 [])).hub (sheet_bytes 0 [])).answer is Ok 2
    ∷ (register_archived_of (blank 4) (sheet_bytes 7 [])).answer is Err (numbered 2)
    ∷ (register_of (blank 4) (sheet_bytes 7 [])).answer is Err (numbered 2)
    ∷ [])
unfolding blank bare register_as sheet_bytes
archives = refl

kept-hats :
    Right ((register_archived_of (blank 1) (sheet_bytes 7 [])).hub.hats is (0 ∷ 7 ∷ 0 ∷ 0 ∷ []) ∷ (register_archived_of (blank 1) (sheet_bytes 15 [])).hub.hats is (0 ∷ 15 ∷ 0 ∷ 0 ∷ []) ∷ [])
unfolding blank bare register_as sheet_bytes
kept-hats = refl

partial-unconverted : (register_archived_of (blank 1) (sheet_bytes 7 [])).hub.converts ≡ true ∷ false ∷ false ∷ false ∷ []
unfolding blank bare register_as sheet_bytes
partial-unconverted = refl

-- what the plain call takes, the archived one takes as it does
archived-alike : (register_archived_of (blank 1) (sheet_bytes 15 [])).hub ≡ (register_of (blank 1) (sheet_bytes 15 [])).hub
unfolding blank bare register_as sheet_bytes
archived-alike = refl

-- "A refusal leaves the hub .. untouched"
partial-refused : (register_of (blank 1) (sheet_bytes 7 [])).hub ≡ blank 1
unfolding blank bare register_as sheet_bytes
partial-refused = refl

register-refused : (register_of (blank 1) (sheet_bytes 16 [])).hub ≡ blank 1
unfolding blank bare register_as sheet_bytes
register-refused = refl

-- a pad stands connected from its registration, and the next ones do not
stands : Right ((blank 2).connected is (true ∷ true ∷ false ∷ false ∷ []) ∷ (blank 2).converts is (true ∷ true ∷ false ∷ false ∷ []) ∷ [])
unfolding blank bare register_as sheet_bytes
stands = refl

-- whether a pad converts is told by its own places: pad 1 has a button named DPadRight, and pad 0 has none; and the other way round
own-right : List ℕ
own-right = sheet_bytes 0 (button 1 dpad_right ∷ [])

converts :
    Right (
    (register_of (blank 1) own-right).hub.converts is (true ∷ false ∷ false ∷ false ∷ [])
    ∷ (register_of (register_of (blank 0) own-right).hub (sheet_bytes 0 [])).hub.converts is (false ∷ true ∷ false ∷ false ∷ [])
    ∷ (rename_of (register_of (blank 1) own-right).hub 1 (255 ∷ [])).hub.newconverts is (false ∷ true ∷ false ∷ false ∷ [])
    ∷ [])
unfolding own-right blank bare register_as rename_of sheet_bytes
converts = refl

-- a further pad leaves the state of those before it
pressed-before : Hub
pressed-before = given (desk true true) (event 5 (Pressed 1 south) ∷ event 5 (Axis 33 stick_x one32) ∷ [])

keeps-state :
    Right (
    has_button_at (register_of pressed-before (sheet_bytes 0 [])).hub (place_in pressed-before 0 south) is true
    ∷ has_axis_at (register_of pressed-before (sheet_bytes 0 [])).hub (place_in pressed-before 0 stick_x) is true
    ∷ [])
unfolding pressed-before given desk register_as sheet_bytes place_of
keeps-state = refl

-- ---- rename: "Rename: 6, 7, 3, 4, 5"

-- South's code becomes East, and DPadX stays; the others have no name
list : List ℕ
list = 2 ∷ 255 ∷ 255 ∷ 255 ∷ 255 ∷ 39 ∷ []

renames :
    Right (
    (rename_of (desk true true) 0 list).answer is Ok tt
    ∷ (rename_of (desk true true) 1 []).answer is Err (numbered 6)
    ∷ (rename_of (after (desk true true) (disconnect 5)) 0 []).answer is Err (numbered 7)
    ∷ (rename_of (desk true true) 0 (0 ∷ [])).answer is Err (numbered 3)
    ∷ (rename_of (desk true true) 0 (7 ∷ 7 ∷ 0 ∷ 255 ∷ 255 ∷ 255 ∷ [])).answer is Err (numbered 4)
    ∷ (rename_of (desk true true) 0 (7 ∷ 7 ∷ 255 ∷ 255 ∷ 255 ∷ 255 ∷ [])).answer is Err (numbered 5)
    ∷ [])
unfolding list desk after raw rename_of
renames = refl

rename-refused : (rename_of (blank 1) 0 (0 ∷ [])).hub ≡ blank 1
unfolding blank bare register_as sheet_bytes rename_of
rename-refused = refl

-- the i-th name goes to the i-th element, past the unlisted directions between them; the sheet's own names stay beside
renamed-places :
    Right (
    take 10 (rename_of (desk true true) 0 list).hub.renames is (2 ∷ 255 ∷ 255 ∷ 255 ∷ 255 ∷ 255 ∷ 255 ∷ 255 ∷ 255 ∷ 39 ∷ [])
    ∷ take 10 (rename_of (desk true true) 0 list).hub.names is (1 ∷ 255 ∷ 255 ∷ 255 ∷ 255 ∷ 255 ∷ 33 ∷ 34 ∷ 8 ∷ 39 ∷ [])
    ∷ [])
unfolding list desk rename_of
renamed-places = refl

-- "The new names hold at once .. state, flags and waiting events stay": Changed waits under the old name, a press after it has the new one
half-pumped : Hub
half-pumped = (pump (desk true true) (press south 5) 0 (replicate 22 0) 1).pumped.hub

at_once :
    tells (rename_of half-pumped 0 list).hub (press south 6) 3
    ≡ told (Drained 21 3 3) (event 5 (Changed 1 south one32) ∷ event 6 (Pressed 2 south) ∷ event 6 (Changed 2 south one32) ∷ [])
unfolding half-pumped list pump tells told desk raw rename_of
at_once = refl

-- ---- update: "8, 6, 9, 11, 12", then the record of the event's code. "an event may also carry a direction code", of an axis too; AXIS on a button's code,
-- PRESSED on an axis's code and a name other than the code's own are accepted

one : Event → List ℕ
one e = events_bytes (e ∷ [])

updates :
    Right (
    (update_of (desk true true) (one (event 5 (Pressed 1 south)))).answer is Ok tt
    ∷ (update_of (desk true true) (one (event 5 (Pressed 0 code_up)))).answer is Ok tt
    ∷ (update_of (desk true true) (one (event 5 (Axis 40 south one32)))).answer is Ok tt
    ∷ (update_of (desk true true) (one (event 5 (Axis 33 code_up one32)))).answer is Ok tt
    ∷ (update_of (desk true true) (one (event 5 (Pressed 2 stick_x)))).answer is Ok tt
    ∷ (update_of (desk true true) []).answer is Err (numbered 8)
    ∷ (update_of (desk true true) (one (event 5 (Pressed 33 0)))).answer is Err (numbered 8)
    ∷ (update_of (bare true true) (one (event 5 (Pressed 1 0)))).answer is Err (numbered 6)
    ∷ (update_of (desk true true) (one (event 5 (Pressed 1 0)))).answer is Err (numbered 9)
    ∷ (update_of (desk true true) (one (event 0x4000000000000000 (Axis 33 stick_x (Ieee.of_bits Ieee.binary32 0x3f800001))))).answer is Err (numbered 11)
    ∷ (update_of (desk true true) (one (event 0x4000000000000000 Connected))).answer is Err (numbered 12)
    ∷ [])
unfolding one bare desk events_bytes update_of
updates = refl

-- Connected and Disconnected given to `update` change no state and not the connected flag, and a refused event changes nothing
unchanged :
    Right (
    (update_of (blank 1) (one (event 5 Connected))).hub is blank 1
    ∷ (update_of (blank 1) (one (event 5 Disconnected))).hub is blank 1
    ∷ (update_of (blank 1) (one (event 5 (Pressed 1 0)))).hub is blank 1
    ∷ [])
unfolding one blank bare register_as sheet_bytes events_bytes update_of
unchanged = refl

-- an axis event on a button's code makes an axis record there, beside the button record; also with updates off
moved : Hub
moved = (update_of (desk true false) (one (event 5 (Axis 40 south one32)))).hub

moved-record : axis_at moved (place_in moved 0 south) ≡ record { value = one32; stamp = 5; counter = 0 }
unfolding moved one desk events_bytes update_of place_of
moved-record = refl

moved_marks : Right (has_axis_at moved (place_in moved 0 south) is true ∷ has_button_at moved (place_in moved 0 south) is false ∷ [])
unfolding moved one desk events_bytes update_of place_of
moved_marks = refl

-- ---- insert_event: 13 counts all waiting events, not only the caller's

inserting : ℕ → Hub → Hub
inserting zero h = h
inserting (suc n) h = inserting n (insert_of h (one (event 5 Connected))).hub

inserts :
    Right (
    (insert_of (inserting 15 (desk true true)) (one (event 5 Connected))).answer is Ok tt
    ∷ (insert_of (inserting 16 (desk true true)) (one (event 5 Connected))).answer is Err (numbered 13)
    ∷ (insert_of (inserting 15 half-pumped) (one (event 5 Connected))).answer is Err (numbered 13)
    ∷ (insert_of (inserting 16 (desk true true)) []).answer is Err (numbered 8)
    ∷ [])
unfolding inserting half-pumped one pump desk raw events_bytes insert_of
inserts = refl

insert-refused : (insert_of (blank 1) (one (event 5 (Pressed 1 0)))).hub ≡ blank 1
unfolding one blank bare register_as sheet_bytes events_bytes insert_of
insert-refused = refl

-- an inserted hat event is converted as a record's is
inserted-hat :
    tells (insert_of (desk true true) (one (event 5 (Axis 39 hat_x one32)))).hub [] 2
    ≡ told (Drained 0 2 2) (event 5 (Pressed dpad_right code_right) ∷ event 5 (Changed dpad_right code_right one32) ∷ [])
unfolding one tells told desk events_bytes insert_of
inserted-hat = refl

-- ---- the counter: `inc`, `reset_counter`

counters : Right ((inc_of (inc_of (bare true true))).counter is 2 ∷ (reset_of (inc_of (bare true true))).counter is 0 ∷ [])
unfolding bare inc_of reset_of
counters = refl
