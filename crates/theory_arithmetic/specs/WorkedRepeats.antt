-- How often a held button repeats until now, when each repeat that is answered is handed back to the hub: 01's `repeat` and `update` in turn.
-- Definitions only.
use Rattle.std.specs.Prelude.{ℕ, zero, suc, true, false, List, [], ◌∷◌, pos, Err, None, Ok, Option, Result, Some}
use Rattle.std.specs.Float.Ieee as Ieee
use Rattle.std.specs.Float.{binary32}
use Rattle.rules.specs.declared.Hub.{Hub}
use Rattle.rules.specs.declared.Event.{Event}
use Rattle.rules.specs.declared.EventType.TheVariants.{Pressed}
use Rattle.rules.specs.declared.Refusal.{Refusal}
use Rattle.rules.specs.Sheets.{sheet_bytes, element_button}
use Rattle.rules.specs.Events.{event_bytes}
use Rattle.rules.specs.Calls.{new_of, register_as, register_of, update_of}
use Rattle.rules.specs.Repeat.{repeat_of}

-- a pad of one button, named South
abbrev pub button : ℕ
button = 0x00010130

abbrev pub south : ℕ
south = 1

unfoldable pub sheet : List ℕ
unfolding sheet_bytes
sheet = sheet_bytes 0 (record { code = button; kind = element_button; name = south; min = pos 0; max = pos 0; deadzone = 0 } ∷ [])

unfoldable pub desk : Hub
unfolding new_of register_as sheet Ieee.of_bits Ieee.lt Ieee.le
desk = (register_of (new_of (Ieee.of_bits binary32 0x3f400000) (Ieee.of_bits binary32 0x3f000000) false true true).hub sheet).hub

-- the event told to the hub
unfoldable pub told : Hub → Event → Hub
unfolding update_of event_bytes
told h e = (update_of h (event_bytes e)).hub

-- the button is pressed at `since`, and not released
unfoldable pub held : ℕ → Hub
unfolding told desk
held since = told desk (record { pad = 0; time = since; event = Pressed south button })

-- one more where an event is due, and what `rest` says of the hub that was told of it
abbrev pub counted : Hub → (Hub → ℕ) → Result (Option Event) Refusal → ℕ
counted h rest (Ok (Some e)) = suc (rest (told h e))
counted h rest (Ok None) = 0
counted h rest (Err e) = 0

-- at most `limit` are counted
unfoldable pub repeats : ℕ → Hub → ℕ → ℕ → ℕ → ℕ
unfolding told repeat_of
repeats zero h after every now = 0
repeats (suc limit) h after every now = counted h (λ g. repeats limit g after every now) (repeat_of h after every now)
