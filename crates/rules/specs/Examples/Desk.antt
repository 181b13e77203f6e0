-- A desk for the examples that need a whole hub: its pad, records of that pad, and what a pump of them leaves.
use Rattle.std.specs.Prelude.{ℕ, ◌*◌, Bool, true, false, List, [], ◌∷◌, ◌++◌, take, replicate, ℤ, pos, negsuc}
use Rattle.std.specs.Float.Ieee as Ieee
use Rattle.rules.specs.declared.Hub.{Hub}
use Rattle.rules.specs.declared.Event.{Event}
use Rattle.rules.specs.declared.SheetElement.{SheetElement}
use Rattle.rules.specs.declared.PumpAnswer.{PumpAnswer}
use Rattle.rules.specs.Forms.{record_bytes}
use Rattle.rules.specs.Sheets.{sheet_bytes}
use Rattle.rules.specs.Events.{event_bytes}
use Rattle.rules.specs.Pump.{Run, pump_of}
use Rattle.rules.specs.Calls.{new_of, register_as, register_of, update_of}
use Rattle.rules.specs.Examples.Table.{button, axis, half32, three_quarters32}

-- ---- the pad

abbrev pub south : ℕ
south = 0x00010130

abbrev pub plain : ℕ
plain = 0x00010131

abbrev pub stick_x : ℕ
stick_x = 0x00030000

abbrev pub stick_y : ℕ
stick_y = 0x00030001

abbrev pub trigger : ℕ
trigger = 0x00030002

abbrev pub hat_x : ℕ
hat_x = 0x00030010

-- South, a button with no name, a stick of -4..4 and a trigger of 0..4, each with a threshold of 0.5, and DPadX; hats 0, so the pad converts
unfoldable pub elements : List SheetElement
elements =
    button south 1
    ∷ button plain 255
    ∷ axis stick_x 33 (negsuc 3) (pos 4) 2
    ∷ axis stick_y 34 (negsuc 3) (pos 4) 2
    ∷ axis trigger 8 (pos 0) (pos 4) 1
    ∷ axis hat_x 39 (negsuc 0) (pos 1) 0
    ∷ []

unfoldable pub sheet : List ℕ
unfolding elements sheet_bytes
sheet = sheet_bytes 0 elements

-- a hub of no pads, thresholds 0.75 and 0.5, Y not reversed, with filters and updates on or off
unfoldable pub bare : Bool → Bool → Hub
unfolding new_of Ieee.of_bits Ieee.lt Ieee.le
bare filters updates = (new_of three_quarters32 half32 false filters updates).hub

unfoldable pub desk : Bool → Bool → Hub
unfolding bare sheet register_as Ieee.of_int Ieee.sub Ieee.mul Ieee.div
desk filters updates = (register_of (bare filters updates) sheet).hub

-- two pads of that sheet
unfoldable pub two_pads : Hub
unfolding desk sheet register_as
two_pads = (register_of (desk true true) sheet).hub

-- ---- records of pad 0

unfoldable pub raw : ℕ → ℕ → ℤ → ℕ → List ℕ
unfolding record_bytes
raw kind code value time = record_bytes (record { kind = kind; pad = 0; code = code; value = value; time = time })

abbrev pub press : ℕ → ℕ → List ℕ
press code time = raw 1 code (pos 0) time

abbrev pub release : ℕ → ℕ → List ℕ
release code time = raw 2 code (pos 0) time

abbrev pub move : ℕ → ℤ → ℕ → List ℕ
move code value time = raw 3 code value time

abbrev pub connect : ℕ → List ℕ
connect time = raw 4 0 (pos 0) time

abbrev pub disconnect : ℕ → List ℕ
disconnect time = raw 5 0 (pos 0) time

-- ---- pumps

-- the pump, its arithmetic open
unfoldable pub pump : Hub → List ℕ → ℕ → List ℕ → ℕ → Run
unfolding pump_of Ieee.of_bits Ieee.to_bits Ieee.lt Ieee.le Ieee.eq Ieee.ne Ieee.of_int Ieee.sub Ieee.mul Ieee.div Ieee.neg Ieee.add
pump h batch place out allowance = pump_of h batch place out allowance

-- from the batch's beginning, with room for eight events and an allowance of 50
unfoldable pub pumped : Hub → List ℕ → Run
unfolding pump
pumped h batch = pump h batch 0 (replicate 176 0) 50

unfoldable pub after : Hub → List ℕ → Hub
unfolding pumped
after h batch = (pumped h batch).pumped.hub

-- its answer, and the bytes of as many events as are listed
pub record Told : Type 0 where
  pub answer : PumpAnswer
  pub bytes : List ℕ

unfoldable pub events_bytes : List Event → List ℕ
unfolding event_bytes Ieee.of_bits Ieee.to_bits
events_bytes [] = []
events_bytes (e ∷ es) = event_bytes e ++ events_bytes es

unfoldable pub tells : Hub → List ℕ → ℕ → Told
unfolding pumped
tells h batch n = record { answer = (pumped h batch).pumped.answer; bytes = take (22 * n) (pumped h batch).out }

unfoldable pub told : PumpAnswer → List Event → Told
unfolding events_bytes
told answer es = record { answer = answer; bytes = events_bytes es }

-- ---- a hub whose state is set by events given to `update`

unfoldable pub given : Hub → List Event → Hub
unfolding events_bytes update_of
given h [] = h
given h (e ∷ es) = given (update_of h (events_bytes (e ∷ []))).hub es
