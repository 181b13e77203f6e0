-- Document 01's padlog example, end to end, as a run of the definitions: one axis element 0x00030010, name 39, -1..1, hats 0; values -1 at 100, 1 at 200.
-- Computed by the checker.
use Rattle.std.specs.Prelude.{ℕ, ◌≡◌, refl, true, false, List, [], ◌∷◌, ◌++◌, replicate, pos, negsuc}
use Rattle.std.specs.Float.Ieee as Ieee
use Rattle.std.specs.Float.{binary32}
use Rattle.std.specs.Float.Ieee.{of_bits}
use Rattle.numbers.specs.Constants.{zero32, one32}
use Rattle.rules.specs.declared.Hub.{Hub}
use Rattle.rules.specs.declared.EventType.{EventType}
use Rattle.rules.specs.declared.EventType.TheVariants.{Pressed, Released, Changed}
use Rattle.rules.specs.declared.PumpAnswer.TheVariants.{Drained}
use Rattle.rules.specs.Names.{code_left, code_right, dpad_left, dpad_right, dpad_x}
use Rattle.rules.specs.Forms.{record_bytes, kind_axis}
use Rattle.rules.specs.Sheets.{sheet_bytes, element_axis}
use Rattle.rules.specs.Events.{event_bytes}
use Rattle.rules.specs.Pump.{Run, pump_of}
use Rattle.rules.specs.Calls.{new_of, register_as, register_of}

sheet : List ℕ
sheet = sheet_bytes 0 (record { code = 0x00030010; kind = element_axis; name = dpad_x; min = negsuc 0; max = pos 1; deadzone = 0xffffffff } ∷ [])

batch : List ℕ
batch =
    record_bytes (record { kind = kind_axis; pad = 0; code = 0x00030010; value = negsuc 0; time = 100 })
    ++ record_bytes (record { kind = kind_axis; pad = 0; code = 0x00030010; value = pos 1; time = 200 })

-- padlog's hub: "thresholds 0.75 and 0.5, Y not reversed, filters and updates on"
desk : Hub
desk = (register_of (new_of (of_bits binary32 0x3f400000) (of_bits binary32 0x3f000000) false true true).hub sheet).hub

run : Run
run = pump_of desk batch 0 (replicate 132 0) 100

-- the events that padlog prints, as they are written
at : ℕ → EventType → List ℕ
at time t = event_bytes (record { pad = 0; time = time; event = t })

lines : List ℕ
lines =
    at 100 (Pressed dpad_left code_left)
    ++ (at 100 (Changed dpad_left code_left one32)
    ++ (at 200 (Released dpad_left code_left)
    ++ (at 200 (Changed dpad_right code_right one32) ++ (at 200 (Pressed dpad_right code_right) ++ at 200 (Changed dpad_left code_left zero32)))))

-- "DRAINED 6"
drains : run.pumped.answer ≡ Drained 42 6 6
unfolding run desk batch sheet pump_of register_as new_of sheet_bytes record_bytes Ieee.of_bits Ieee.lt Ieee.le Ieee.eq Ieee.ne Ieee.of_int Ieee.sub Ieee.mul Ieee.div Ieee.neg Ieee.add
drains = refl

writes : run.out ≡ lines
unfolding run desk batch sheet lines at pump_of register_as new_of sheet_bytes record_bytes event_bytes Ieee.of_bits Ieee.to_bits Ieee.lt Ieee.le Ieee.eq Ieee.ne Ieee.of_int Ieee.sub Ieee.mul Ieee.div Ieee.neg Ieee.add
writes = refl
