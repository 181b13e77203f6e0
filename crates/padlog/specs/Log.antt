-- What padlog prints for its input: one sheet, then one batch. Definitions only.
use Rattle.std.specs.Prelude.{ℕ, zero, suc, ◌+◌, ◌≤◌, min, ◌≡◌, true, false, cond, List, [], ◌++◌, length, take, drop, eqb, Err, Ok, Result}
use Rattle.std.specs.Float.{binary32}
use Rattle.std.specs.Float.Ieee.{of_bits}
use Rattle.rules.specs.declared.Hub.{Hub}
use Rattle.rules.specs.declared.Registered.{Registered}
use Rattle.rules.specs.declared.PumpAnswer.{PumpAnswer}
use Rattle.rules.specs.declared.PumpAnswer.TheVariants as pump_answer
use Rattle.rules.specs.Forms.{field_of}
use Rattle.rules.specs.Calls.{new_of, register_of}
use Rattle.rules.specs.Pump.{Run, pump_of}
use Rattle.lines.specs.Text.{lines_of, drained_line, stopped_line, sheet_line}
use Rattle.padlog.specs.declared.Tally.{Tally}
use Rattle.rules.specs.declared.Refusal.{Refusal}

-- ---- the input

-- "reads standard input, one sheet and then one batch": the sheet ends where its count says, or with the input
unfoldable pub sheet_end : List ℕ → ℕ
sheet_end input = min (field_of input 0 2 + 2) (length input)

-- ---- how a pump call ends

abbrev pub goes_on : ℕ
goes_on = 0

abbrev pub drained : ℕ
drained = 1

abbrev pub stopped : ℕ
stopped = 2

-- padlog pumps again after Full and Paused
abbrev pub tally_of : PumpAnswer → Tally
tally_of (pump_answer.Drained place events steps) = record { ends = drained; refusal = 0; place = place; events = events; steps = steps }
tally_of (pump_answer.Full place events steps) = record { ends = goes_on; refusal = 0; place = place; events = events; steps = steps }
tally_of (pump_answer.Paused place events steps) = record { ends = goes_on; refusal = 0; place = place; events = events; steps = steps }
tally_of (pump_answer.Refused number place events steps) = record { ends = stopped; refusal = number; place = place; events = events; steps = steps }

-- "The last line is DRAINED and all steps, or STOPPED, refusal and place"
unfoldable pub last_line : Tally → ℕ → List ℕ
last_line t steps = cond (eqb t.ends drained) (drained_line (steps + t.steps)) (stopped_line t.refusal t.place)

-- ---- pumping

-- all the steps that an allowance can hold
abbrev pub allowance : ℕ
allowance = 65535

unfoldable pub pump_all : Hub → List ℕ → ℕ → List ℕ → Run
pump_all h batch place out = pump_of h batch place out allowance

abbrev pub tallied : Run → Tally
tallied r = tally_of r.pumped.answer

-- a call's events, then the last line, or `rest` where padlog goes on
unfoldable pub printed : Run → ℕ → List ℕ → List ℕ
printed r steps rest = lines_of r.out (tallied r).events ++ cond (eqb (tallied r).ends goes_on) rest (last_line (tallied r) steps)

-- at most `left` calls, with the steps of the calls before
unfoldable pub rounds_of : ℕ → Hub → List ℕ → ℕ → List ℕ → ℕ → List ℕ
rounds_of zero h batch place out steps = []
rounds_of (suc left) h batch place out steps =
    printed (pump_all h batch place out) steps
    (rounds_of left (pump_all h batch place out).pumped.hub batch (tallied (pump_all h batch place out)).place (pump_all h batch place out).out
    (steps + (tallied (pump_all h batch place out)).steps))

-- 780 records give at most 3,120 events, which fill the out buffer of 744 four times: eight calls are more than any input takes (Ends)
abbrev pub rounds : ℕ
rounds = 8

-- ---- the program

-- "with thresholds 0.75 and 0.5, Y not reversed, filters and updates on"
unfoldable pub desk_hub : Hub
desk_hub = (new_of (of_bits binary32 0x3f400000) (of_bits binary32 0x3f000000) false true true).hub

abbrev pub log_by : Result ℕ Refusal → Hub → List ℕ → List ℕ → List ℕ
log_by (Ok p) h batch out = rounds_of rounds h batch 0 out 0
log_by (Err e) h batch out = sheet_line e.number

abbrev pub log_with : Registered → List ℕ → List ℕ → List ℕ
log_with r batch out = log_by r.answer r.hub batch out

-- padlog's text for an input, with an out buffer
unfoldable pub log_of : List ℕ → List ℕ → List ℕ
log_of input out = log_with (register_of desk_hub (take (sheet_end input) input)) (drop (sheet_end input) input) out

-- a text stands at the start of a buffer, and this is its length
pub record Told (whole text : List ℕ) (n : ℕ) : Type 0 where
  pub is : take n text ≡ whole
  pub within : n ≤ length text
