-- 01's padlog example as a script: "One axis element 0x00030010, name 39, -1..1, hats 0; values -1 at 100, 1 at 200". What is told of it and what it reads are
-- both computed by the checker.
use Rattle.std.specs.Prelude.{ℕ, true, false, [], ◌∷◌, ◌++◌, ◌≡◌, refl, ℤ, pos, negsuc}
use Rattle.std.specs.Float.Ieee as Ieee
use Rattle.std.specs.Float.{binary32}
use Rattle.rules.specs.declared.RawRecord.{RawRecord}
use Rattle.numbers.specs.Scale.{axis_scaled_of}
use Rattle.rules.specs.Names.{code_up, code_left, code_right, is_button, is_axis}
use Rattle.rules.specs.Forms.{kind_axis}
use Rattle.rules.specs.Sheets.{hats_of, count_of, element_of}
use Rattle.rules.specs.Places.{listed_row}
use Rattle.rules.specs.Pump.{pump_of}
use Rattle.rules.specs.Calls.{new_of, register_as}
use Rattle.rules.specs.Queries.{pressed_by_code, value_by_code}
use Rattle.theory_calls.specs.Machines.{sheet, move, room, allowed}
use Rattle.theory_history.specs.Rule.{records_from, Reads, held, hat_value, is_direction}
use Rattle.theory_demand3.specs.Demand3.{Settings, register, pump, Script, new, ◌then◌, play, records_of, events_of, sheet_read, Rule, says, silent, direction_reads, element_reads, rule_reads}

-- "thresholds 0.75 and 0.5, Y not reversed"
unfoldable pub padlog : Settings
padlog = record { pressed = Ieee.of_bits binary32 0x3f400000; released = Ieee.of_bits binary32 0x3f000000; reversed = false }

-- the hat is pushed to the left
unfoldable pub pushed : Script
pushed = new padlog then register false sheet then pump (move (negsuc 0) 100) 0 room allowed

-- and turned over
unfoldable pub example : Script
example = new padlog then register false sheet then pump (move (negsuc 0) 100 ++ move (pos 1) 200) 0 room allowed

abbrev pub hasaxis : ℤ → ℕ → RawRecord
hasaxis value time = record { kind = kind_axis; pad = 0; code = 0x00030010; value = value; time = time }

-- the records taken, the newest first
pub taken : records_of pump_of example ≡ hasaxis (pos 1) 200 ∷ hasaxis (negsuc 0) 100 ∷ []
unfolding example padlog sheet move records_of new_of register_as pump_of records_from Ieee.of_bits Ieee.lt Ieee.le Ieee.eq Ieee.ne Ieee.of_int Ieee.sub Ieee.mul Ieee.div Ieee.neg Ieee.add
taken = refl

pub six : events_of pump_of example ≡ 6
unfolding example padlog sheet move events_of new_of register_as pump_of Ieee.of_bits Ieee.lt Ieee.le Ieee.eq Ieee.ne Ieee.of_int Ieee.sub Ieee.mul Ieee.div Ieee.neg Ieee.add
six = refl

-- what the rule says, from those and the sheet
abbrev pub rule : ℕ → Rule
rule c = rule_reads padlog (sheet_read sheet) 0 c (hasaxis (pos 1) 200 ∷ hasaxis (negsuc 0) 100 ∷ [])

pub rule-right : rule code_right ≡ says (held true)
unfolding padlog sheet rule_reads sheet_read hats_of count_of element_of direction_reads hat_value axis_scaled_of listed_row is_direction Ieee.of_bits Ieee.lt Ieee.le Ieee.eq Ieee.ne Ieee.of_int Ieee.sub Ieee.mul Ieee.div Ieee.neg Ieee.add
rule-right = refl

rule-left : rule code_left ≡ says (held false)
unfolding padlog sheet rule_reads sheet_read hats_of count_of element_of direction_reads hat_value axis_scaled_of listed_row is_direction Ieee.of_bits Ieee.lt Ieee.le Ieee.eq Ieee.ne Ieee.of_int Ieee.sub Ieee.mul Ieee.div Ieee.neg Ieee.add
rule-left = refl

rule-up : rule code_up ≡ says (held false)
unfolding padlog sheet rule_reads sheet_read hats_of count_of element_of direction_reads hat_value axis_scaled_of listed_row is_direction Ieee.of_bits Ieee.lt Ieee.le Ieee.eq Ieee.ne Ieee.of_int Ieee.sub Ieee.mul Ieee.div Ieee.neg Ieee.add
rule-up = refl

pub rule-pushed : rule_reads padlog (sheet_read sheet) 0 code_left (hasaxis (negsuc 0) 100 ∷ []) ≡ says (held true)
unfolding padlog sheet rule_reads sheet_read hats_of count_of element_of direction_reads hat_value axis_scaled_of listed_row is_direction Ieee.of_bits Ieee.lt Ieee.le Ieee.eq Ieee.ne Ieee.of_int Ieee.sub Ieee.mul Ieee.div Ieee.neg Ieee.add
rule-pushed = refl

-- of a stick's value 01's rule says nothing
rule-axis : rule 0x00030010 ≡ silent
unfolding padlog sheet rule_reads element_reads sheet_read hats_of count_of element_of is_direction is_button is_axis
rule-axis = refl

-- ---- what is read

reads-right : Reads (play pump_of example) 0 code_right (held true)
unfolding example padlog sheet move play new_of register_as pump_of pressed_by_code value_by_code Ieee.of_bits Ieee.lt Ieee.le Ieee.eq Ieee.ne Ieee.of_int Ieee.sub Ieee.mul Ieee.div Ieee.neg Ieee.add
reads-right = record { pressed = refl; value = refl }

reads-left : Reads (play pump_of example) 0 code_left (held false)
unfolding example padlog sheet move play new_of register_as pump_of pressed_by_code value_by_code Ieee.of_bits Ieee.lt Ieee.le Ieee.eq Ieee.ne Ieee.of_int Ieee.sub Ieee.mul Ieee.div Ieee.neg Ieee.add
reads-left = record { pressed = refl; value = refl }

reads_up : Reads (play pump_of example) 0 code_up (held false)
unfolding example padlog sheet move play new_of register_as pump_of pressed_by_code value_by_code Ieee.of_bits Ieee.lt Ieee.le Ieee.eq Ieee.ne Ieee.of_int Ieee.sub Ieee.mul Ieee.div Ieee.neg Ieee.add
reads_up = record { pressed = refl; value = refl }

-- before it is turned over
pushed-left : Reads (play pump_of pushed) 0 code_left (held true)
unfolding pushed padlog sheet move play new_of register_as pump_of pressed_by_code value_by_code Ieee.of_bits Ieee.lt Ieee.le Ieee.eq Ieee.ne Ieee.of_int Ieee.sub Ieee.mul Ieee.div Ieee.neg Ieee.add
pushed-left = record { pressed = refl; value = refl }
