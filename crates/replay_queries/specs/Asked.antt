-- What an operation that leaves the hub as it is answers, by its number and its payload: Repeat, the counter, the queries and the deadzone calculation of
-- the table of `oracle/README.md`. `Nothing` for any other number, and for a payload of another length. Definitions only.
use Rattle.std.specs.Prelude.{ℕ, cond, ◌&&◌, ◌||◌, List, length, get_or, eqb, leb, Float}
use Rattle.std.specs.Float.{binary32}
use Rattle.std.specs.Float.Ieee.{of_bits, is_nan}
use Rattle.numbers.specs.Tilt.{tilted_of}
use Rattle.rules.specs.declared.Hub.{Hub}
use Rattle.rules.specs.Forms.{field_of}
use Rattle.rules.specs.Repeat.{repeat_of}
use Rattle.rules.specs.Queries.{pressed_by_code, pressed_by_name, connected_of, value_by_code, value_by_name, threshold_by_code}
use Rattle.rules.specs.Queries.{button_by_code, button_by_name, axis_by_code, axis_by_name, name_by_code, code_by_name, down_of, lowest_pressed, old_of}
use Rattle.replay_answers.specs.declared.Asked.{Asked}
use Rattle.replay_answers.specs.declared.Asked.TheVariants as asked
use Rattle.replay_answers.specs.Opcodes as opcodes

-- where the payload is this long
abbrev pub sized : List ℕ → ℕ → Asked → Asked
sized payload size answer = cond (eqb (length payload) size) answer asked.Nothing

-- ---- 7: after 8, every 8, now 8

unfoldable pub repeated : Hub → List ℕ → Asked
repeated h payload =
    sized payload 24 (asked.Repeat (repeat_of h (field_of payload 0 8) (field_of payload 8 8) (field_of payload 16 8)))

-- ---- 9, 22 and 23: what the head has

-- pad 1
unfoldable pub stands : Hub → List ℕ → Asked
stands h payload = sized payload 1 (asked.Stands (connected_of h (get_or payload 0 0)))

unfoldable pub of_head : Hub → ℕ → List ℕ → Asked
of_head h opcode payload =
    cond (eqb opcode opcodes.counter) (asked.Counter h.counter)
    (cond (eqb opcode opcodes.connected) (stands h payload)
    (cond (eqb opcode opcodes.waiting) (asked.Waiting h.waiting) asked.Nothing))

-- ---- 11 to 21 by a code: pad 1, code 4

-- what the state has for it
unfoldable pub state_by_code : Hub → ℕ → ℕ → ℕ → Asked
state_by_code h opcode p code =
    cond (eqb opcode opcodes.pressed_by_code) (asked.Truth (pressed_by_code h p code))
    (cond (eqb opcode opcodes.value_by_code) (asked.Value (value_by_code h p code))
    (cond (eqb opcode opcodes.button_by_code) (asked.Button (button_by_code h p code))
    (cond (eqb opcode opcodes.axis_by_code) (asked.Axis (axis_by_code h p code)) asked.Nothing)))

-- what the sheet has, else the state
unfoldable pub by_code : Hub → ℕ → ℕ → ℕ → Asked
by_code h opcode p code =
    cond (eqb opcode opcodes.name_of_code) (asked.Name (name_by_code h p code))
    (cond (eqb opcode opcodes.threshold) (asked.Threshold (threshold_by_code h p code)) (state_by_code h opcode p code))

-- ---- 11 to 21 by a name: pad 1, name 1

unfoldable pub by_name : Hub → ℕ → ℕ → ℕ → Asked
by_name h opcode p name =
    cond (eqb opcode opcodes.pressed_by_name) (asked.Truth (pressed_by_name h p name))
    (cond (eqb opcode opcodes.value_by_name) (asked.Value (value_by_name h p name))
    (cond (eqb opcode opcodes.button_by_name) (asked.Button (button_by_name h p name))
    (cond (eqb opcode opcodes.axis_by_name) (asked.Axis (axis_by_name h p name))
    (cond (eqb opcode opcodes.code_of_name) (asked.Code (code_by_name h p name)) asked.Nothing))))

-- ---- 38, 39: what is down on a pad, and its lowest pressed code; pad 1

unfoldable pub down : Hub → List ℕ → Asked
down h payload = sized payload 1 (asked.Down (down_of h (get_or payload 0 0)))

unfoldable pub lowest : Hub → List ℕ → Asked
lowest h payload = sized payload 1 (asked.Code (lowest_pressed h (get_or payload 0 0)))

-- ---- 44: whether a pad is old; pad 1

unfoldable pub old : Hub → List ℕ → Asked
old h payload = sized payload 1 (asked.Truth (old_of h (get_or payload 0 0)))

-- one of the three, else what the head has
unfoldable pub by_pad : Hub → ℕ → List ℕ → Asked
by_pad h opcode payload =
    cond (eqb opcode opcodes.down) (down h payload)
    (cond (eqb opcode opcodes.lowest) (lowest h payload)
    (cond (eqb opcode opcodes.old) (old h payload) (of_head h opcode payload)))

-- ---- 41: the deadzone calculation and which of the three it was; x 4, y 4, threshold 4 (float bits, no NaN)

unfoldable pub calculated : Float → Float → Float → Asked
calculated x y threshold =
    cond (is_nan x || (is_nan y || is_nan threshold)) asked.Nothing (asked.Pair (tilted_of x y threshold))

abbrev pub float_at : List ℕ → ℕ → Float
float_at payload at = of_bits binary32 (field_of payload at 4)

unfoldable pub pair : List ℕ → Asked
pair payload = sized payload 12 (calculated (float_at payload 0) (float_at payload 4) (float_at payload 8))

-- ---- 42: since when a button is held; pad 1, code 4

unfoldable pub since : Hub → List ℕ → Asked
since h payload = sized payload 5 (asked.Since (button_by_code h (get_or payload 0 0) (field_of payload 1 4)))

-- ---- any of them

-- 11 to 21: the payload's length says whether it goes by a code or by a name
unfoldable pub queried : Hub → ℕ → List ℕ → Asked
queried h opcode payload =
    cond (eqb (length payload) 5) (by_code h opcode (get_or payload 0 0) (field_of payload 1 4))
    (sized payload 2 (by_name h opcode (get_or payload 0 0) (get_or payload 1 0)))

unfoldable pub asked_of : Hub → ℕ → List ℕ → Asked
asked_of h opcode payload =
    cond (eqb opcode opcodes.repeat) (repeated h payload)
    (cond (eqb opcode opcodes.since) (since h payload)
    (cond (eqb opcode opcodes.pair) (pair payload)
    (cond (leb opcodes.pressed_by_code opcode && leb opcode opcodes.threshold) (queried h opcode payload) (by_pad h opcode payload))))
