-- What an operation that sets a desk up answers, and the hub after it, by its number and its payload: new, register, register_archived and rename of the table
-- of `oracle/README.md`. Any other number, and a payload too short or too long, is `Nothing` and leaves the hub. Definitions only.
use Rattle.std.specs.Prelude.{ℕ, ◌/◌, ◌%◌, Bool, true, false, cond, ◌||◌, List, length, get_or, drop, eqb, ltb, Float}
use Rattle.std.specs.Float.{binary32}
use Rattle.std.specs.Float.Ieee.{of_bits}
use Rattle.rules.specs.declared.Hub.{Hub}
use Rattle.rules.specs.declared.Answered.{Answered}
use Rattle.rules.specs.declared.Registered.{Registered}
use Rattle.rules.specs.Forms.{field_of}
use Rattle.rules.specs.Calls.{new_of, register_as, rename_of}
use Rattle.replay_answers.specs.declared.Changed.TheVariants as changed
use Rattle.replay_answers.specs.Opcodes as opcodes
use Rattle.replay_answers.specs.Told.{ToldHub, told_of}

-- ---- 1, new: pressed 4, released 4 (float bits), flags 1

abbrev pub threshold_at : List ℕ → ℕ → Float
threshold_at payload at = of_bits binary32 (field_of payload at 4)

-- 1 Y reversed, 2 filters on, 4 updates on
abbrev pub flag_of : List ℕ → ℕ → Bool
flag_of payload flag = eqb (get_or payload 8 0 / flag % 2) 1

abbrev pub begun : Answered → ToldHub
begun r = told_of r.hub (changed.Begun r.answer)

unfoldable pub begun_of : Hub → List ℕ → ToldHub
begun_of h payload =
    cond (eqb (length payload) 9)
    (begun (new_of (threshold_at payload 0) (threshold_at payload 4) (flag_of payload 1) (flag_of payload 2) (flag_of payload 4)))
    (told_of h changed.Nothing)

-- ---- 2, register, and 43, register_archived: the sheet

abbrev pub registered : Registered → ToldHub
registered r = told_of r.hub (changed.Registered r.answer)

-- whether it is archived
unfoldable pub registered_of : Bool → Hub → List ℕ → ToldHub
registered_of archived h sheet = registered (register_as archived h sheet)

-- one of the two
unfoldable pub by_sheet : Hub → ℕ → List ℕ → ToldHub
by_sheet h opcode sheet =
    cond (eqb opcode opcodes.register) (registered_of false h sheet)
    (cond (eqb opcode opcodes.register_archived) (registered_of true h sheet) (told_of h changed.Nothing))

-- ---- 3, rename: pad 1, the names

abbrev pub renamed : Answered → ToldHub
renamed r = told_of r.hub (changed.Renamed r.answer)

unfoldable pub renamed_of : Hub → List ℕ → ToldHub
renamed_of h payload = cond (ltb (length payload) 1) (told_of h changed.Nothing) (renamed (rename_of h (get_or payload 0 0) (drop 1 payload)))

-- ---- any of them

unfoldable pub sets_up : ℕ → Bool
sets_up opcode =
    eqb opcode opcodes.new || (eqb opcode opcodes.register || (eqb opcode opcodes.register_archived || eqb opcode opcodes.rename))

unfoldable pub set_up_of : Hub → ℕ → List ℕ → ToldHub
set_up_of h opcode payload =
    cond (eqb opcode opcodes.new) (begun_of h payload)
    (cond (eqb opcode opcodes.rename) (renamed_of h payload) (by_sheet h opcode payload))
