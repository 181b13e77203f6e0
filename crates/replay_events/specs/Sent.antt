-- What an operation that sends events or counts answers, the hub after it and every byte of the out buffer, by its number and its payload: pump, pump with its
-- report, update, insert, inc and reset counter of the table of `oracle/README.md`. Any other number, and a pump's payload that is too short, is `Nothing` and
-- leaves both. Definitions only.
use Rattle.std.specs.Prelude.{ℕ, min, Bool, cond, ◌||◌, List, ◌++◌, length, take, drop, eqb, ltb}
use Rattle.numbers.specs.declared.Tilt.{Tilt}
use Rattle.rules.specs.declared.Hub.{Hub}
use Rattle.rules.specs.declared.Answered.{Answered}
use Rattle.rules.specs.declared.PumpAnswer.{PumpAnswer}
use Rattle.rules.specs.Forms.{field_of}
use Rattle.rules.specs.Calls.{update_of, insert_of, inc_of, reset_of}
use Rattle.rules.specs.Pump.{Run, pump_of}
use Rattle.rules.specs.Tilt.{pump_tilt}
use Rattle.replay_answers.specs.declared.Changed.{Changed}
use Rattle.replay_answers.specs.declared.Changed.TheVariants as changed
use Rattle.replay_answers.specs.Opcodes as opcodes
use Rattle.replay_answers.specs.Told.{ToldHub, told_of}

-- the hub with the answer, and the out buffer
pub record Sent : Type 0 where
  pub told : ToldHub
  pub out : List ℕ

abbrev pub sent : List ℕ → ToldHub → Sent
sent out told = record { told = told; out = out }

-- ---- 4 and 40, pump: place 4, out size 4, allowance 2, the batch

abbrev pub pumps : ℕ → Bool
pumps opcode = eqb opcode opcodes.pump || eqb opcode opcodes.report

-- 40 reports: beside each answer it tells the tilt
abbrev pub said_of : Bool → PumpAnswer → Tilt → Changed
said_of reports a t = cond reports (changed.Reported a t) (changed.Pumped a)

-- the run's bytes, and the rest of the buffer as it was
abbrev pub pumped : Bool → List ℕ → Run → Tilt → Sent
pumped reports rest r t = sent (r.out ++ rest) (told_of r.pumped.hub (said_of reports r.pumped.answer t))

-- a size over the buffer's is the buffer's
abbrev pub size_of : List ℕ → List ℕ → ℕ
size_of payload out = min (field_of payload 4 4) (length out)

unfoldable pub pumped_of : Hub → Bool → List ℕ → List ℕ → Sent
pumped_of h reports payload out =
    cond (ltb (length payload) 10) (sent out (told_of h changed.Nothing))
    (pumped reports (drop (size_of payload out) out)
    (pump_of h (drop 10 payload) (field_of payload 0 4) (take (size_of payload out) out) (field_of payload 8 2))
    (pump_tilt h (drop 10 payload) (field_of payload 0 4) (take (size_of payload out) out) (field_of payload 8 2)))

-- ---- 5, 6, update and insert: the event

abbrev pub updated : Answered → ToldHub
updated r = told_of r.hub (changed.Updated r.answer)

abbrev pub inserted : Answered → ToldHub
inserted r = told_of r.hub (changed.Inserted r.answer)

-- ---- 8, 10, inc and reset counter: the counter after them

abbrev pub counted : Hub → ToldHub
counted h = told_of h (changed.Counter h.counter)

unfoldable pub counted_of : Hub → ℕ → ToldHub
counted_of h opcode =
    cond (eqb opcode opcodes.inc) (counted (inc_of h))
    (cond (eqb opcode opcodes.reset_counter) (counted (reset_of h)) (told_of h changed.Nothing))

-- ---- any of them

unfoldable pub sends : ℕ → Bool
sends opcode =
    pumps opcode
    || (eqb opcode opcodes.update || (eqb opcode opcodes.insert || (eqb opcode opcodes.inc || eqb opcode opcodes.reset_counter)))

unfoldable pub sent_of : Hub → ℕ → List ℕ → List ℕ → Sent
sent_of h opcode payload out =
    cond (pumps opcode) (pumped_of h (eqb opcode opcodes.report) payload out)
    (cond (eqb opcode opcodes.update) (sent out (updated (update_of h payload)))
    (cond (eqb opcode opcodes.insert) (sent out (inserted (insert_of h payload))) (sent out (counted_of h opcode))))
