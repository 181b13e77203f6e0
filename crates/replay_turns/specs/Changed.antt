-- What an operation that changes the hub answers and leaves: `replay_desk`'s or `replay_events`'. Definitions only.
use Rattle.std.specs.Prelude.{ℕ, Bool, cond, ◌&&◌, ◌||◌, List, eqb}
use Rattle.rules.specs.declared.Hub.{Hub}
use Rattle.replay_answers.specs.Opcodes as opcodes
use Rattle.replay_desk.specs.SetUp.{sets_up, set_up_of}
use Rattle.replay_events.specs.Sent.{Sent, sent, sends, sent_of}

-- but for `new` an operation needs a hub that stands
unfoldable pub changes_of : Bool → ℕ → Bool
changes_of stands opcode = eqb opcode opcodes.new || (stands && (sets_up opcode || sends opcode))

-- setting a desk up leaves the out buffer as it was
unfoldable pub changed_of : Hub → ℕ → List ℕ → List ℕ → Sent
changed_of h opcode payload out = cond (sets_up opcode) (sent out (set_up_of h opcode payload)) (sent_of h opcode payload out)
