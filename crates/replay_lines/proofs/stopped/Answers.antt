-- `stopped` prints three numbers, one behind the other.
use Rattle.replay_words.proofs.Laws.{lays, then}
use Rattle.replay_lines.proofs.stopped.Goals as goal

pub returns : goal.returns
returns c = then _ _ (then _ _ (lays c.number-events.ensures) c.number-made.ensures) c.number.ensures
