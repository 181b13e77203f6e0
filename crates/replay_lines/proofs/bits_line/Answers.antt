-- `bits_line` prints the label and the value's bits behind it.
use Rattle.replay_words.proofs.Laws.{lays, then}
use Rattle.replay_lines.proofs.bits_line.Goals as goal

pub returns : goal.returns
returns c = rw (← c.bits_of.ensures) (then _ _ (lays c.append-next.ensures) c.hex.ensures)
