-- `down` prints the count, and whether an axis element is pressed behind it.
use Rattle.replay_words.proofs.Laws.{lays, then}
use Rattle.replay_lines.proofs.down.Goals as goal

pub returns-in-Ok : goal.returns-in-Ok
returns-in-Ok c = rw (c.in-Ok.is, ← c.bit.ensures) (then _ _ (lays c.labelled-next.ensures) c.number.ensures)
