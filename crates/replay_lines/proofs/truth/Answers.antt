-- `truth` prints one piece.
use Rattle.replay_words.proofs.Laws.{lays}
use Rattle.replay_lines.proofs.truth.Goals as goal

pub returns : goal.returns
returns c = rw (← c.bit.ensures) (lays c.labelled.ensures)
