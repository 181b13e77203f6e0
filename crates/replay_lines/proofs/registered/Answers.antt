-- `registered` prints one piece, the pad that was registered.
use Rattle.replay_words.proofs.Laws.{lays}
use Rattle.replay_lines.proofs.registered.Goals as goal

pub returns-in-Ok : goal.returns-in-Ok
returns-in-Ok c = rw c.in-Ok.is (lays c.labelled.ensures)
