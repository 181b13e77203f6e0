-- `done` prints one piece, the word of a call that was done.
use Rattle.replay_words.proofs.Laws.{lays}
use Rattle.replay_lines.proofs.done.Goals as goal

pub returns-in-Ok : goal.returns-in-Ok
returns-in-Ok c = rw c.in-Ok.is (lays c.append.ensures)
