-- `counted` prints one piece.
use Rattle.replay_words.proofs.Laws.{lays}
use Rattle.replay_lines.proofs.counted.Goals as goal

pub returns : goal.returns
returns c = lays c.labelled.ensures
