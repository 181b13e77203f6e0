-- `absent` prints one piece.
use Rattle.replay_words.proofs.Laws.{lays}
use Rattle.replay_lines.proofs.absent.Goals as goal

pub returns : goal.returns
returns c = lays c.append.ensures
