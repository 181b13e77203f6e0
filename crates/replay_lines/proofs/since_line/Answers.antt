-- `since_line` prints one piece, since when the button is held.
use Rattle.replay_words.proofs.Laws.{lays}
use Rattle.replay_lines.proofs.since_line.Goals as goal

pub returns : goal.returns
returns c = lays c.labelled.ensures
