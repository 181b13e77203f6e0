-- `replay_dump::last` meets its contract: a number behind a label, and another.
use Rattle.replay_words.proofs.Laws.{lays, then}
use Rattle.replay_dump.proofs.last.Goals as goal

pub returns : goal.returns
returns c = then _ _ (lays c.labelled-end.ensures) c.number.ensures
