-- `pumped` prints what its definition says in each case; a refused pump has its number behind the events.
use Rattle.replay_words.proofs.Laws.{lays, then, behind}
use Rattle.replay_lines.proofs.pumped.Goals as goal

pub returns-in-Refused : goal.returns-in-Refused
returns-in-Refused c = rw c.in-Refused.is (behind _ _ _ (then _ _ (lays c.lines-last.ensures) c.labelled-next.ensures) c.stopped.ensures)
