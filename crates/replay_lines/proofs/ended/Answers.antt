-- `ended` prints the events' lines, the word behind them, and the numbers behind it.
use Rattle.replay_words.proofs.Laws.{lays, then, behind}
use Rattle.replay_lines.proofs.ended.Goals as goal

pub returns : goal.returns
returns c = behind _ _ _ (then _ _ (lays c.lines-last.ensures) c.append-next.ensures) c.stopped.ensures
