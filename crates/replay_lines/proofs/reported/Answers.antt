-- `reported` prints the pump's lines, and the report's word and tilt behind them.
use Rattle.replay_words.proofs.Laws.{lays, behind}
use Rattle.replay_lines.proofs.reported.Goals as goal

pub returns : goal.returns
returns c = behind _ _ _ c.pumped-last.ensures (behind _ _ _ (lays c.append-next.ensures) c.tilt_word.ensures)
