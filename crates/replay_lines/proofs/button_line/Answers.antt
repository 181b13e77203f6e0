-- `button_line` prints the word and the record's words behind it.
use Rattle.replay_words.proofs.Laws.{lays, behind}
use Rattle.replay_lines.proofs.button_line.Goals as goal

pub returns : goal.returns
returns c = behind _ _ _ (lays c.append-next.ensures) c.button_words.ensures
