-- `code_line` prints the word and the code behind it.
use Rattle.replay_words.proofs.Laws.{lays, then}
use Rattle.replay_lines.proofs.code_line.Goals as goal

pub returns : goal.returns
returns c = then _ _ (lays c.append-next.ensures) c.hex.ensures
