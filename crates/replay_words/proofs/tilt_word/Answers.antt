-- `replay_words::tilt_word` meets its contract: one piece, the word of the case.
use Rattle.replay_words.proofs.Laws.{lays}
use Rattle.replay_words.proofs.tilt_word.Goals as goal

pub returns-in-Unmet : goal.returns-in-Unmet
returns-in-Unmet c = rw c.in-Unmet.is (lays c.append.ensures)

pub returns-in-Inside : goal.returns-in-Inside
returns-in-Inside c = rw c.in-Inside.is (lays c.append-in-Inside.ensures)

pub returns-in-Between : goal.returns-in-Between
returns-in-Between c = rw c.in-Between.is (lays c.append-in-Between.ensures)

pub returns-in-Full : goal.returns-in-Full
returns-in-Full c = rw c.in-Full.is (lays c.append-in-Full.ensures)
