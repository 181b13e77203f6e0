-- `replay_words::axis_words` meets its contract: a piece for each word.
use Rattle.replay_words.specs.Words.{axis_pieces}
use Rattle.replay_words.proofs.Laws.{lays, then}
use Rattle.replay_words.proofs.axis_words.Goals as goal

pub returns : goal.returns
unfolding axis_pieces
returns c = rw (← c.bits_of.ensures) (then _ _ (then _ _ (lays c.hex-counter.ensures) c.number-stamp.ensures) c.number.ensures)
