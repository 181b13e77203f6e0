-- `replay_words::button_words` meets its contract: a piece for each word.
use Rattle.replay_words.specs.Words.{button_pieces}
use Rattle.replay_words.proofs.Laws.{lays, then}
use Rattle.replay_words.proofs.button_words.Goals as goal

pub returns : goal.returns
unfolding button_pieces
returns c =
    let marks = then _ _ (then _ _ (lays c.hex-pressed.ensures) c.number-repeating.ensures) c.number-counter.ensures in
    rw (← c.bits_of.ensures, ← c.bit.ensures, ← c.bit-2.ensures) (then _ _ (then _ _ marks c.number-stamp.ensures) c.number.ensures)
