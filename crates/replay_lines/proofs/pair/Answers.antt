-- `pair` prints the word, the pair's bits and the tilt's word, one behind the other.
use Rattle.replay_words.proofs.Laws.{lays, then, behind}
use Rattle.replay_lines.proofs.pair.Goals as goal

pub returns : goal.returns
returns c =
    rw (← c.bits_of.ensures, ← c.bits_of-2.ensures)
    (behind _ _ _ (then _ _ (then _ _ (lays c.append-x.ensures) c.hex-y.ensures) c.hex-word.ensures) c.tilt_word.ensures)
