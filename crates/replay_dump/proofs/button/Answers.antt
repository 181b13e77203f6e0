-- `replay_dump::button` meets its contract: nothing where there is no record, else the letter, the code and the record's words.
use Rattle.replay_words.proofs.Laws.{lays, then, behind}
use Rattle.replay_dump.proofs.button.Goals as goal

pub returns : goal.returns
returns c =
    rw c.if-not-known.false (behind _ _ _ (then _ _ (lays c.append-next.ensures) c.hex-words.ensures) c.button_words.ensures)
