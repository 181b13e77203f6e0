-- `replay_dump::first_line` meets its contract: a number behind a label, and two more.
use Rattle.replay_dump.specs.Dump.{first_line}
use Rattle.replay_words.proofs.Laws.{lays, then}
use Rattle.replay_dump.proofs.first_line.Goals as goal

pub returns : goal.returns
unfolding first_line
returns c s t =
    rw (← c.pad_bool.ensures, ← c.bit-stands.ensures, ← c.hats_now.ensures s t)
    (then _ _ (then _ _ (lays c.labelled-connected.ensures) c.number-end.ensures) c.number.ensures)
