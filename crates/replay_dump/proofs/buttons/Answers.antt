-- `replay_dump::buttons` meets its contract: a turn prints the line of one place more.
use Rattle.replay_dump.proofs.Laws.{one_more}
use Rattle.replay_dump.proofs.buttons.Goals as goal

pub loop-i-preserved : goal.loop-i-preserved
loop-i-preserved c =
    one_more _ _ _ c.loop-i.invariant
    (rw (← c.place-k.ensures, ← c.code_at.ensures, ← c.bool_at.ensures, ← c.button_at-b.ensures) c.button-next.ensures)
