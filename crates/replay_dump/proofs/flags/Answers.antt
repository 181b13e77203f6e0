-- `replay_dump::flags` meets its contract: a turn prints the digit of one flag more.
use Rattle.std.proofs.Common.{◌≡◌, arith}
use Rattle.replay_words.proofs.Laws.{lays, then, behind}
use Rattle.replay_dump.proofs.Laws.{one_more}
use Rattle.replay_dump.proofs.flags.Goals as goal

pub loop-i-preserved : goal.loop-i-preserved
loop-i-preserved c =
    one_more _ _ _ c.loop-i.invariant (rw (← c.flag_at.ensures, ← c.digit.ensures) (lays c.append-next-in-loop-i.ensures))

pub returns : goal.returns
returns c =
    let all : c.loop-i.i ≡ 6 = omega arith in
    then _ _ (behind _ _ _ (lays c.append-next.ensures) (rw all at c.loop-i.invariant)) c.append.ensures
