-- `replay_dump::dump` meets its contract: a turn prints the lines of one pad more, and the last line stands behind them.
use Rattle.std.proofs.Common.{◌≡◌, arith}
use Rattle.replay_words.proofs.Laws.{behind}
use Rattle.replay_dump.specs.Dump.{dump_pieces}
use Rattle.replay_dump.proofs.Laws.{one_more}
use Rattle.replay_dump.proofs.dump.Goals as goal

pub loop-p-preserved : goal.loop-p-preserved
loop-p-preserved c =
    λ kinds names renames queuebytes queuecodes.
    one_more _ _ _ (c.loop-p.invariant kinds names renames queuebytes queuecodes)
    (c.pad_lines-next.ensures kinds names renames queuebytes queuecodes)

pub returns : goal.returns
unfolding dump_pieces
returns c kinds names renames queuebytes queuecodes =
    let all : c.loop-p.p ≡ 4 = omega arith in
    behind _ _ _ (rw all at (c.loop-p.invariant kinds names renames queuebytes queuecodes)) c.last.ensures
