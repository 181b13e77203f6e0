-- `replay_dump::pad_lines` meets its contract: nothing for a pad that is not registered, else its lines one behind the other.
use Rattle.std.proofs.Common.{lt-ltb}
use Rattle.replay_words.proofs.Laws.{behind}
use Rattle.replay_dump.specs.Dump.{pad_lines}
use Rattle.replay_dump.proofs.pad_lines.Goals as goal

pub returns : goal.returns
unfolding pad_lines
returns c kinds names renames queuebytes queuecodes =
    rw (lt-ltb _ _ c.if-head-p.false)
    (behind _ _ _ (c.first_line-first.ensures _ _) (behind _ _ _ c.buttons-axes.ensures (behind _ _ _ c.sticks-last.ensures c.flags.ensures)))
