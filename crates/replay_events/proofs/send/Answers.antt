-- The last row: no pump, update or insert, so what `count` ensures, whatever the arrays hold.
use Rattle.std.proofs.Common.{ap}
use borrow.Author.Tests.{ne_eqb}
use Rattle.replay_events.specs.Sent.{sent, sent_of}
use Rattle.replay_events.proofs.send.Goals as goal

pub returns : goal.returns
unfolding sent_of
returns c =
    rw (
      ← c.pumps.ensures,
      c.if-pumps.false,
      ne_eqb _ _ c.if-opcode-eq-UPDATE.false,
      ne_eqb _ _ c.if-opcode-eq-INSERT.false,
    )
    (ap (sent _) (c.count.ensures _ _))
