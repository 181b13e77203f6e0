-- Row by row: the row that an opcode names, and what its call ensures at the hub.
use borrow.Author.Tests.{eq-eqb, ne_eqb}
use Rattle.replay_queries.specs.Asked.{by_pad}
use Rattle.replay_queries.proofs.by_pad.Goals as goal

pub returns-then-opcode-eq-DOWN : goal.returns-then-opcode-eq-DOWN
unfolding by_pad
returns-then-opcode-eq-DOWN c kinds names renames t = rw (eq-eqb _ _ c.if-opcode-eq-DOWN.true) (c.down.ensures _ t)

pub returns-then-opcode-eq-OLD : goal.returns-then-opcode-eq-OLD
unfolding by_pad
returns-then-opcode-eq-OLD c kinds names renames t =
    rw (
      ne_eqb _ _ c.if-opcode-eq-DOWN.false,
      ne_eqb _ _ c.if-opcode-eq-LOWEST.false,
      eq-eqb _ _ c.if-opcode-eq-OLD.true,
    )
    (c.old.ensures _ t)

pub returns : goal.returns
unfolding by_pad
returns c kinds names renames t =
    rw (
      ne_eqb _ _ c.if-opcode-eq-DOWN.false,
      ne_eqb _ _ c.if-opcode-eq-LOWEST.false,
      ne_eqb _ _ c.if-opcode-eq-OLD.false,
    )
    (c.of_head.ensures _ t)
