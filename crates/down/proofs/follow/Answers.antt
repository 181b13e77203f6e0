-- `down::follow` meets its contract: by whether the record reads as it did, and whether an axis element stands there.
use Rattle.std.proofs.Common.{sym, ◌∙◌, eq-eqb, ne_eqb}
use Rattle.down.specs.Down.{same, stays, moves-axis, moves-button}
use Rattle.down.proofs.follow.Goals as goal

pub returns-then-change-eq-STILL : goal.returns-then-change-eq-STILL
returns-then-change-eq-STILL c = stays _ _ _ _ _ _ _ (same c.args.change c.if-change-eq-STILL.true)

pub returns-then-kind_at-eq-ELEMENT_AXIS : goal.returns-then-kind_at-eq-ELEMENT_AXIS
returns-then-kind_at-eq-ELEMENT_AXIS c =
    moves-axis c.args.change c.if-change-eq-STILL.false c.bit_in.ensures c.count_in.ensures
    (eq-eqb _ _ (sym c.kind_at.ensures ∙ c.if-kind_at-eq-ELEMENT_AXIS.true)) c.count_in-then-kind_at-eq-ELEMENT_AXIS.ensures

pub returns-else-kind_at-eq-ELEMENT_AXIS : goal.returns-else-kind_at-eq-ELEMENT_AXIS
returns-else-kind_at-eq-ELEMENT_AXIS c =
    moves-button c.args.change c.if-change-eq-STILL.false c.bit_in.ensures c.count_in.ensures
    (ne_eqb _ _ (λ e. c.if-kind_at-eq-ELEMENT_AXIS.false (c.kind_at.ensures ∙ e)))
