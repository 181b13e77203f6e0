-- `layout::Laying::next` meets its contract: the row and the counts are those of the definition (`steps`).
use Rattle.std.proofs.Common.{◌∙◌, ap}
use Rattle.rules.specs.Places.{one_if}
use Rattle.layout.specs.Rows.{byte-is}
use Rattle.layout.specs.Laying.{steps}
use Rattle.layout.proofs.Laying.next.Goals as goal

pub returns : goal.returns
returns c =
    steps _ _ c.args.self.now c.next_row-row.ensures
    (c.from.ensures ∙ byte-is _ ∙ ap one_if c.element_next-element.ensures)
    (c.from-2.ensures ∙ byte-is _ ∙ ap one_if c.direction_next-direction.ensures)
