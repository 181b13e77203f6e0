-- `pad::seek_twelve` meets its contract, by what the middle holds: five places are left behind it, and six before it.
use Rattle.std.proofs.Common.{rules}
use Rattle.pad.specs.Search.{sought-behind, sought-before, sought-half}
use Rattle.pad.proofs.seek_twelve.Goals as goal

pub returns-then-codes-start : goal.returns-then-codes-start
returns-then-codes-start c = sought-behind _ (search rules) c.if-codes-start.true (sought-half c.half_of-two.ensures c.seek_two.ensures)

pub returns-else-codes-start : goal.returns-else-codes-start
returns-else-codes-start c = sought-before _ (search rules) c.if-codes-start.false c.seek_six.ensures
