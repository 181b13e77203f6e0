-- `pad::seek` meets its contract, by what the middles hold: 25 places are left behind the first, and of the 26 before it 12 behind the next, 13 before it.
use Rattle.std.proofs.Common.{rules}
use Rattle.pad.specs.Search.{sought-behind, sought-before, sought-half}
use Rattle.pad.proofs.seek.Goals as goal

pub returns-then-codes-start : goal.returns-then-codes-start
returns-then-codes-start c = sought-behind _ (search rules) c.if-codes-start.true (sought-half c.half_of-twelve.ensures c.seek_twelve.ensures)

pub returns-then-codes-start-2 : goal.returns-then-codes-start-2
returns-then-codes-start-2 c =
    sought-before _ (search rules) c.if-codes-start.false
    (sought-behind _ (search rules) c.if-codes-start-2.true c.seek_twelve-then-codes-start-2.ensures)

pub returns-else-codes-start-2 : goal.returns-else-codes-start-2
returns-else-codes-start-2 c =
    sought-before _ (search rules) c.if-codes-start.false
    (sought-before _ (search rules) c.if-codes-start-2.false (sought-half c.half_of-six.ensures c.seek_six.ensures))
