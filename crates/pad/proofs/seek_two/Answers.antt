-- `pad::seek_two` meets its contract, by what the middle holds: nothing is left behind it, and one place before it.
use Rattle.std.proofs.Common.{rules}
use Rattle.pad.specs.Search.{sought-behind, sought-before, sought-half, sought-none}
use Rattle.pad.proofs.seek_two.Goals as goal

pub returns-then-codes-start : goal.returns-then-codes-start
returns-then-codes-start c = sought-behind _ (search rules) c.if-codes-start.true sought-none

pub returns-else-codes-start : goal.returns-else-codes-start
returns-else-codes-start c = sought-before _ (search rules) c.if-codes-start.false (sought-half c.half_of.ensures sought-none)
