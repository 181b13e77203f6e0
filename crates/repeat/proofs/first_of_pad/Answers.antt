-- `first_of_pad` meets its contract: the first due of a pad's 52 records is where the library's `position` finds it (`first-is`).
use Rattle.std.proofs.Common.{rules}
use Rattle.repeat.proofs.First.{first-is}
use Rattle.repeat.proofs.first_of_pad.Goals as goal

pub returns : goal.returns
returns c = rw (c.unwrap_or.ensures, c.scan.ensures) (first-is _ _ _ _ (search rules))
