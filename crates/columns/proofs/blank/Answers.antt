-- `columns::blank` meets its contract: each array holds its zero throughout (`blank-is`).
use Rattle.std.proofs.Common.{arith}
use Rattle.rules.specs.Names.{queue_room}
use Rattle.columns.specs.Columns.{values_long, times_long, marks_long, bytes_long}
use Rattle.columns.specs.Blank.{blank-is}
use Rattle.columns.proofs.blank.Goals as goal

pub returns : goal.returns
returns c =
    blank-is values_long times_long marks_long bytes_long queue_room (omega arith) (omega arith) (omega arith) (omega arith) (omega arith)
