-- `pad::stands_early` meets its contract: where the name was not found at a place either, the scan goes on behind it.
use Rattle.std.proofs.Common.{arith}
use Rattle.pad.specs.Search.{early-next}
use Rattle.pad.proofs.stands_early.Goals as goal

pub loop-i-preserved : goal.loop-i-preserved
loop-i-preserved c = early-next _ _ c.loop-i.i _ _ c.loop-i.found (omega arith) c.loop-i.invariant
