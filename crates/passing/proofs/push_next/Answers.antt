-- `passing::push_next` meets its contract: the event is pushed where one follows, else nothing.
use Rattle.queueing.specs.Queued.{pushed_none}
use Rattle.passing.proofs.push_next.Goals as goal

pub returns-clause-pushed : goal.returns-clause-pushed
returns-clause-pushed c = rw c.if-t.false pushed_none
