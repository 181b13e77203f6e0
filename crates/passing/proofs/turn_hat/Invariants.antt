-- The first x of the events that the hat queues are pushed.
use Rattle.std.proofs.Common.{take}
use Rattle.rules.specs.Filters.{dpad_of}
use Rattle.hub.specs.Holding.{QueueAlone}
use Rattle.queueing.specs.Queued.{Pushed}
use Rattle.passing.proofs.turn_hat.Given as goal

abbrev pub invariant-loop-x : goal.invariant-loop-x
invariant-loop-x l = record {
  pushed : Pushed l.fn.lent.values.now l.fn.lent.times.now l.fn.lent.queuebytes.now l.fn.lent.queuecodes.now l.head l.waiting
      (take l.x (dpad_of l.v l.e).queued) l.lent.values.now l.lent.times.now l.lent.queuebytes.now l.lent.queuecodes.now l.all;
  alone : QueueAlone l.fn.lent l.lent;
}
