-- `queueing::push` meets its contract: the event's slot stored at the free place.
use Rattle.queueing.specs.Queued.{pushed-one}
use Rattle.queueing.proofs.push.Goals as goal

pub returns : goal.returns
returns c = pushed-one c.free-free.ensures.is c.slot_of.ensures c.put_slot.ensures c.longer.ensures
