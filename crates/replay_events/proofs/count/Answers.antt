-- By the opcode; the counter told is that of the hub after.
use Rattle.std.proofs.Common.{ap, ◌∙◌}
use Rattle.replay_events.specs.Sent.{counted, counted_of}
use Rattle.replay_events.proofs.count.Goals as goal

pub returns-in-8 : goal.returns-in-8
unfolding counted_of
returns-in-8 c s t = c.counted.ensures s t ∙ rw c.in-8.is (ap counted (c.inc.ensures s t))

pub returns-in-10 : goal.returns-in-10
unfolding counted_of
returns-in-10 c s t = c.counted-in-10.ensures s t ∙ rw c.in-10.is (ap counted (c.reset_counter.ensures s t))
