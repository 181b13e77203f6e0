-- Row by row: the row that an opcode names, and what its call ensures at the hub.
use Rattle.std.proofs.Common.{ap}
use Rattle.replay_answers.specs.declared.Asked.TheVariants as asked
use Rattle.replay_queries.specs.Asked.{of_head}
use Rattle.replay_queries.proofs.of_head.Goals as goal

pub returns-in-9 : goal.returns-in-9
unfolding of_head
returns-in-9 c s t = rw c.in-9.is (ap asked.Counter (c.counter.ensures s t))

pub returns-in-23 : goal.returns-in-23
unfolding of_head
returns-in-23 c s t = rw c.in-23.is (ap asked.Waiting (c.waiting.ensures s t))
