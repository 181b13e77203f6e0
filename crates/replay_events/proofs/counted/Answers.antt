-- The counter told is that of the hub that the head stands for.
use Rattle.std.proofs.Common.{◌∙◌}
use Rattle.replay_answers.specs.Told.{told_is}
use Rattle.replay_events.proofs.counted.Goals as goal

pub returns : goal.returns
returns c s t = told_is _ _ _ c.tell.ensures ∙ rw (c.counter.ensures s t)
