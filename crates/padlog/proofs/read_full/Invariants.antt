-- `read_full` fills the buffer from its start: what stands there is no more than the buffer holds.
use Rattle.std.proofs.Common.{◌-◌, ◌≤◌, length}
use Rattle.padlog.proofs.read_full.Given as goal

abbrev pub invariant-loop-done : goal.invariant-loop-done
invariant-loop-done g l = l.done ≤ length l.input

abbrev pub decreases-loop-done : goal.decreases-loop-done
decreases-loop-done g l = length l.input - l.done
