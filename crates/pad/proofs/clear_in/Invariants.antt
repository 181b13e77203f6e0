-- The invariant: of the marks that are lent on, those passed are off.
use Rattle.std.proofs.Common.{◌≡◌, ◌≤◌, false, take, replicate}
use Rattle.pad.proofs.clear_in.Given as goal

abbrev pub invariant-loop-mark : goal.invariant-loop-mark
invariant-loop-mark l = (l.mark-index ≤ l.mark-index-end) × (take l.mark-index l.mark-items ≡ replicate l.mark-index false)
