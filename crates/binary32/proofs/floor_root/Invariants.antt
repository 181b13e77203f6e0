-- `s` is not below the root, and `t` is Newton's step from it. The measure is `s`.
use Rattle.std.proofs.Common.{◌≡◌, ◌+◌, ◌/◌}
use Rattle.binary32.proofs.Steps.{Above}
use Rattle.binary32.proofs.floor_root.Given as goal

abbrev pub invariant-loop-t : goal.invariant-loop-t
invariant-loop-t l = record { above : Above l.w l.s; step : l.t ≡ (l.s + l.w / l.s) / 2 }

abbrev pub decreases-loop-t : goal.decreases-loop-t
decreases-loop-t l = l.s
