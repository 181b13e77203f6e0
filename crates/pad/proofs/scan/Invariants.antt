-- The invariant: scanning what is left gives what the whole scan gives.
use Rattle.std.proofs.Common.{◌≡◌, ◌-◌}
use Rattle.rules.specs.Places.{scan_of}
use Rattle.pad.proofs.scan.Given as goal

abbrev pub invariant-loop-place : goal.invariant-loop-place
invariant-loop-place l = scan_of l.names (l.place-end - l.place) l.place l.name ≡ scan_of l.names l.n l.start l.name
