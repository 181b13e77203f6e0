-- The invariant: as long as the name was not found, scanning what is left gives what the whole scan gives.
use Rattle.std.proofs.Common.{◌≡◌, ◌+◌, ◌-◌, false}
use Rattle.rules.specs.Names.{places_per_pad}
use Rattle.rules.specs.Places.{scan_of}
use Rattle.pad.proofs.stands_early.Given as goal

abbrev pub invariant-loop-i : goal.invariant-loop-i
invariant-loop-i l =
    l.found ≡ false → scan_of l.names (places_per_pad - l.i) (l.start + l.i) l.name ≡ scan_of l.names places_per_pad l.start l.name
