-- `layout::rows_of`: the places laid and those left to lay are the whole; the counts stay small.
use Rattle.std.proofs.Common.{◌≡◌, ◌≤◌, ◌++◌, length, take}
use Rattle.rules.specs.Names.{places_per_pad}
use Rattle.rules.specs.Places.{rows_of}
use Rattle.layout.specs.Laying.{rows_left}
use Rattle.layout.proofs.rows_of.Given as goal

abbrev pub invariant-loop-row : goal.invariant-loop-row
invariant-loop-row l =
    (length l.row-items ≡ places_per_pad) × (l.laying.elements ≤ l.row-index) × (l.laying.directions ≤ l.row-index)
    × (take l.row-index l.row-items ++ rows_left l.row-index l.s l.n l.laying ≡ rows_of l.s l.n)
