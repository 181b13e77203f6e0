-- `layout::lay_in`: the first k rows are laid, and what the loop has in hand gives the others; the counts stay small.
use Rattle.std.proofs.Common.{◌≡◌, ◌≤◌, take, drop}
use Rattle.rules.specs.Places.{rows_of}
use Rattle.layout.specs.Laid.{LaidOut}
use Rattle.layout.specs.Laying.{rows_left}
use Rattle.layout.proofs.lay_in.Given as goal

abbrev pub invariant-loop-k : goal.invariant-loop-k
invariant-loop-k l =
    (l.laying.elements ≤ l.k) × (l.laying.directions ≤ l.k)
    × (rows_left l.k l.s l.n l.laying ≡ drop l.k (rows_of l.s l.n))
    × LaidOut l.initial.codes l.initial.kinds l.initial.names l.initial.values l.initial.marks l.start (take l.k (rows_of l.s l.n))
    l.codes l.kinds l.names l.values l.marks
