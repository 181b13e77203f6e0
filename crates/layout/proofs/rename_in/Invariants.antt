-- `layout::rename_in`: naming the places that are left gives what the whole gives.
use Rattle.std.proofs.Common.{◌+◌, ◌-◌, ◌≡◌, ◌≤◌}
use Rattle.rules.specs.Names.{places_per_pad}
use Rattle.rules.specs.Calls.{renames_after}
use Rattle.layout.proofs.rename_in.Given as goal

abbrev pub invariant-loop-place : goal.invariant-loop-place
invariant-loop-place l =
    (l.i + l.start ≤ l.place)
    × (renames_after l.renames l.kinds l.list (l.place-end - l.place) l.place l.i
    ≡ renames_after l.initial.renames l.kinds l.list places_per_pad l.start 0)
