-- The hub that a turn's gates see: by what the pads list, the three marks of pads, the marks of what is lent, its values and times, and the flags.
use Rattle.std.proofs.Common.{Bool, List}
use Rattle.rules.specs.declared.Hub.{Hub}
use Rattle.columns.specs.Columns.{elements_of, buttons_of, axes_of}
use Rattle.hub.specs.declared.Listing.{Listing}
use Rattle.hub.specs.declared.Serving.{Serving}
use Rattle.passing.specs.Passing.{seen_hub}

-- the marks are `marked`'s and the values and times `lent`'s, since what a record queues itself is pushed between
abbrev pub seen_by : Listing → List Bool → List Bool → List Bool → Serving → Serving → List Bool → Hub
seen_by s renamed converts newconverts marked lent flags =
    seen_hub s.codes.now s.kinds.now s.names.now s.renames.now renamed converts newconverts marked.hasbutton.now marked.hasaxis.now
    (elements_of lent.values.now marked.marks.now) (buttons_of lent.values.now lent.times.now marked.marks.now)
    (axes_of lent.values.now lent.times.now) flags
