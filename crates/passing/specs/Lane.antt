-- The number of a lane, by which the filters' laws tell it. Definitions only.
use Rattle.std.specs.Prelude.{ℕ}
use Rattle.passing.specs.declared.lanes.Lane.{Lane}
use Rattle.passing.specs.declared.lanes.Lane.TheVariants as lane

abbrev pub lane_number : Lane → ℕ
lane_number lane.None = 0
lane_number lane.Value = 1
lane_number lane.Hat = 2
lane_number lane.Stick = 3
