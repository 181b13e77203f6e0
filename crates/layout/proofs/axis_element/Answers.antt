-- `layout::axis_element` meets its contract: an axis that fits has the limits that scaling asks.
use Rattle.std.proofs.Common.{rules}
use Rattle.sheets.specs.Laws.{AxisKeeps, axis-keeps}
use Rattle.layout.proofs.axis_element.Goals as goal

pub low_of-requires : goal.low_of-requires
low_of-requires c = let kept : AxisKeeps c.args.e = axis-keeps c.args.e c.requires in search rules

pub range_of-requires : goal.range_of-requires
range_of-requires c = let kept : AxisKeeps c.args.e = axis-keeps c.args.e c.requires in search rules

pub odd_of-requires : goal.odd_of-requires
odd_of-requires c = let kept : AxisKeeps c.args.e = axis-keeps c.args.e c.requires in search rules

pub threshold_of-requires : goal.threshold_of-requires
threshold_of-requires c = let kept : AxisKeeps c.args.e = axis-keeps c.args.e c.requires in search rules
