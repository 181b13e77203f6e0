-- An element that fits and is no button is an axis that fits: what `layout::listed_row` goes by.
use Rattle.layout.specs.Good.{axis-fits}

pub ruleset fits = (axis-fits)
