-- The search among an odd number of places goes on in either half: what `pad::half_of` goes by.
use Rattle.pad.specs.Search.{halved-behind, halved-before}

pub ruleset halved = (halved-behind, halved-before)
