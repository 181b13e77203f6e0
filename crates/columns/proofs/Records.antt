-- What stands at a place is the record of the list: the reads meet their contracts by these laws.
use Rattle.columns.specs.Columns.{element-is, button-is, axis-is, slot_is}

pub ruleset records = (element-is, button-is, axis-is, slot_is)
