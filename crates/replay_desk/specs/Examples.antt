-- A sheet with three of the four directions mapped, as a new one and as an archived one. Computed.
use Rattle.std.specs.Prelude.{◌≡◌, refl, true, false, List, [], ℕ, Err, Ok}
use Rattle.std.specs.Float.Ieee as Ieee
use Rattle.std.specs.Float.{binary32}
use Rattle.std.specs.Float.Ieee.{of_bits}
use Rattle.rules.specs.declared.Hub.{Hub}
use Rattle.rules.specs.Sheets.{sheet_bytes}
use Rattle.rules.specs.Calls.{new_of, register_as, register_archived_of}
use Rattle.replay_answers.specs.declared.Changed.TheVariants as changed
use Rattle.replay_answers.specs.Told.{told_of}
use Rattle.replay_desk.specs.SetUp.{registered_of, by_sheet, set_up_of}
use Rattle.rules.specs.Refusals.{numbered}

sheet : List ℕ
sheet = sheet_bytes 7 []

-- thresholds 0.75 and 0.5
fresh : Hub
fresh = (new_of (of_bits binary32 0x3f400000) (of_bits binary32 0x3f000000) false true true).hub

-- operation 2
refused : set_up_of fresh 2 sheet ≡ told_of fresh (changed.Registered (Err (numbered 29)))
unfolding sheet fresh new_of register_as sheet_bytes registered_of by_sheet set_up_of Ieee.of_bits Ieee.lt Ieee.le
refused = refl

-- operation 43
archived : set_up_of fresh 43 sheet ≡ told_of (register_archived_of fresh sheet).hub (changed.Registered (Ok 0))
unfolding sheet fresh new_of register_as sheet_bytes registered_of by_sheet set_up_of Ieee.of_bits Ieee.lt Ieee.le
archived = refl
