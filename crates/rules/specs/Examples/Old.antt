-- W-212, whether a pad is old: partial hats from an archived sheet, what a rename clears and Connected brings back, and what leaves the mark.
use Rattle.std.specs.Prelude.{refl, true, false, [], ◌∷◌, Err, Ok}
use Rattle.rules.specs.declared.Hub.{Hub}
use Rattle.rules.specs.Sheets.{sheet_bytes}
use Rattle.rules.specs.Calls.{register_as, register_archived_of, rename_of}
use Rattle.rules.specs.Queries.{old_of}
use Rattle.rules.specs.Examples.Table.{◌is◌, Right, button}
use Rattle.rules.specs.Examples.Desk.{bare, south, raw, press, connect, disconnect, after}
use Rattle.rules.specs.Refusals.{numbered}

-- an archived pad with three directions mapped, and a whole one behind it
archived : Hub
archived =
    (register_archived_of (register_archived_of (bare true true) (sheet_bytes 7 (button south 1 ∷ []))).hub (sheet_bytes 15 (button south 1 ∷ []))).hub

marked : Right (old_of archived 0 is Ok true ∷ old_of archived 1 is Ok false ∷ old_of archived 2 is Err (numbered 6) ∷ [])
unfolding archived bare register_as sheet_bytes old_of
marked = refl

-- the same names are new names too
renamed : Hub
renamed = (rename_of archived 0 (1 ∷ [])).hub

-- "A rename clears it, Connected brings it back"; Disconnected does neither
cleared :
    Right (
    old_of renamed 0 is Ok false
    ∷ old_of (after renamed (press south 6)) 0 is Ok false
    ∷ old_of (after renamed (disconnect 7)) 0 is Ok false
    ∷ old_of (after renamed (connect 7)) 0 is Ok true
    ∷ [])
unfolding archived renamed bare register_as sheet_bytes rename_of after raw old_of
cleared = refl

-- a rename that is refused, or of another pad, leaves it
left :
    Right (
    old_of (after archived (press south 6)) 0 is Ok true
    ∷ old_of (after archived (disconnect 7)) 0 is Ok true
    ∷ old_of (after archived (connect 7)) 0 is Ok true
    ∷ old_of (rename_of archived 0 (0 ∷ [])).hub 0 is Ok true
    ∷ old_of (rename_of archived 1 (1 ∷ [])).hub 0 is Ok true
    ∷ old_of (rename_of archived 1 (1 ∷ [])).hub 1 is Ok false
    ∷ [])
unfolding archived bare register_as sheet_bytes rename_of after raw old_of
left = refl
