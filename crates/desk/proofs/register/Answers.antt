-- `desk::register` meets its contract: by how it is judged, and the sheet laid into the arrays.
use Rattle.std.proofs.Common.{ℕ, ◌<◌, ◌≡◌, Bool, List, length, refl, arith, Ok}
use Rattle.rules.specs.Refusals.{judged}
use Rattle.rules.specs.Calls.{register_refusal}
use Rattle.rules.specs.Sheets.{sheet_opening, hats_of, count_of}
use Rattle.sheets.specs.Laws.{archived-takes}
use Rattle.layout.specs.Good.{good}
use Rattle.desk.specs.Register.{register-refused, register-lent, room-and-taken}
use Rattle.desk.proofs.register.Goals as goal

-- a byte of the opening of a sheet that is taken
opening-inside : (archived : Bool) (pads : ℕ) (s : List ℕ) {i : ℕ} → Ok tt ≡ judged (register_refusal archived pads s) → i < sheet_opening → i < length s
opening-inside archived pads s e short = omega (arith, (good s (archived-takes archived s (room-and-taken archived pads s e).1)).size)

pub returns-in-Err : goal.returns-in-Err
returns-in-Err c renames times queuebytes queuecodes = register-refused _ _ _ c.in-Err.ensures

pub bounds-sheet-3 : goal.bounds-sheet-3
bounds-sheet-3 c = opening-inside _ _ _ c.in_default.ensures (omega arith)

pub bounds-sheet-4 : goal.bounds-sheet-4
bounds-sheet-4 c = opening-inside _ _ _ c.in_default.ensures (omega arith)

pub lay_in-requires : goal.lay_in-requires
lay_in-requires c =
    let stands = room-and-taken _ _ _ c.in_default.ensures in
    (omega (arith, c.from-start.ensures, stands.0), archived-takes _ _ stands.1)

pub with_pad-requires : goal.with_pad-requires
with_pad-requires c = (room-and-taken _ _ _ c.in_default.ensures).0

pub returns : goal.returns
unfolding hats_of count_of
returns c renames times queuebytes queuecodes =
    let a = c.args in
    register-lent a.archived a.head a.codes.now a.kinds.now a.names.now renames a.hasbutton.now a.hasaxis.now a.values.now times
    a.marks.now queuebytes queuecodes a.sheet.now c.in_default.ensures refl refl c.from-start.ensures c.lay_in.ensures c.clear.ensures c.clear-2.ensures
    c.converts-converts.ensures c.with_pad.ensures
