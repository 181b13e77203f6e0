-- `cells::settle` meets its contract, at each of its four ends, by what the calls on the way ensure.
use Rattle.std.proofs.Common.{◌≡◌, true, false, sym, ◌∙◌, rules}
use Rattle.cells.specs.Settled.{settled-none, settled-button, settled-axis}
use Rattle.cells.proofs.settle.Goals as goal

-- updates are off
pub returns-then-not-on-clause-settled : goal.returns-then-not-on-clause-settled
returns-then-not-on-clause-settled c =
    let off : c.args.on ≡ false = search rules in
    settled-none (rw off) (rw off)

-- a button's event
pub returns-then-writes_button-clause-settled : goal.returns-then-writes_button-clause-settled
returns-then-writes_button-clause-settled c =
    let on : c.args.on ≡ true = search rules in
    settled-button on c.writes_button.ensures c.if-writes_button.true c.bool_at-known.ensures c.button_at-b.ensures
    c.read_pressed-was.ensures c.button_after-after.ensures c.put_button.ensures c.mark.ensures c.change.ensures

-- an event of no record
pub returns-then-not-writes_axis-clause-settled : goal.returns-then-not-writes_axis-clause-settled
returns-then-not-writes_axis-clause-settled c =
    let on : c.args.on ≡ true = search rules in
    let no-button = sym c.writes_button.ensures ∙ c.if-writes_button.false in
    let none : c.writes_axis.result ≡ false = search rules in
    let no-axis = sym c.writes_axis.ensures ∙ none in
    settled-none (rw on no-button) (rw on no-axis)

-- an axis event
pub returns-clause-settled : goal.returns-clause-settled
returns-clause-settled c =
    let on : c.args.on ≡ true = search rules in
    let moves : c.writes_axis.result ≡ true = search rules in
    settled-axis on c.writes_button.ensures c.if-writes_button.false c.writes_axis.ensures moves c.axis_at-a.ensures
    c.axis_after.ensures c.put_axis.ensures c.mark-2.ensures
