-- `columns::put_button` meets its contract: the law of the store (`button-put`), with the arrays as long as their types tell.
use Rattle.columns.specs.Stores.{button-put}
use Rattle.columns.proofs.put_button.Goals as goal

pub returns : goal.returns
returns c =
    let a = c.args in
    button-put a.values.now a.times.now a.marks.now a.k a.b c.requires c.told-values c.told-times c.told-marks
