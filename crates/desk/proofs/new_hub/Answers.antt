-- `desk::new_hub` meets its contract: the arrays are filled first, then by how the thresholds are judged.
use Rattle.desk.specs.Fresh.{new-refused, new-served}
use Rattle.desk.proofs.new_hub.Goals as goal

pub returns-in-Err : goal.returns-in-Err
returns-in-Err c =
    let a = c.args in
    new-refused c.blank.ensures a.pressed a.released a.reversed a.filters a.updates c.in-Err.ensures c.fresh.ensures

pub returns : goal.returns
returns c =
    let a = c.args in
    new-served c.blank.ensures a.pressed a.released a.reversed a.filters a.updates c.in_default.ensures c.fresh-2.ensures
