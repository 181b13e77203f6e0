-- `columns::put_element` meets its contract: the law of the store (`element-put`), with the arrays as long as their types tell.
use Rattle.columns.specs.Stores.{element-put}
use Rattle.columns.proofs.put_element.Goals as goal

pub returns : goal.returns
returns c = element-put c.args.values.now c.args.marks.now c.args.k c.args.e c.requires c.told-values c.told-marks
