-- `columns::put_axis` meets its contract: the law of the store (`axis-put`), with the arrays as long as their types tell.
use Rattle.columns.specs.Stores.{axis-put}
use Rattle.columns.proofs.put_axis.Goals as goal

pub returns : goal.returns
returns c = axis-put c.args.values.now c.args.times.now c.args.k c.args.a c.requires c.told-values c.told-times
