-- `columns::put_slot` meets its contract: the law of the store (`slot-put`), with the arrays as long as their types tell.
use Rattle.columns.specs.Stores.{slot-put}
use Rattle.columns.proofs.put_slot.Goals as goal

pub returns : goal.returns
returns c =
    let a = c.args in
    slot-put a.values.now a.times.now a.queuebytes.now a.queuecodes.now a.k a.s c.requires
    c.told-values c.told-times c.told-queuebytes c.told-queuecodes
