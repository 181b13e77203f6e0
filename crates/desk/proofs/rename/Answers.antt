-- `desk::rename` meets its contract: by how it is judged, and the names that hold from now on.
use Rattle.hub.specs.Lent.{columns}
use Rattle.desk.specs.Rename.{rename-refused, rename-lent}
use Rattle.desk.proofs.rename.Goals as goal

pub returns-in-Err : goal.returns-in-Err
returns-in-Err c names times queuebytes queuecodes hasbutton hasaxis marks values = rename-refused _ _ _ (c.in-Err.ensures _ _)

pub returns : goal.returns
returns c names times queuebytes queuecodes hasbutton hasaxis marks values =
    let a = c.args in
    rename-lent a.head a.p a.list.now a.codes.now a.kinds.now names a.renames.now
    (columns hasbutton hasaxis values times marks queuebytes queuecodes) (c.in_default.ensures _ _) c.rename_in.ensures c.converts-converts.ensures
    c.with_names.ensures
