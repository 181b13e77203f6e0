-- `calls::queue_event` meets its contract: by how the event is judged, and by what pushing it leaves of the hub.
use Rattle.std.proofs.Common.{◌≡◌, arith, Err}
use Rattle.hub.specs.Lent.{listed}
use Rattle.queueing.specs.Queued.{pushed-hub}
use Rattle.calls.specs.Judged.{insert-malformed, insert-refused, insert-done}
use Rattle.calls.proofs.queue_event.Goals as goal

pub returns-in_default : goal.returns-in_default
returns-in_default c kinds names renames hasbutton hasaxis marks = insert-malformed _ _ c.in_default.ensures

pub returns-in_err-insert_refusal : goal.returns-in_err-insert_refusal
returns-in_err-insert_refusal c kinds names renames hasbutton hasaxis marks =
    let stops : c.from_residual.result ≡ Err c.in_err-insert_refusal.field-0.0 = grind arith in
    rw stops (insert-refused _ _ c.in-Some.ensures c.place_of-place.ensures.is c.in_err-insert_refusal.ensures)

pub returns : goal.returns
returns c kinds names renames hasbutton hasaxis marks =
    insert-done _ _ c.in-Some.ensures c.place_of-place.ensures.is c.in_ok-insert_refusal.ensures c.form_event-e.ensures
    (pushed-hub c.args.head.now (listed c.args.codes.now kinds names renames) hasbutton hasaxis marks c.push-head.ensures)
