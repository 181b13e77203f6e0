-- `calls::settle_event` meets its contract: by how the event is judged, and by what a settled one leaves of the hub.
use Rattle.std.proofs.Common.{◌≡◌, true, arith, Err}
use Rattle.hub.specs.Lent.{listed}
use Rattle.cells.specs.Settled.{settled-hub}
use Rattle.calls.specs.Judged.{update-malformed, update-refused, update-done}
use Rattle.calls.proofs.settle_event.Goals as goal

pub returns-in_default-clause-answered : goal.returns-in_default-clause-answered
returns-in_default-clause-answered c names renames queuebytes queuecodes = update-malformed _ _ c.in_default.ensures

pub returns-in_err-form_refusal-clause-answered : goal.returns-in_err-form_refusal-clause-answered
returns-in_err-form_refusal-clause-answered c names renames queuebytes queuecodes =
    let stops : c.from_residual.result ≡ Err c.in_err-form_refusal.field-0.0 = grind arith in
    rw stops (update-refused _ _ c.in-Some.ensures c.place_of-place.ensures.is c.in_err-form_refusal.ensures)

pub returns-clause-answered : goal.returns-clause-answered
returns-clause-answered c names renames queuebytes queuecodes =
    let a = c.args in
    update-done _ _ c.in-Some.ensures c.place_of-place.ensures.is c.in_ok-form_refusal.ensures c.form_event-e.ensures
    (settled-hub a.head.now (listed a.codes.now a.kinds.now names renames) queuebytes queuecodes true _
    (rw c.code_of.ensures at c.event_place-k.ensures.is) c.settle-change.ensures.settled c.follow.ensures)
