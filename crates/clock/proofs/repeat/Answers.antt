-- `clock::repeat` meets its contract: by how the call is judged, and by whether a place is due. A record at the place that was found is due, so that what
-- the event requires of it holds.
use Rattle.std.proofs.Common.{◌≡◌, arith, Err}
use Rattle.rules.specs.Repeat.{due_place}
use Rattle.clock.specs.Judged.{repeat-refused, repeat-quiet, repeat-due}
use Rattle.clock.specs.Runs.{due-found}
use Rattle.clock.proofs.repeat.Goals as goal

pub returns-in_err-repeat_refusal : goal.returns-in_err-repeat_refusal
returns-in_err-repeat_refusal c kinds queuebytes queuecodes hasaxis =
    let stops : c.from_residual.result ≡ Err c.in_err-repeat_refusal.field-0.0 = grind arith in
    rw stops (repeat-refused _ _ _ _ c.in_err-repeat_refusal.ensures)

pub returns-in_default : goal.returns-in_default
unfolding due_place
returns-in_default c kinds queuebytes queuecodes hasaxis =
    repeat-quiet _ _ _ _ c.in_ok-repeat_refusal.ensures c.in_default.ensures.0 (omega arith)

pub repeated-e-requires : goal.repeated-e-requires
repeated-e-requires c =
    rw (c.bool_at-known.ensures, c.button_at-b.ensures) (due-found _ _ _ _ _ _ _ c.in-Some.ensures.0 c.in-Some.ensures.1)

pub returns : goal.returns
unfolding due_place
returns c kinds queuebytes queuecodes hasaxis =
    repeat-due _ _ _ _ c.in_ok-repeat_refusal.ensures c.in-Some.ensures.0 c.in-Some.ensures.1 c.present_name-name.ensures c.code_at-code.ensures
    (rw (← c.button_at-b.ensures) c.repeated-e.ensures)
