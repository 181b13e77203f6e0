-- `wire::read_event` meets its contract: `Whole` says what each test gives.
use Rattle.std.proofs.Common.{sym}
use Rattle.wire.specs.Whole.{event-long, event-shut, event-unfit, event-good}
use Rattle.wire.proofs.read_event.Goals as goal

pub returns-then-s-ne-EVENT_SIZE : goal.returns-then-s-ne-EVENT_SIZE
returns-then-s-ne-EVENT_SIZE c = event-long c.args.s.now c.if-s-ne-EVENT_SIZE.true

pub returns-then-not-opens_as : goal.returns-then-not-opens_as
returns-then-not-opens_as c = event-shut c.args.s.now c.if-s-ne-EVENT_SIZE.false (sym c.if-not-opens_as.ensures)

pub returns-then-not-event_kind_fits : goal.returns-then-not-event_kind_fits
returns-then-not-event_kind_fits c =
    event-unfit c.args.s.now c.if-s-ne-EVENT_SIZE.false (sym c.if-not-opens_as.ensures) _ _ c.read4-code.ensures c.read4-bits.ensures
    (sym c.if-not-event_kind_fits.ensures)

pub returns : goal.returns
returns c =
    event-good c.args.s.now c.if-s-ne-EVENT_SIZE.false (sym c.if-not-opens_as.ensures) _ _ c.read4-code.ensures c.read4-bits.ensures _
    (sym c.if-not-event_kind_fits.ensures) c.read8.ensures
