-- `wire::read_record` meets its contract: `Whole` says what each test gives.
use Rattle.std.proofs.Common.{sym, ◌∙◌, w32, rules, arith}
use Rattle.std.proofs.lemmas.Int.{to_z-of_z}
use Rattle.wire.specs.Whole.{record-short, record-shut, record-unfit, record-good}
use Rattle.wire.proofs.read_record.Goals as goal

pub returns-then-s-at : goal.returns-then-s-at
returns-then-s-at c = record-short c.args.s.now c.args.at (omega arith)

pub returns-then-s-at-lt-RECORD_SIZE : goal.returns-then-s-at-lt-RECORD_SIZE
returns-then-s-at-lt-RECORD_SIZE c = record-short c.args.s.now c.args.at (omega arith)

pub returns-then-not-opens_as : goal.returns-then-not-opens_as
returns-then-not-opens_as c = record-shut c.args.s.now c.args.at (omega arith) (sym c.if-not-opens_as.ensures)

pub returns-then-not-record_kind_fits : goal.returns-then-not-record_kind_fits
returns-then-not-record_kind_fits c =
    record-unfit c.args.s.now c.args.at (omega arith) (sym c.if-not-opens_as.ensures) _ _ c.read4-code.ensures c.read4-bits.ensures
    (sym c.if-not-record_kind_fits.ensures)

pub returns : goal.returns
returns c =
    record-good c.args.s.now c.args.at (omega arith) (sym c.if-not-opens_as.ensures) _ _ c.read4-code.ensures c.read4-bits.ensures _ _
    (sym c.if-not-record_kind_fits.ensures) (to_z-of_z w32 c.signed_of.result (search rules) ∙ c.signed_of.ensures) c.read8.ensures
