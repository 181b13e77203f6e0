-- `clock::first_on` meets its contract: by whether the pad is connected, and by whether its run has a due record.
use Rattle.std.proofs.Common.{rules, arith}
use Rattle.clock.specs.Runs.{not-connected, run-gives, run-quiet}
use Rattle.clock.proofs.first_on.Goals as goal

pub returns-then-not-connected-p : goal.returns-then-not-connected-p
returns-then-not-connected-p c = (not-connected _ _ _ _ _ _ c.args.p c.if-not-connected-p.true, search rules)

pub returns-then-index-ge-PLACES_PER_PAD : goal.returns-then-index-ge-PLACES_PER_PAD
returns-then-index-ge-PLACES_PER_PAD c = (
  run-quiet _ _ _ _ _ _ _ _ c.gather_run-run.ensures c.if-not-connected-p.false _ c.first_of_pad-index.ensures
      c.if-index-ge-PLACES_PER_PAD.true,
  search rules,
)

pub returns : goal.returns
returns c = (
  run-gives _ _ _ _ _ _ _ _ c.gather_run-run.ensures c.if-not-connected-p.false _ c.first_of_pad-index.ensures
      c.if-index-ge-PLACES_PER_PAD.false,
  omega arith,
)
