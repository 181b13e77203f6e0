-- `faults` counts the records that do not come out right: as long as it has counted none, each one so far came out right.
use Rattle.std.proofs.Common.{◌≡◌, ◌*◌, ◌≤◌, true}
use Rattle.std.specs.Fn.{FnReturnsAt}
use Rattle.compare_cases.specs.Played.{AllRight}
use Rattle.compare_cases.proofs.faults.Given as goal

abbrev pub invariant-loop-n : goal.invariant-loop-n
invariant-loop-n g l = record {
  few : l.wrong ≤ l.n;
  all : l.wrong ≡ 0 → AllRight g.R.Read.remaining (λ bytes. FnReturnsAt g.F.Fn l.right bytes true) (l.words * 4) l.initial.input l.input l.n;
}
