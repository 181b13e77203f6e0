-- `compare_cases::faults` meets its contract: a record that comes out right is one more of those that did.
use Rattle.std.proofs.Common.{◌≡◌, arith, rules}
use Rattle.compare_cases.specs.Played.{none, one_more}
use Rattle.compare_cases.proofs.faults.Goals.{then-not-branch, else-not-branch}
use Rattle.compare_cases.proofs.faults.Goals as goal

pub loop-n-init : goal.loop-n-init
loop-n-init g c = record { few = search rules; all = λ e. none }

pub loop-n-preserved : goal.loop-n-preserved
loop-n-preserved g c = elim c.if-not-branch.branch [
  | then-not-branch w ↦ record { few = omega (arith, w.wrong-is); all = λ e. absurd (omega (arith, w.wrong-is)) }
  | else-not-branch w ↦ record {
    few = omega (arith, w.wrong-is);
    all = λ e. one_more (c.loop-n.invariant.all (omega (arith, w.wrong-is))) (c.in_ok-comes_right.ensures (search rules));
  }
]

pub returns-clause-all : goal.returns-clause-all
returns-clause-all g c e = let all : c.loop-n.n ≡ c.args.records = omega arith in rw all at (c.loop-n.invariant.all e)
