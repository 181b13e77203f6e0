-- `compare_cases::comes_right` meets its contract: what was read stands at the front of the record.
use Rattle.std.proofs.Common.{◌*◌, ◌++◌, drop, replicate, arith, rules}
use Rattle.std.proofs.lemmas.Grind.{common_steps}
use Rattle.compare_cases.proofs.comes_right.Goals as goal

pub returns-then-branch : goal.returns-then-branch
returns-then-branch g c good =
    let filled = c.in_ok-came.ensures.filled (search rules) in
    (c.came.new.room ++ drop (c.args.words * 4) (replicate 104 0), grind (arith, common_steps, filled, c.came.auto.room), search rules)
