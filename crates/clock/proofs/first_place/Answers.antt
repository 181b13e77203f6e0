-- `clock::first_place` meets its contract: what the pads from here on give is what all of them give.
use Rattle.std.proofs.Common.{rules, ◌∙◌, arith}
use Rattle.rules.specs.Names.{nowhere}
use Rattle.clock.specs.Runs.{pad-gives, pad-quiet, pads-end}
use Rattle.clock.proofs.first_place.Goals as goal

pub returns-in-Some : goal.returns-in-Some
returns-in-Some c =
    (pad-gives _ _ _ _ _ _ c.loop-p.p _ (omega arith) c.in-Some.ensures.0 c.in-Some.ensures.1 ∙ c.loop-p.invariant, c.in-Some.ensures.1)

pub loop-p-preserved : goal.loop-p-preserved
loop-p-preserved c = pad-quiet _ _ _ _ _ _ c.loop-p.p nowhere (omega arith) c.in_default.ensures.0 (omega arith) ∙ c.loop-p.invariant

pub returns : goal.returns
returns c = (pads-end _ _ _ _ _ _ c.loop-p.p (omega arith) ∙ c.loop-p.invariant, search rules)
