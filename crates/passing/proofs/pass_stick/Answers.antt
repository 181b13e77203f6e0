-- `passing::pass_stick` meets its contract: what is gathered is what a stick sees of the hub, and what the filters make of it is handed on, by whether it clears
-- the partner.
use Rattle.std.proofs.Common.{[], ap}
use Rattle.filters.specs.declared.Met.{Met}
use Rattle.queueing.specs.Queued.{pushed_none}
use Rattle.passing.specs.Passing.{stick-sees}
use Rattle.passing.specs.Served.{stick-left}
use Rattle.passing.specs.Met.{stick-met}
use Rattle.passing.proofs.Here.{seen_by}
use Rattle.passing.proofs.pass_stick.Goals as goal

-- the partner is cleared
pub returns-then-zoned-clause-passed : goal.returns-then-zoned-clause-passed
returns-then-zoned-clause-passed c =
    let a = c.args in
    let h = seen_by a.listed.now a.renamed.now [] [] a.lent.now a.lent.now a.flags.now in
    let sees = stick-sees h a.e a.place c.name_of.ensures c.stick_places-s.ensures c.view_in-v.ensures in
    stick-left h a.e a.place c.name_of.ensures c.stick_places-s.ensures sees (ap (λ (m : Met). m.zoned) c.unturned-f.ensures) c.mark_flag.ensures
    c.mark_flag-2.ensures (rw c.if-zoned.true c.push-more.ensures)

pub returns-then-zoned-clause-met : goal.returns-then-zoned-clause-met
returns-then-zoned-clause-met c =
    let a = c.args in
    let h = seen_by a.listed.now a.renamed.now [] [] a.lent.now a.lent.now a.flags.now in
    let sees = stick-sees h a.e a.place c.name_of.ensures c.stick_places-s.ensures c.view_in-v.ensures in
    stick-met h a.e a.place a.before sees c.unturned-f.ensures c.latest-tilt.ensures

-- it is not
pub returns-clause-passed : goal.returns-clause-passed
returns-clause-passed c =
    let a = c.args in
    let h = seen_by a.listed.now a.renamed.now [] [] a.lent.now a.lent.now a.flags.now in
    let sees = stick-sees h a.e a.place c.name_of.ensures c.stick_places-s.ensures c.view_in-v.ensures in
    stick-left h a.e a.place c.name_of.ensures c.stick_places-s.ensures sees (ap (λ (m : Met). m.zoned) c.unturned-f.ensures) c.mark_flag.ensures
    c.mark_flag-2.ensures (rw c.if-zoned.false pushed_none)

pub returns-clause-met : goal.returns-clause-met
returns-clause-met c =
    let a = c.args in
    let h = seen_by a.listed.now a.renamed.now [] [] a.lent.now a.lent.now a.flags.now in
    let sees = stick-sees h a.e a.place c.name_of.ensures c.stick_places-s.ensures c.view_in-v.ensures in
    stick-met h a.e a.place a.before sees c.unturned-f.ensures c.latest-tilt.ensures
