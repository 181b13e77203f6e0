-- `passing::serve` meets its contract: by the lane, what its function leaves is what the filters make of the event.
use Rattle.std.proofs.Common.{◌≡◌, ◌∙◌, refl, sym, ap, arith}
use Rattle.passing.specs.Lane.{lane_number}
use Rattle.taking.specs.Taking.{gives_of}
use Rattle.passing.specs.Sent.{value_same, stick-same, sent-none, sent-same, sent-hat}
use Rattle.passing.specs.Served.{serves-none, serves-value, serves-hat, serves-stick}
use Rattle.passing.specs.Met.{met-else, met-here}
use Rattle.passing.proofs.Here.{seen_by}
use Rattle.passing.proofs.serve.Goals as goal

-- no filter looks at the event
pub returns-in-None-clause-sent : goal.returns-in-None-clause-sent
returns-in-None-clause-sent c = sent-none _ _ _ c.requires.small c.requires.is

pub returns-in-None-clause-served : goal.returns-in-None-clause-served
returns-in-None-clause-served c =
    let a = c.args in
    let h = seen_by a.listed.now a.renamed.now a.converts.now a.newconverts.now a.lent.now a.lent.now a.flags.now in
    serves-none a.on h (gives_of a.t) a.lent.now.marks.now refl refl refl c.push_next-more.ensures.pushed c.requires.is c.lane_of-lane.ensures (ap lane_number c.in-None.is)

pub returns-in-None-clause-met : goal.returns-in-None-clause-met
returns-in-None-clause-met c =
    let a = c.args in
    let h = seen_by a.listed.now a.renamed.now a.converts.now a.newconverts.now a.lent.now a.lent.now a.flags.now in
    met-else a.on h a.t.event a.before c.requires.is c.lane_of-lane.ensures (λ is. omega (arith, is, (ap lane_number c.in-None.is)))

-- a button's value
pub returns-in-Value-clause-sent : goal.returns-in-Value-clause-sent
returns-in-Value-clause-sent c =
    sent-same _ _ _ c.requires.small c.requires.is _ _ 1 (sym c.lane_of-lane.ensures ∙ (ap lane_number c.in-Value.is)) (λ (z : 1 ≡ 0). omega arith) c.value_sent.ensures
    (value_same _ _ _) refl

pub returns-in-Value-clause-served : goal.returns-in-Value-clause-served
returns-in-Value-clause-served c =
    let a = c.args in
    let p = c.push_next-more.ensures in
    let d = c.push_next-more.new.lent in
    let h = seen_by a.listed.now a.renamed.now a.converts.now a.newconverts.now d a.lent.now a.flags.now in
    rw (← p.alone.hasbutton, ← p.alone.hasaxis, ← p.alone.marks)
    (serves-value a.on h (gives_of a.t) d.marks.now refl refl refl p.pushed c.requires.is c.lane_of-lane.ensures (ap lane_number c.in-Value.is) c.value_sent.ensures)

pub returns-in-Value-clause-met : goal.returns-in-Value-clause-met
returns-in-Value-clause-met c =
    let a = c.args in
    let h = seen_by a.listed.now a.renamed.now a.converts.now a.newconverts.now a.lent.now a.lent.now a.flags.now in
    met-else a.on h a.t.event a.before c.requires.is c.lane_of-lane.ensures (λ is. omega (arith, is, (ap lane_number c.in-Value.is)))

-- a hat that turns
pub returns-in-Hat-clause-sent : goal.returns-in-Hat-clause-sent
returns-in-Hat-clause-sent c =
    let t = c.turn_hat.ensures.turned in
    sent-hat _ _ _ _ _ _ _ (sym c.lane_of-lane.ensures ∙ (ap lane_number c.in-Hat.is)) t.hands.event t.place t.small

pub returns-in-Hat-clause-served : goal.returns-in-Hat-clause-served
returns-in-Hat-clause-served c =
    let a = c.args in
    let p = c.push_next-more.ensures in
    let d = c.push_next-more.new.lent in
    let h = seen_by a.listed.now a.renamed.now a.converts.now a.newconverts.now d a.lent.now a.flags.now in
    rw (← p.alone.hasbutton, ← p.alone.hasaxis, ← p.alone.marks)
    (serves-hat a.on h (gives_of a.t) d.marks.now refl refl refl p.pushed c.requires.is c.lane_of-lane.ensures (ap lane_number c.in-Hat.is)
    c.turn_hat.ensures.turned.hands)

pub returns-in-Hat-clause-met : goal.returns-in-Hat-clause-met
returns-in-Hat-clause-met c =
    let a = c.args in
    let h = seen_by a.listed.now a.renamed.now a.converts.now a.newconverts.now a.lent.now a.lent.now a.flags.now in
    met-else a.on h a.t.event a.before c.requires.is c.lane_of-lane.ensures (λ is. omega (arith, is, (ap lane_number c.in-Hat.is)))

-- a stick
pub returns-in-Stick-clause-sent : goal.returns-in-Stick-clause-sent
returns-in-Stick-clause-sent c =
    let last = ap lane_number c.in-Stick.is in
    sent-same _ _ _ c.requires.small c.requires.is _ _ 3 (sym c.lane_of-lane.ensures ∙ last) (λ (z : 3 ≡ 0). omega arith) c.pass_stick.ensures.passed.hands.event
    (stick-same _ _) c.pass_stick.ensures.place

pub returns-in-Stick-clause-served : goal.returns-in-Stick-clause-served
returns-in-Stick-clause-served c =
    let last = ap lane_number c.in-Stick.is in
    let a = c.args in
    let p = c.push_next-more.ensures in
    let d = c.push_next-more.new.lent in
    let h = seen_by a.listed.now a.renamed.now a.converts.now a.newconverts.now d a.lent.now a.flags.now in
    rw (← p.alone.hasbutton, ← p.alone.hasaxis, ← p.alone.marks)
    (serves-stick a.on h (gives_of a.t) d.marks.now refl refl refl p.pushed c.requires.is c.lane_of-lane.ensures last c.pass_stick.ensures.passed)

pub returns-in-Stick-clause-met : goal.returns-in-Stick-clause-met
returns-in-Stick-clause-met c =
    let last = ap lane_number c.in-Stick.is in
    let a = c.args in
    let p = c.push_next-more.ensures in
    let d = c.push_next-more.new.lent in
    let h = seen_by a.listed.now a.renamed.now a.converts.now a.newconverts.now d a.lent.now a.flags.now in
    rw (← p.alone.hasbutton, ← p.alone.hasaxis, ← p.alone.marks)
    (met-here a.on h a.t.event a.before c.requires.is c.lane_of-lane.ensures d.marks.now refl refl refl p.pushed last c.pass_stick.ensures.met)
