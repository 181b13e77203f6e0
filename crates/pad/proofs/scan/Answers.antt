-- `pad::scan` meets its contract: the scan stops at a place that has the name, and goes on behind one that has not.
use Rattle.std.proofs.Common.{◌≡◌, ◌+◌, ◌-◌, sym, ◌∙◌, arith}
use Rattle.pad.specs.Search.{scan-here, scan-next, scan-none}
use Rattle.pad.proofs.scan.Goals as goal

pub returns-then-names-place : goal.returns-then-names-place
returns-then-names-place c =
    record { is = scan-here _ _ _ _ (omega arith) c.if-names-place.true ∙ c.loop-place.invariant; small = omega arith }

pub loop-place-preserved : goal.loop-place-preserved
loop-place-preserved c =
    let end = c.args.start + c.args.n in
    let fewer : end - (c.loop-place.place + 1) ≡ end - c.loop-place.place - 1 = omega arith in
    rw fewer (sym (scan-next _ _ _ _ (omega arith) c.if-names-place.false) ∙ c.loop-place.invariant)

pub returns : goal.returns
returns c = record { is = scan-none _ _ _ _ (omega arith) ∙ c.loop-place.invariant; small = omega arith }
