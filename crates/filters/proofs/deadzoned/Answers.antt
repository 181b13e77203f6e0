-- `deadzoned` meets its contract: a stick's event that meets a threshold is told by the calculation's answer (`stick-meets`); the other arms need nothing.
use Rattle.filters.specs.Meets.{stick-meets}
use Rattle.filters.proofs.deadzoned.Goals as goal

pub returns-in-Axis : goal.returns-in-Axis
returns-in-Axis c =
    rw (c.stick.ensures, c.apply_deadzone-f.ensures, c.chosen.ensures) (stick-meets c.args.v c.args.e c.in-Axis.is c.if-v.true)
