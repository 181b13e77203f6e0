-- `hat` meets its contract: at -1.0, what `toward` ensures of the directions exchanged is what the law book gives there (`Hats`); the rest needs nothing.
use Rattle.std.proofs.Common.{ap}
use Rattle.filters.specs.Converted.{counted}
use Rattle.filters.proofs.Hats.{at-minus}
use Rattle.filters.proofs.dpad.hat.Goals as goal

pub returns-then-x-2 : goal.returns-then-x-2
returns-then-x-2 c =
    rw (c.toward-then-x-2.ensures, c.positive-up.ensures, c.negative-down.ensures) (ap counted (at-minus _ _ _ _ c.if-x.false c.if-x-2.true))
