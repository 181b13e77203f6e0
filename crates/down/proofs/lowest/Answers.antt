-- `down::lowest` meets its contract: the zeros below the lowest bit of 64, as far as a pad has places.
use Rattle.std.proofs.Common.{◌∙◌, ap, arith}
use Rattle.rules.specs.Down.{lowest_of}
use Rattle.down.specs.Bits.{lowest-is, lowest-small}
use Rattle.down.proofs.lowest.Goals as goal

pub returns : goal.returns
returns c =
    let is = c.least.ensures ∙ lowest-is c.read.result in (
      is ∙ ap lowest_of c.read.ensures,
      omega (arith, is, lowest-small c.read.result),
    )
