-- `shrink_value` meets its contract: with a threshold of 0 the value comes back (`unmoved`), else it is shrunk by its magnitude.
use Rattle.std.specs.Prelude.{T}
use Rattle.std.proofs.Common.{sym, ap, subst}
use Rattle.std.specs.Float.{binary32}
use Rattle.std.specs.Float.Ieee.{fits}
use Rattle.std.specs.Float.Ieee.Bits.{of_bits-fits}
use Rattle.numbers.specs.Constants.{zero32}
use Rattle.numbers.specs.declared.Pair.{Pair}
use Rattle.theory_arithmetic.specs.Unmoved.{unmoved}
use Rattle.scale.proofs.shrink_value.Goals as goal

pub returns-then-x : goal.returns-then-x
returns-then-x c =
    let a = c.args in
    let x_fits : T (fits binary32 a.x) = subst T (sym c.well_formed.0.1) tt in
    ap (λ (p : Pair). p.x) (unmoved a.x zero32 a.threshold x_fits (of_bits-fits binary32 0) c.if-threshold.true c.if-x.true)
