-- `apply_deadzone` meets its contract: where the squares reach 1 the pair comes back, at full tilt (`full-tilt`); else pair and tilt are told by the one
-- magnitude.
use Rattle.std.specs.Prelude.{T}
use Rattle.std.proofs.Common.{sym, subst, ◌∙◌}
use Rattle.std.specs.Float.{binary32}
use Rattle.std.specs.Float.Ieee.{fits}
use Rattle.theory_arithmetic.specs.FullTilt.{full-tilt}
use Rattle.scale.proofs.apply_deadzone.Goals as goal

pub returns-then-not-inside : goal.returns-then-not-inside
returns-then-not-inside c =
    let a = c.args in
    let x_fits : T (fits binary32 a.x) = subst T (sym c.well_formed.0.1) tt in
    let y_fits : T (fits binary32 a.y) = subst T (sym c.well_formed.1.0.1) tt in
    let t_fits : T (fits binary32 a.threshold) = subst T (sym c.well_formed.1.1.0.1) tt in
    full-tilt a.x a.y a.threshold x_fits y_fits t_fits c.if-x-y.true c.if-threshold.true (sym c.inside.ensures ∙ c.if-not-inside.true)
