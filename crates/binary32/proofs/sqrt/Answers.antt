-- `sqrt` meets its contract: by the bits, each way through the code is one clause of `sqrt_of`. The way below 0 is `minus_root`, which the attribute names.
use Rattle.std.specs.Prelude.{◌≡◌, Float}
use Rattle.std.proofs.Common.{sym, ap, ◌∙◌, arith}
use Rattle.std.specs.Float.{nan, binary32}
use Rattle.std.specs.Float.Ieee.{to_bits}
use Rattle.numbers.specs.Root.{sqrt_of}
use Rattle.binary32.specs.Patterns.{at-zeros, at_top, at-plus}
use Rattle.binary32.proofs.Told.{the_nan, by_bits, width}
use Rattle.binary32.proofs.sqrt.Goals as goal

nan-root : (x : Float) → x ≡ nan → x ≡ sqrt_of x
unfolding sqrt_of
nan-root x e = e ∙ ap sqrt_of (sym e)

pub returns-then-is_nan : goal.returns-then-is_nan
returns-then-is_nan c = nan-root c.args.x (the_nan c.args.x (sym c.is_nan.ensures.value ∙ c.if-is_nan.true))

pub returns-then-bits-eq0 : goal.returns-then-bits-eq0
returns-then-bits-eq0 c =
    let x = c.args.x in
    let held = c.well_formed.0.1 in
    sym (by_bits x held (λ v. v)) ∙ sym (at-zeros (to_bits binary32 x) (width x held) c.if-bits-eq0.true) ∙ by_bits x held sqrt_of

pub returns-then-bits-ge-INFINITY : goal.returns-then-bits-ge-INFINITY
returns-then-bits-ge-INFINITY c =
    let x = c.args.x in
    let held = c.well_formed.0.1 in
    sym (by_bits x held (λ v. v)) ∙ sym (at_top (to_bits binary32 x) c.if-bits-ge-INFINITY.true (omega arith)) ∙ by_bits x held sqrt_of

pub returns : goal.returns
returns c =
    let x = c.args.x in
    let held = c.well_formed.0.1 in
    c.positive.ensures ∙ sym (at-plus (to_bits binary32 x) (omega arith) c.if-bits-ge-INFINITY.false) ∙ by_bits x held sqrt_of
