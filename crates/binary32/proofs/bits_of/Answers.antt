-- `bits_of` meets its contract: the NaN's bits are the definition's.
use Rattle.std.specs.Prelude.{◌≡◌, refl}
use Rattle.std.proofs.Common.{sym, ap, ◌∙◌}
use Rattle.std.specs.Float.{nan, binary32}
use Rattle.std.specs.Float.Ieee.{to_bits}
use Rattle.binary32.proofs.Told.{the_nan}
use Rattle.binary32.proofs.bits_of.Goals as goal

nan-bits : 0x7fc00000 ≡ to_bits binary32 nan
unfolding to_bits
nan-bits = refl

pub returns-then-is_nan : goal.returns-then-is_nan
returns-then-is_nan c = nan-bits ∙ ap (to_bits binary32) (sym (the_nan c.args.x (sym c.is_nan.ensures.value ∙ c.if-is_nan.true)))
