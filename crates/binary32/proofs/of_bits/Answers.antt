-- `of_bits` meets its contract: a pattern above +∞'s, the sign left out, is a NaN's, and any other has its value.
use Rattle.std.specs.Prelude.{◌≡◌, Bool, not, ℕ, ◌%◌, ◌<◌, T}
use Rattle.std.proofs.Common.{sym, subst, ◌∙◌, le-ltb}
use Rattle.std.specs.Float.{nan, binary32}
use Rattle.std.specs.Float.Ieee.{of_bits}
use Rattle.std.specs.Float.Ieee.Bits.{nan_bits_is, nan_bits_above}
use borrow.Author.Tests.{lt-ltb}
use Rattle.binary32.specs.Patterns.{nan_value}
use Rattle.binary32.proofs.Told.{the_nan}
use Rattle.binary32.proofs.of_bits.Goals as goal

above : (bits : ℕ) → 0x7f800000 < bits % 0x80000000 → of_bits binary32 bits ≡ nan
above bits h = the_nan (of_bits binary32 bits) (sym (nan_bits_is binary32 bits) ∙ nan_bits_above binary32 bits ∙ lt-ltb 0x7f800000 (bits % 0x80000000) h)

pub returns-then-bits-gt-INFINITY : goal.returns-then-bits-gt-INFINITY
returns-then-bits-gt-INFINITY c = nan_value ∙ sym (above c.args.bits c.if-bits-gt-INFINITY.true)

pub float_from_bits-result : goal.float_from_bits-result
float_from_bits-result c =
    let bits = c.args.bits in
    subst (λ (b : Bool). T (not b)) (sym (nan_bits_above binary32 bits ∙ le-ltb 0x7f800000 (bits % 0x80000000) c.if-bits-gt-INFINITY.false)) tt
