-- What the bits of an `f32` tell of its root. Owning the value tells that it is one of binary32, so its bits are a number of 32 digits, and they say what it is.
use Rattle.std.specs.Prelude.{◌≡◌, true, ◌%◌, ◌<◌, ◌≤◌, T, Float}
use Rattle.std.proofs.Common.{sym, ap, ◌∙◌, subst}
use Rattle.std.specs.Float.{nan, inf, fin, binary32}
use Rattle.std.specs.Float.Ieee.{to_bits, of_bits, is_nan, fits}
use Rattle.std.specs.Float.Ieee.Bits.{of_bits-to_bits, to_bits-lt}
use Rattle.numbers.specs.Root.{sqrt_of}
use Rattle.binary32.specs.Patterns.{nan_value, at-minus}

pub the_nan : (x : Float) → is_nan x ≡ true → x ≡ nan
unfolding is_nan
the_nan nan h = cc
the_nan (inf s) h = cc
the_nan (fin s m e) h = cc

module _ (x : Float) (held : fits binary32 x ≡ true) where
  kept : T (fits binary32 x)
  kept = subst T (sym held) tt

  pub by_bits : (v : Float → Float) → v (of_bits binary32 (to_bits binary32 x)) ≡ v x
  by_bits v = ap v (of_bits-to_bits binary32 x kept)

  pub width : to_bits binary32 x < 4294967296
  width = to_bits-lt binary32 x kept

  -- below 0
  pub minus_root :
      2147483648 ≤ to_bits binary32 x →
      (to_bits binary32 x % 2147483648 ≡ 0 → ⊥) →
      of_bits binary32 0x7fc00000 ≡ sqrt_of x
  minus_root below some = nan_value ∙ sym (at-minus (to_bits binary32 x) width below some) ∙ by_bits sqrt_of
