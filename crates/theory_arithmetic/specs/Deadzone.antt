-- What the deadzone's theorem asks of a stick and its threshold, and what it says of both answers (`proofs/Deadzone` proves it: `deadzone-within`,
-- `deadzone-finite`); why 1 is the bound, and that the value just above it, which the factor may reach, rounds to 1.
use Rattle.std.specs.Prelude.{◌≡◌, refl, true, ◌+◌, ◌*◌, T, Float}
use Rattle.std.specs.Float.Ieee.{binary32, size, add, sub, mul, div, le, of_bits, fits}
use Rattle.numbers.specs.Constants.{zero32, one32, minus_one32}
use Rattle.numbers.specs.Deadzone.{deadzone_of}
use Rattle.numbers.specs.Order.{Between}
use Rattle.numbers.specs.declared.Pair.{Pair}
use Rattle.theory_arithmetic.specs.Units.{one, place}
use Rattle.theory_arithmetic.specs.Rounding.{rounded}

-- ---- a size of X units times the factor

-- 1 + 2 ^ -24 lies in the middle between 1 and the next value, and 1 is the even one
pub slightly-over : rounded (one * one + one * place) (one * one) ≡ one
unfolding rounded size
slightly-over = refl

-- ---- the theorem

pub record Within (p : Pair) : Type 0 where
  pub x : Between minus_one32 one32 p.x
  pub y : Between minus_one32 one32 p.y

-- what is asked of a stick and its threshold
pub record Stick (x y t : Float) : Type 0 where
  pub x_fits : T (fits binary32 x)
  pub y-fits : T (fits binary32 y)
  pub t-fits : T (fits binary32 t)
  pub x-within : Between minus_one32 one32 x
  pub y-within : Between minus_one32 one32 y
  pub t-least : le zero32 t ≡ true

-- The bound is 1 and not the input's size: at a threshold of 1.5 * 2 ^ -24 the largest value below 1 is answered with 1.
pub may-exceed : (deadzone_of (of_bits binary32 0x3f7fffff) zero32 (of_bits binary32 0x33c00000)).x ≡ one32
unfolding deadzone_of of_bits le add sub mul div
may-exceed = refl
