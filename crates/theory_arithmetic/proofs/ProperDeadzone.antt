-- The deadzone gives no sign: where x is proper, its answer is. Inside it is 0.0, and outside it is x times a factor that has no sign, since the magnitude is
-- above the threshold and at most 1.
use Rattle.std.specs.Prelude.{◌≡◌, refl, Bool, true, false, ℕ, ◌*◌, T, Float}
use Rattle.std.proofs.Common.{sym}
use Rattle.std.specs.Float.{nan, inf, fin, binary32}
use Rattle.std.specs.Float.Ieee.{mul, lt, le, of_bits, fits, is_nan}
use Rattle.std.specs.Float.Ieee.Exact.{HasValue}
use Rattle.std.specs.Float.Ieee.Fits.{round-fits}
use Rattle.numbers.specs.Constants.{zero32, one32, minus_one32}
use Rattle.numbers.specs.Root.{magnitude_of}
use Rattle.numbers.specs.Deadzone.{inside_of, norm_of, shrunk_of, deadzone_of}
use Rattle.numbers.specs.Order.{Between, not-below}
use Rattle.theory_arithmetic.specs.Units.{one}
use Rattle.theory_arithmetic.specs.Factor.{factor}
use Rattle.theory_arithmetic.specs.Operations.{mul-units}
use Rattle.theory_arithmetic.specs.Ends.{Size, size_of, outside}
use Rattle.theory_arithmetic.specs.Magnitude.{Magnitude, magnitude}
use Rattle.theory_arithmetic.specs.Deadzone.{Stick}
use Rattle.theory_arithmetic.proofs.Deadzone.{norm-is}
use Rattle.theory_arithmetic.specs.Kept.{plus, round-plus}
use Rattle.theory_arithmetic.specs.Proper.{Proper, zero-proper}

-- the sign that a value without one has
no_minus : (x : Float) (s : Bool) (p : ℕ) → T (plus x) → HasValue x s p one → s ≡ false
no_minus nan s p h v = absurd v
no_minus (inf t) s p h v = absurd v
no_minus (fin true m e) s p h v = absurd h
no_minus (fin false m e) s p h v = sym v.0

product-proper : (x y : Float) (s : Bool) (p q : ℕ) → T (plus x) → HasValue x s p one → HasValue y false q one → Proper (mul binary32 x y)
product-proper x y s p q h v w =
    rw (mul-units x y s false p q v w, no_minus x s p h v)
    (record { format = round-fits binary32 false (p * q) (one * one); unsigned = round-plus (p * q) (one * one) })

pub deadzone-proper : (x y t : Float) → Stick x y t → T (plus x) → Proper (deadzone_of x y t).x
unfolding deadzone_of inside_of shrunk_of
deadzone-proper x y t given h = go (le m t) refl
  where
    m : Float
    m = magnitude_of x y

    a : Size x
    a = size_of x given.x_fits given.x-within

    b : Size y
    b = size_of y given.y-fits given.y-within

    g : Magnitude m a.size b.size
    g = magnitude x y a b

    go : (inside : Bool) → le m t ≡ inside → Proper (shrunk_of inside (norm_of m t) x y).x
    go true e = zero-proper
    go false e =
        let o = outside m t g.units g.has given.t-fits given.t-least e in
        product-proper x (norm_of m t) a.minus a.size (factor g.units o.q) h a.has
        (norm-is m t g.units o.q g.has g.held g.most o.threshold o.less)

-- ---- one value alone, as a trigger's: the other is 0.0

above_minus_one : (x : Float) → T (plus x) → le minus_one32 x ≡ true
unfolding lt of_bits is_nan
above_minus_one nan h = absurd h
above_minus_one (inf true) h = absurd h
above_minus_one (inf false) h = not-below (inf false) minus_one32 refl refl refl
above_minus_one (fin true m e) h = absurd h
above_minus_one (fin false m e) h = not-below (fin false m e) minus_one32 refl refl refl

zero-within : Between minus_one32 one32 zero32
unfolding le of_bits
zero-within = record { low = refl; high = refl }

pub alone-proper : (x t : Float) → Proper x → le x one32 ≡ true → T (fits binary32 t) → le zero32 t ≡ true → Proper (deadzone_of x zero32 t).x
alone-proper x t p most format least =
    deadzone-proper x zero32 t
    (record {
      x_fits = p.format;
      y-fits = zero-proper.format;
      t-fits = format;
      x-within = record { low = above_minus_one x p.unsigned; high = most };
      y-within = zero-within;
      t-least = least;
    })
    p.unsigned
