-- Where an operation cannot give a NaN: with a finite operand, and in a product or a quotient with one that is not 0.
use Rattle.std.specs.Prelude.{◌≡◌, refl, Bool, true, false, not, ◌&&◌, cond, ℕ, zero, suc, ◌+◌, ◌-◌, ◌*◌, ◌^◌, T, ltb, Float}
use Rattle.std.specs.Bool.{beq}
use Rattle.std.proofs.Math.Dec.{eqb-suc-zero}
use Rattle.std.specs.Float.{Format, nan, inf, fin}
use Rattle.std.specs.Float.Ieee.{prec, emax, low, up, down, unlike, odd, units, round, sum, add, sub, mul, div, neg, is_nan}
use Rattle.std.specs.Float.Ieee.Fits.{round_is}
use Rattle.std.specs.Float.Ieee.Scale.{finite}

-- finite and not 0
abbrev pub divisor : Float → Bool
divisor nan = false
divisor (inf s) = false
divisor (fin s zero e) = false
divisor (fin s (suc m) e) = true

odd_number : (d : ℕ) (s : Bool) (q k l : ℕ) → is_nan (odd d s q k l) ≡ false
unfolding odd is_nan
odd_number d s zero k l = refl
odd_number d s (suc q) k l = refl

picked : (b : Bool) (x y : Float) → is_nan x ≡ false → is_nan y ≡ false → is_nan (cond b x y) ≡ false
picked true x y p q = p
picked false x y p q = q

infinite : (s : Bool) → is_nan (inf s) ≡ false
unfolding is_nan
infinite s = refl

units_number : (f : Format) (s : Bool) (q k : ℕ) → is_nan (units f s q k) ≡ false
unfolding units
units_number f s q k = picked (ltb (q * 2 ^ k) (2 ^ (low f + suc (emax f)))) (odd (suc (prec f)) s q k (low f)) (inf s) (odd_number (suc (prec f)) s q k (low f)) (infinite s)

pub round_number : (f : Format) (s : Bool) (a c : ℕ) → is_nan (round f s a c) ≡ false
round_number f s a c = rw (round_is f s a c) (units_number f s _ _)

sum_number : (f : Format) (s : Bool) (a : ℕ) (t : Bool) (b c : ℕ) → is_nan (sum f s a t b c) ≡ false
unfolding sum
sum_number f s a t b c =
    picked (beq s t) (round f s (a + b) c) (cond (ltb a b) (round f t (b - a) c) (round f (s && ltb b a) (a - b) c)) (round_number f s (a + b) c)
    (picked (ltb a b) (round f t (b - a) c) (round f (s && ltb b a) (a - b) c) (round_number f t (b - a) c) (round_number f (s && ltb b a) (a - b) c))

-- a sum or a difference with a finite value
pub add-number : (f : Format) (x y : Float) → is_nan x ≡ false → T (finite y) → is_nan (add f x y) ≡ false
unfolding add
add-number f nan y h p = cc
add-number f (inf t) nan h p = absurd p
add-number f (inf t) (inf s) h p = absurd p
add-number f (inf t) (fin s m e) h p = infinite t
add-number f (fin t n d) nan h p = absurd p
add-number f (fin t n d) (inf s) h p = absurd p
add-number f (fin t n d) (fin s m e) h p = sum_number f t (n * up d * down e) s (m * up e * down d) (down d * down e)

pub sub_number : (f : Format) (x y : Float) → is_nan x ≡ false → T (finite y) → is_nan (sub f x y) ≡ false
unfolding sub neg
sub_number f x nan h p = absurd p
sub_number f x (inf s) h p = absurd p
sub_number f x (fin s m e) h p = add-number f x (fin (not s) m e) h p

-- a product or a quotient with a finite value that is not 0
pub mul-number : (f : Format) (x y : Float) → is_nan x ≡ false → T (divisor y) → is_nan (mul f x y) ≡ false
unfolding mul
mul-number f nan y h p = cc
mul-number f (inf s) nan h p = absurd p
mul-number f (inf s) (inf t) h p = absurd p
mul-number f (inf s) (fin t zero d) h p = absurd p
mul-number f (inf s) (fin t (suc n) d) h p = rw (eqb-suc-zero n) (infinite (unlike s t))
mul-number f (fin s m e) nan h p = absurd p
mul-number f (fin s m e) (inf t) h p = absurd p
mul-number f (fin s m e) (fin t n d) h p = round_number f (unlike s t) (m * up e * (n * up d)) (down e * down d)

pub div-number : (f : Format) (x y : Float) → is_nan x ≡ false → T (divisor y) → is_nan (div f x y) ≡ false
unfolding div
div-number f nan y h p = cc
div-number f (inf s) nan h p = absurd p
div-number f (inf s) (inf t) h p = absurd p
div-number f (inf s) (fin t n d) h p = infinite (unlike s t)
div-number f (fin s m e) nan h p = absurd p
div-number f (fin s m e) (inf t) h p = absurd p
div-number f (fin s m e) (fin t zero d) h p = absurd p
div-number f (fin s m e) (fin t (suc n) d) h p = rw (eqb-suc-zero n) (round_number f (unlike s t) (m * up e * down d) (suc n * up d * down e))

pub neg-number : (x : Float) → is_nan x ≡ false → is_nan (neg x) ≡ false
unfolding neg is_nan
neg-number nan h = h
neg-number (inf s) h = refl
neg-number (fin s m e) h = refl
