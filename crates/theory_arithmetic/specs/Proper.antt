-- Values of binary32 without the sign, and that two of them which compare as equal are one value. (Of all values only 0.0 and -0.0 are equal and differ.)
-- The idea: equal fractions have the same bits, and a value of the format is what its bits say.
use Rattle.std.specs.Prelude.{◌≡◌, refl, Bool, true, false, ◌&&◌, cond, ℕ, ◌+◌, ◌-◌, ◌*◌, ◌/◌, ◌^◌, ℤ, T, eqb, Float}
use Rattle.std.proofs.Common.{sym, ap, ◌∙◌, mul_right_comm, eqb-true}
use Rattle.std.proofs.lemmas.Bool.{false≢true}
use Rattle.std.specs.Float.{nan, inf, fin, binary32}
use Rattle.std.specs.Float.Ieee.{prec, up, down, size, eq, hid, of_bits, to_bits, fits}
use Rattle.std.specs.Float.Ieee.Bits.{of_bits-to_bits}
use Rattle.std.specs.Float.Ieee.Fits.{down_pos}
use Rattle.std.specs.Float.Ieee.Nearest.{div_same}
use Rattle.numbers.specs.Constants.{zero32, one32}
use Rattle.theory_arithmetic.specs.Units.{one}
use Rattle.theory_arithmetic.specs.Kept.{plus}

-- 0.0 and +∞ are proper; -0.0, whatever lies below 0, and a NaN are not
pub record Proper (x : Float) : Type 0 where
  pub format : T (fits binary32 x)
  pub unsigned : T (plus x)

-- ---- equal is the same

same_bits : (m : ℕ) (e : ℤ) (n : ℕ) (d : ℤ) → m * up e * down d ≡ n * up d * down e → to_bits binary32 (fin false m e) ≡ to_bits binary32 (fin false n d)
unfolding to_bits
same_bits m e n d h =
    ap (λ (u : ℕ). 0 + (size u - prec binary32) * hid binary32 + u / 2 ^ (size u - prec binary32))
    (div_same (m * up e * one) (down e) (n * up d * one) (down d) (down_pos e) (down_pos d)
    (mul_right_comm (m * up e) one (down d) ∙ ap (λ (k : ℕ). k * one) h ∙ mul_right_comm (n * up d) (down e) one))

bits-of-equal : (a b : Float) → T (plus a) → T (plus b) → eq a b ≡ true → to_bits binary32 a ≡ to_bits binary32 b
unfolding eq
bits-of-equal nan b p q h = absurd p
bits-of-equal (inf true) b p q h = absurd p
bits-of-equal (inf false) nan p q h = absurd q
bits-of-equal (inf false) (inf true) p q h = absurd q
bits-of-equal (inf false) (inf false) p q h = refl
bits-of-equal (inf false) (fin t n d) p q h = absurd (false≢true h)
bits-of-equal (fin true m e) b p q h = absurd p
bits-of-equal (fin false m e) nan p q h = absurd q
bits-of-equal (fin false m e) (inf t) p q h = absurd (false≢true h)
bits-of-equal (fin false m e) (fin true n d) p q h = absurd q
bits-of-equal (fin false m e) (fin false n d) p q h =
    same_bits m e n d (eqb-true (m * up e * down d) (n * up d * down e) (first (eqb (m * up e * down d) (n * up d * down e)) h))
  where
    first : (b : Bool) → b && true ≡ true → b ≡ true
    first true h = refl
    first false h = h

pub proper-eq : (a b : Float) → Proper a → Proper b → eq a b ≡ true → a ≡ b
proper-eq a b p q h =
    sym (of_bits-to_bits binary32 a p.format) ∙ ap (of_bits binary32) (bits-of-equal a b p.unsigned q.unsigned h) ∙ of_bits-to_bits binary32 b q.format

-- ---- 0.0 and 1.0, and a choice

pub zero-proper : Proper zero32
unfolding fits of_bits
zero-proper = record { format = tt; unsigned = tt }

pub one-proper : Proper one32
unfolding fits of_bits
one-proper = record { format = tt; unsigned = tt }

pub cond-proper : (b : Bool) (x y : Float) → Proper x → Proper y → Proper (cond b x y)
cond-proper true x y p q = p
cond-proper false x y p q = q
