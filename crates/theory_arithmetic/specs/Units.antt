-- Sizes in units of binary32's smallest value, 2 ^ -149: the names of those that the theorem needs, and that powers of two and the double of a value are values.
use Rattle.std.proofs.Common.{sym, ap, ◌∙◌, lt_of_le_of_lt, one-mul, mul-pos, mul_left_comm, lit<, pow_pos}
use Rattle.std.specs.Prelude.{ℕ, suc, ◌*◌, ◌^◌, ◌≤◌, ◌<◌}
use Rattle.std.proofs.Math.Nat.{pow-succ'}
use Rattle.std.proofs.Math.Pow.{pow-lt}
use Rattle.binary32.specs.Values.{Held}

-- how many units 1/2, 1 and 2 are
abbrev pub half : ℕ
half = 2 ^ 148

abbrev pub one : ℕ
one = 2 ^ 149

abbrev pub two : ℕ
two = 2 ^ 150

-- from here on a result is an infinity
abbrev pub too_large : ℕ
too_large = 2 ^ 277

-- between 1/2 and 1 the values are the multiples of this
abbrev pub place : ℕ
place = 2 ^ 125

pub one-pos : 0 < one
one-pos = pow_pos 149

pub ones_pos : 0 < one * one
ones_pos = mul-pos one-pos one-pos

-- ---- `Held p`: p units are a value of the format

pub power-held : (j : ℕ) → j < 277 → Held (2 ^ j)
power-held j h = record { d = 1; j = j; same = sym (one-mul (2 ^ j)); short = lit< tt; small = pow-lt h }

pub one-held : Held one
one-held = power-held 149 (lit< tt)

pub two-held : Held two
two-held = power-held 150 (lit< tt)

pub double-held : (p : ℕ) → Held p → 2 * p ≤ one → Held (2 * p)
double-held p h l =
    record {
      d = h.d;
      j = suc h.j;
      same = ap (λ (x : ℕ). 2 * x) h.same ∙ mul_left_comm 2 h.d (2 ^ h.j) ∙ ap (λ (x : ℕ). h.d * x) (sym (pow-succ' 2 h.j));
      short = h.short;
      small = lt_of_le_of_lt l (lit< tt);
    }
