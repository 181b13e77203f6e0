-- What lies below 0 is held to 0.0, and has not the sign; -0.0 alone would keep it. The theorem of a trigger's values stands in `proofs/Trigger`.
use Rattle.std.specs.Prelude.{◌≡◌, true, Float}
use Rattle.std.proofs.Common.{sym, mul-pos, arith, lt-ltb}
use Rattle.std.proofs.Math.Path.{subst}
use Rattle.std.proofs.Math.Bool.{false}
use Rattle.std.proofs.lemmas.Bool.{false≢true}
use Prim.Native.Nat.{ℕ, ◌+◌, ◌*◌, ◌^◌, ◌<◌}
use Rattle.std.specs.Float.{nan, inf, fin}
use Rattle.std.specs.Float.Ieee.{up, down, lt, of_bits}
use Rattle.std.specs.Float.Ieee.Exact.{HasValue}
use Rattle.std.specs.Float.Ieee.Fits.{down_pos}
use Rattle.std.specs.Float.Ieee.Positive.{first_pos}
use Rattle.numbers.specs.Constants.{zero32, one32}
use Rattle.numbers.specs.Clamp.{clamp_of}
use Rattle.theory_arithmetic.specs.Units.{one}

-- the whole numbers up to 2 ^ 24 are values
abbrev pub most : ℕ
most = 2 ^ 24

-- ---- held to 0..1

-- what lies below 0
pub clamp-below : (x : Float) (p : ℕ) → HasValue x true p one → 0 < p → clamp_of x zero32 one32 ≡ zero32
unfolding clamp_of lt of_bits
clamp-below nan p v h = absurd v
clamp-below (inf s) p v h = absurd v
clamp-below (fin false m e) p v h = absurd (false≢true v.0)
clamp-below (fin true m e) p v h =
    let some : 0 < m * up e = first_pos (m * up e) one (subst (λ (k : ℕ). 0 < k) (sym v.1) (mul-pos h (down_pos e))) in
    rw (lt-ltb 0 (m * up e * 1 + 0 * down e) (omega arith))
