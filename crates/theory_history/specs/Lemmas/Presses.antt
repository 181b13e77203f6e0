-- A hat's value and its two directions: 1.0 is not -1.0, so no value presses both, and 0.0 presses neither.
use Rattle.std.specs.Prelude.{ℕ, ◌*◌, ◌<◌, Bool, true, false, cond, not, ◌&&◌, ◌≡◌, refl, eqb, pos, Float}
use Rattle.std.proofs.Common.{sym, arith, eqb-true}
use Rattle.std.specs.Float.{nan, inf, fin}
use Rattle.std.specs.Float.Ieee.{eq, level, up, down, of_bits}
use Rattle.std.specs.Float.Ieee.Fits.{down_pos}
use Rattle.numbers.specs.Constants.{zero32, one32, minus_one32}
use Rattle.theory_history.specs.Rule.{pressing_value}
use Rattle.theory_history.specs.Lemmas.Truth.{false-true}

level-one : (s : Bool) (a b : ℕ) → 0 < b → (same none : Bool) → eqb a b ≡ same → eqb a 0 ≡ none → level s a false b ≡ true → level s a true b ≡ false
level-one s a b some true true e z l = absurd (omega (arith, eqb-true a b e, eqb-true a 0 z))
level-one true a b some true false e z l = false-true (rw (e, z) at l)
level-one false a b some true false e z l = rw (e, z)
level-one s a b some false none e z l = false-true (rw e at l)

one-sided : (v : Float) → eq v one32 ≡ true → eq v minus_one32 ≡ false
unfolding eq of_bits
one-sided nan e = false-true e
one-sided (inf s) e = false-true e
one-sided (fin s m e) l =
    level-one s (m * up e * down (pos 0)) (1 * up (pos 0) * down e) (omega (arith, down_pos e)) (eqb (m * up e * down (pos 0)) (1 * up (pos 0) * down e))
    (eqb (m * up e * down (pos 0)) 0) refl refl l

-- the conversion asks for 1.0 first
pub presses : (positive : Bool) (v : Float) → cond positive (eq v one32) (not (eq v one32) && eq v minus_one32) ≡ eq v (pressing_value positive)
presses true v = refl
presses false v = by (eq v one32) refl
  where
    by : (one : Bool) → eq v one32 ≡ one → (not one && eq v minus_one32) ≡ eq v minus_one32
    by true e = sym (one-sided v e)
    by false e = refl

pub zero-presses : (positive : Bool) → eq zero32 (pressing_value positive) ≡ false
unfolding eq of_bits
zero-presses true = refl
zero-presses false = refl
