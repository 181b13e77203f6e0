-- What a hat's axis gives at -1.0: the two ways to press a direction are one, toward the positive end, and toward the negative end with the directions exchanged.
use Rattle.std.proofs.Common.{◌≡◌, refl, Bool, true, false, ℕ}
use Rattle.std.specs.Float.Ieee.{Float, eq, neg, of_bits}
use Rattle.numbers.specs.Constants.{one32, minus_one32}
use Rattle.rules.specs.declared.Event.{Event}
use Rattle.rules.specs.declared.View.{View}
use Rattle.rules.specs.Filters.{Direction, hat_by, hat_gives}
use Rattle.filters.specs.Converted.{plus, minus}

toward-minus : (q held : Bool) (e : Event) (a b : Direction) → hat_by true false false held e b a ≡ hat_by false true held q e a b
unfolding hat_by
toward-minus q true e a b = refl
toward-minus q false e a b = refl

-- the code's -1.0 is 1.0 with its sign turned
pub minus_one : neg one32 ≡ minus_one32
unfolding neg of_bits
minus_one = refl

module _ (v : View) (e : Event) (n : ℕ) (x : Float) where
  pub at-minus :
      eq x one32 ≡ false → eq x (neg one32) ≡ true → hat_by true false false v.positive e (minus n) (plus n) ≡ hat_gives v e n x
  unfolding hat_gives
  at-minus h k = rw (h, ← minus_one, k) (toward-minus v.negative v.positive e (plus n) (minus n))
