-- What becomes of a zero: reversing Y keeps it as it is, jitter never drops it, and a stick inside its deadzone gives +0.0 twice.
use Rattle.std.specs.Prelude.{◌≡◌, refl, Bool, true, false, Float}
use Rattle.std.proofs.Common.{ap}
use Rattle.std.specs.Float.Ieee.{eq, ne}
use Rattle.numbers.specs.Constants.{zero32}
use Rattle.numbers.specs.Root.{magnitude_of}
use Rattle.numbers.specs.Scale.{turned_of}
use Rattle.numbers.specs.Deadzone.{inside_of, norm_of, shrunk_of, deadzone_of}
use Rattle.numbers.specs.Jitter.{jitter_of}

pub turned_zero : (reversed : Bool) (x : Float) → eq x zero32 ≡ true → turned_of reversed x ≡ x
unfolding turned_of ne
turned_zero true x h = rw h
turned_zero false x h = refl

pub jitter-zero : (value stored : Float) → eq value zero32 ≡ true → jitter_of value stored ≡ false
unfolding jitter_of ne
jitter-zero value stored h = rw h

pub inside-zero : (x y threshold : Float) → inside_of (magnitude_of x y) threshold ≡ true → deadzone_of x y threshold ≡ record { x = zero32; y = zero32 }
unfolding deadzone_of
inside-zero x y threshold h = ap (λ (inside : Bool). shrunk_of inside (norm_of (magnitude_of x y) threshold) x y) h
