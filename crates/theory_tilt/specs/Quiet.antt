-- Inside is the quiet one (W-205): it gives (0.0, 0.0), by the test that the pair and the report share.
use Rattle.std.specs.Prelude.{◌≡◌, Float}
use Rattle.numbers.specs.Constants.{zero32}
use Rattle.numbers.specs.Deadzone.{inside_of, shrunk_of, deadzone_of}
use Rattle.numbers.specs.Tilt.{tilt_of}
use Rattle.numbers.specs.declared.Tilt.TheVariants.{Inside}
use Rattle.theory_tilt.specs.Three.{inside_is}

pub inside-quiet : (x y t : Float) → tilt_of x y t ≡ Inside → deadzone_of x y t ≡ record { x = zero32; y = zero32 }
unfolding deadzone_of inside_of shrunk_of
inside-quiet x y t e = rw (inside_is x y t e)
