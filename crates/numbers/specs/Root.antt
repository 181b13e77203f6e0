-- The square root of a binary32, rounded once to the nearest value, over whole numbers alone; and the magnitude of a stick.
-- Definitions only: that `sqrt_of x` is the value of binary32 nearest to the root of x is the theorem `nearest-root` of the crate `binary32`.
use Rattle.std.specs.Prelude.{false, cond, ℕ, zero, suc, ◌+◌, ◌-◌, ◌*◌, ◌/◌, ◌^◌, ℤ, leb, ltb, eqb, Float}
use Rattle.std.specs.Float.Ieee as Ieee
use Rattle.std.specs.Float.{nan, inf, fin, binary32}
use Rattle.std.specs.Float.Ieee.{up, down, size, odd}
use Rattle.numbers.specs.Constants.{zero32, one32}
use Rattle.numbers.specs.Clamp.{clamp_of}

-- the largest r below acc + 2 ^ k with r * r ≤ n, tried from the highest digit down
unfoldable pub root : ℕ → ℕ → ℕ → ℕ
root zero n acc = acc
root (suc k) n acc = root k n (cond (leb ((acc + 2 ^ k) * (acc + 2 ^ k)) n) (acc + 2 ^ k) acc)

-- With r = ⌊√w⌋, the whole number nearest to √w: r, or r + 1 where w lies above (r + 1/2)², that is above r * r + r.
abbrev pub rounded : ℕ → ℕ → ℕ
rounded w r = cond (ltb r (w - r * r)) (r + 1) r

-- the whole number nearest to the root of a w below 2 ^ 48
unfoldable pub near : ℕ → ℕ
unfolding root
near w = rounded w (root 24 w 0)

-- In units of the smallest value, 2 ^ -149, the root of n units is √(n * 2 ^ 149) units. Its lowest `places n` digits are rounded away, so that 24 are left.
unfoldable pub places : ℕ → ℕ
unfolding size
places n = size n / 2 + 51

unfoldable pub digits : ℕ → ℕ
unfolding near places
digits n = near (n * 2 ^ 149 / 2 ^ (2 * places n))

unfoldable pub root_units : ℕ → Float
unfolding digits odd
root_units n = odd 24 false (digits n) (places n) 149

-- how many of the smallest value the number m * 2 ^ e is
abbrev pub units_of : ℕ → ℤ → ℕ
units_of m e = m * up e * 2 ^ 149 / down e

-- IEEE 754's square_root: a zero keeps its sign, and what lies below 0 has none
unfoldable pub sqrt_of : Float → Float
unfolding root_units
sqrt_of nan = nan
sqrt_of (inf s) = cond s nan (inf s)
sqrt_of (fin s m e) = cond (eqb m 0) (fin s m e) (cond s nan (root_units (units_of m e)))

-- "Magnitude sqrt(x*x + y*y) held to 0..1", each operation rounded once
unfoldable pub magnitude_of : Float → Float → Float
unfolding sqrt_of clamp_of
magnitude_of x y = clamp_of (sqrt_of (Ieee.add binary32 (Ieee.mul binary32 x x) (Ieee.mul binary32 y y))) zero32 one32
