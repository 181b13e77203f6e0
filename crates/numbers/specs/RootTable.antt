-- The ends and corners of the square root, as bits, found again by computing `sqrt_of`. One table, one theorem.
use Rattle.std.specs.Prelude.{◌≡◌, refl, Bool, true, ◌&&◌, List, [], ◌∷◌, ℕ, eqb}
use Rattle.std.specs.Float.{binary32}
use Rattle.std.specs.Float.Ieee.{to_bits, of_bits}
use Rattle.numbers.specs.Root.{sqrt_of}

-- the bits of a number and of its root
record Case : Type 0 where
  number : ℕ
  root : ℕ

abbrev of : ℕ → ℕ → Case
of a b = record { number = a; root = b }

abbrev right : Case → Bool
right c = eqb (to_bits binary32 (sqrt_of (of_bits binary32 c.number))) c.root

abbrev all : List Case → Bool
all [] = true
all (c ∷ cs) = right c && all cs

-- both zeros, both infinities, -1 and the largest number below 0, the three smallest, the largest subnormal and the first normal number, 1/4, 9/16, 1, 2, the largest
abbrev table : List Case
table =
    of 0x00000000 0x00000000
    ∷ of 0x80000000 0x80000000
    ∷ of 0x7f800000 0x7f800000
    ∷ of 0xff800000 0x7fc00000
    ∷ of 0xbf800000 0x7fc00000
    ∷ of 0x80000001 0x7fc00000
    ∷ of 0x00000001 0x1a3504f3
    ∷ of 0x00000002 0x1a800000
    ∷ of 0x00000003 0x1a9cc471
    ∷ of 0x007fffff 0x1fffffff
    ∷ of 0x00800000 0x20000000
    ∷ of 0x3e800000 0x3f000000
    ∷ of 0x3f100000 0x3f400000
    ∷ of 0x3f800000 0x3f800000
    ∷ of 0x40000000 0x3fb504f3
    ∷ of 0x7f7fffff 0x5f7fffff
    ∷ []

worked : all table ≡ true
unfolding sqrt_of to_bits of_bits
worked = refl
