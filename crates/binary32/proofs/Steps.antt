-- Newton's steps of `floor_root`: from a number above 0 each next one lies above 0 too, and is not below the root.
use Rattle.std.specs.Prelude.{◌≡◌, ℕ, ◌+◌, ◌*◌, ◌/◌, ◌≤◌, ◌<◌}
use Rattle.std.proofs.Common.{sym, subst, arith}
use Rattle.binary32.specs.Newton.{closer-above, closer-pos}

-- not below the root
pub record Above (w s : ℕ) : Type 0 where
  pub some : 0 < s
  pub few : s ≤ 16777216
  pub above : w < (s + 1) * (s + 1)

pub next : (w s t : ℕ) → 0 < w → 0 < s → t ≡ (s + w / s) / 2 → t ≤ 16777216 → Above w t
next w s t p q e l =
    let a : w < (t + 1) * (t + 1) = subst (λ (y : ℕ). w < (y + 1) * (y + 1)) (sym e) (closer-above w s q) in
    record { some = closer-pos w t p a; few = l; above = a }

-- the first step is from 2 ^ 24
pub first : (w t : ℕ) → 0 < w → w < 281474976710656 → t ≡ (16777216 + w / 16777216) / 2 → Above w t
first w t p h e = next w 16777216 t p (omega arith) e (omega arith)
