-- `wire::field` meets its contract: up to eight bytes, the number so far leaves room for one byte more.
use Rattle.std.proofs.Common.{ℕ, ◌≤◌, ◌<◌, ◌^◌, lit<, arith}
use Rattle.std.proofs.Math.Nat.{pow-le-pow_right}
use Rattle.wire.proofs.field.Goals as goal

room : (x w : ℕ) → x < 256 ^ w → w ≤ 7 → x < 2 ^ 56
room x w h k = let p : 256 ^ w ≤ 256 ^ 7 = pow-le-pow_right (lit< tt) k in omega arith

pub overflow_mul-x : goal.overflow_mul-x
overflow_mul-x c = omega (arith, room c.loop-byte.x c.loop-byte.byte-index c.loop-byte.invariant.small (omega arith))

pub overflow_add-x : goal.overflow_add-x
overflow_add-x c = omega (arith, room c.loop-byte.x c.loop-byte.byte-index c.loop-byte.invariant.small (omega arith))
