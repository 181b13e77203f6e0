-- The laws of the whole root: r * r ≤ w < (r + 1) * (r + 1) for r = root 24 w 0, and only for it; and what rounding it to the nearest says.
use Rattle.std.specs.Prelude.{◌≡◌, Bool, true, false, not, cond, ℕ, zero, suc, ◌+◌, ◌-◌, ◌*◌, ◌^◌, ◌≤◌, ◌<◌, T, leb, ltb}
use Rattle.std.proofs.Common.{sym, ap, ◌∙◌, subst, le_trans, lt_irrefl, lt_of_lt_of_le, lt_of_not-le, mul-le-mul, mul-add, add-mul, add_assoc, mul_assoc, mul_left_comm, arith, leb→le, ltb→lt, nltb→le}
use Rattle.std.proofs.Math.Nat.{two-pow-succ}
use Rattle.std.proofs.Math.Dec.{nleb→lt}
use Rattle.numbers.specs.Root.{root, rounded, near}

-- r is the whole part of the root of w
pub record Floor (w r : ℕ) : Type 0 where
  pub below : r * r ≤ w
  pub above : w < (r + 1) * (r + 1)

pub square : (a b : ℕ) → a ≤ b → a * a ≤ b * b
square a b h = mul-le-mul h h

-- ---- the two laws

doubled : (k n acc : ℕ) → n < (acc + 2 ^ suc k) * (acc + 2 ^ suc k) → n < (acc + 2 ^ k + 2 ^ k) * (acc + 2 ^ k + 2 ^ k)
doubled k n acc h = subst (λ (x : ℕ). n < x * x) (ap (λ (x : ℕ). acc + x) (two-pow-succ k) ∙ sym (add_assoc acc (2 ^ k) (2 ^ k))) h

root_laws : (k n acc : ℕ) → acc * acc ≤ n → n < (acc + 2 ^ k) * (acc + 2 ^ k) → Floor n (root k n acc)
unfolding root
root_laws zero n acc lo hi = record { below = lo; above = hi }
root_laws (suc k) n acc lo hi =
    go (leb ((acc + 2 ^ k) * (acc + 2 ^ k)) n) (leb→le ((acc + 2 ^ k) * (acc + 2 ^ k)) n) (nleb→lt ((acc + 2 ^ k) * (acc + 2 ^ k)) n) (root_laws k n)
  where
    go : (b : Bool) → (T b → (acc + 2 ^ k) * (acc + 2 ^ k) ≤ n) → (T (not b) → n < (acc + 2 ^ k) * (acc + 2 ^ k))
        → ((a : ℕ) → a * a ≤ n → n < (a + 2 ^ k) * (a + 2 ^ k) → Floor n (root k n a)) → Floor n (root k n (cond b (acc + 2 ^ k) acc))
    go true y z ih = ih (acc + 2 ^ k) (y tt) (doubled k n acc hi)
    go false y z ih = ih acc lo (z tt)

pub root-floor : (w : ℕ) → w < 2 ^ 48 → Floor w (root 24 w 0)
root-floor w h = root_laws 24 w 0 (omega arith) h

-- ---- and no other number has them

less : (w r s : ℕ) → Floor w r → Floor w s → r < s + 1
less w r s a b = lt_of_not-le (λ (h : s + 1 ≤ r). lt_irrefl w (lt_of_lt_of_le b.above (le_trans (square (s + 1) r h) a.below)))

pub only : (w r s : ℕ) → Floor w r → Floor w s → r ≡ s
only w r s a b =
    let x = less w r s a b in
    let y = less w s r b a in
    omega arith

pub near-is : (w r : ℕ) → w < 2 ^ 48 → Floor w r → near w ≡ rounded w r
unfolding near
near-is w r h f = ap (rounded w) (only w (root 24 w 0) r (root-floor w h) f)

-- ---- rounded to the nearest

pub next-square : (a : ℕ) → (a + 1) * (a + 1) ≡ a * a + 2 * a + 1
next-square a =
    let x = add-mul a 1 (a + 1) in
    let y = mul-add a a 1 in
    omega arith

pub twice-square : (a : ℕ) → (2 * a) * (2 * a) ≡ 4 * (a * a)
twice-square a = mul_assoc 2 a (2 * a) ∙ ap (λ (x : ℕ). 2 * x) (mul_left_comm a 2 a) ∙ sym (mul_assoc 2 2 (a * a))

-- q is the nearest to the root of w, and there is no tie
pub record Near (w q : ℕ) : Type 0 where
  pub over : (2 * q - 1) * (2 * q - 1) < 4 * w
  pub under : 4 * w < (2 * q + 1) * (2 * q + 1)

-- (2 q + 1)² for a whole q
mid : (q : ℕ) → (2 * q + 1) * (2 * q + 1) ≡ 4 * (q * q) + 4 * q + 1
mid q =
    let x = next-square (2 * q) in
    let y = twice-square q in
    omega arith

mid-below : (p : ℕ) → (2 * suc p - 1) * (2 * suc p - 1) ≡ 4 * (p * p) + 4 * p + 1
mid-below p = ap (λ (x : ℕ). x * x) (plain p) ∙ mid p
  where
    plain : (p : ℕ) → 2 * suc p - 1 ≡ 2 * p + 1
    plain p = omega arith

near_up : (w r : ℕ) → Floor w r → r < w - r * r → Near w (r + 1)
near_up w r f h =
    let a = mid (r + 1) in
    let b = mid r in
    let e : 2 * (r + 1) - 1 ≡ 2 * r + 1 = omega arith in
    let g = f.above in
    record { over = rw e (omega arith); under = omega arith }

near_down : (w r : ℕ) → 0 < w → Floor w r → w - r * r ≤ r → Near w r
near_down w zero p f h = record { over = omega arith; under = omega arith }
near_down w (suc r) p f h =
    let a = mid (suc r) in
    let b = mid-below r in
    let d = next-square r in
    let e : suc r * suc r ≡ (r + 1) * (r + 1) = ap (λ (x : ℕ). x * x) (plain r) in
    let g = f.below in
    record { over = omega arith; under = omega arith }
  where
    plain : (r : ℕ) → suc r ≡ r + 1
    plain r = omega arith

pub nearest : (w r : ℕ) → 0 < w → Floor w r → Near w (rounded w r)
nearest w r p f = go (ltb r (w - r * r)) (ltb→lt r (w - r * r)) (nltb→le r (w - r * r))
  where
    go : (b : Bool) → (T b → r < w - r * r) → (T (not b) → w - r * r ≤ r) → Near w (cond b (r + 1) r)
    go true y z = near_up w r f (y tt)
    go false y z = near_down w r p f (z tt)
