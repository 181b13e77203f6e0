-- Newton's step for the whole root: from any s above 0 the next number, (s + w / s) / 2, is no less than the root's whole part, and where it is no less than s, s * s ≤ w.
use Rattle.std.specs.Prelude.{◌≡◌, Bool, true, false, not, ℕ, ◌+◌, ◌-◌, ◌*◌, ◌/◌, ◌≤◌, ◌<◌, T, leb}
use Rattle.std.proofs.Common.{ap, subst, le_trans, mul-le-mul_left, mul_comm, mul-add, add-mul, div-add-mod', mod-lt, arith, leb→le}
use Rattle.std.proofs.Math.Nat.{mul-div-le}
use Rattle.std.proofs.Math.Dec.{nleb→lt}
use Rattle.binary32.specs.WholeRoot.{square, twice-square}

-- 4 a b ≤ (a + b)², for b = a + c
mean-by : (a c : ℕ) → 4 * (a * (a + c)) ≤ (a + (a + c)) * (a + (a + c))
mean-by a c =
    let x = a + (a + c) in
    let e₁ = add-mul a (a + c) x in
    let e₂ = add-mul a c x in
    let e₃ = mul-add a a (a + c) in
    let e₄ = mul-add c a (a + c) in
    let e₅ = mul-add a a c in
    let e₆ = mul-add c a c in
    let e₇ = mul_comm c a in
    omega arith

mean : (a b : ℕ) → 4 * (a * b) ≤ (a + b) * (a + b)
mean a b = go (leb a b) (leb→le a b) (nleb→lt a b)
  where
    up : (a b : ℕ) → a ≤ b → 4 * (a * b) ≤ (a + b) * (a + b)
    up a b h = let e : a + (b - a) ≡ b = omega arith in subst (λ (y : ℕ). 4 * (a * y) ≤ (a + y) * (a + y)) e (mean-by a (b - a))

    turned : (a b : ℕ) → b < a → 4 * (a * b) ≤ (a + b) * (a + b)
    turned a b h =
        let l : b ≤ a = omega arith in
        let x = up b a l in
        let e = mul_comm a b in
        let f : (a + b) * (a + b) ≡ (b + a) * (b + a) = ap (λ (y : ℕ). y * y) (swap a b) in
        omega arith
      where
        swap : (a b : ℕ) → a + b ≡ b + a
        swap a b = omega arith

    go : (t : Bool) → (T t → a ≤ b) → (T (not t) → b < a) → 4 * (a * b) ≤ (a + b) * (a + b)
    go true h k = up a b (h tt)
    go false h k = turned a b (k tt)

pub closer-above : (w s : ℕ) → 0 < s → w < ((s + w / s) / 2 + 1) * ((s + w / s) / 2 + 1)
closer-above w s p =
    let d = w / s in
    let u = (s + d) / 2 + 1 in
    let a = div-add-mod' w s in
    let b = mod-lt w p in
    let c = mul-add s d 1 in
    let e = mul_comm s d in
    let f = mean s (d + 1) in
    let g = twice-square u in
    let h : s + (d + 1) ≤ 2 * u = omega arith in
    let i = square (s + (d + 1)) (2 * u) h in
    omega arith

pub closer-done : (w s : ℕ) → s ≤ (s + w / s) / 2 → s * s ≤ w
closer-done w s h = let l : s ≤ w / s = omega arith in le_trans (mul-le-mul_left s l) (mul-div-le w s)

pub closer-pos : (w t : ℕ) → 0 < w → w < (t + 1) * (t + 1) → 0 < t
closer-pos w t p h = go (leb 1 t) (leb→le 1 t) (nleb→lt 1 t)
  where
    none : t ≡ 0 → (t + 1) * (t + 1) ≡ 1
    none e = ap (λ (y : ℕ). (y + 1) * (y + 1)) e

    go : (b : Bool) → (T b → 1 ≤ t) → (T (not b) → t < 1) → 0 < t
    go true y z = y tt
    go false y z = let l = z tt in let e : t ≡ 0 = omega arith in let f = none e in omega arith
