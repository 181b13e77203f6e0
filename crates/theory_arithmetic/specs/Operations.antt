-- The operations of binary32 on values that are given in units of 2 ^ -149: each is `round` of the fraction of the units, however the values are written.
use Rattle.std.specs.Prelude.{◌≡◌, refl, Bool, true, false, not, ℕ, ◌+◌, ◌-◌, ◌*◌, ◌≤◌, ◌<◌, ℤ, Float}
use Rattle.std.proofs.Common.{sym, ap, ◌∙◌, subst, le_trans, le_of_eq, mul_assoc, mul_comm, mul_right_comm, mul_left_comm, mul-pos, add-mul, le_of_mul-le-mul_right, mul-le-mul_right, arith, le-ltb, ne_eqb}
use Rattle.std.proofs.Math.Nat.{mul-mul-mul_comm, mul-sub, eq_of_mul-eq-mul_right}
use Rattle.std.specs.Float.{nan, inf, fin, binary32}
use Rattle.std.specs.Float.Ieee.{unlike, up, down, round, sum, add, sub, mul, div, neg}
use Rattle.std.specs.Float.Ieee.Exact.{HasValue}
use Rattle.std.specs.Float.Ieee.Fits.{up_pos, down_pos}
use Rattle.std.specs.Float.Ieee.Positive.{first_pos}
use Rattle.std.specs.Float.Ieee.Scale.{round_same}
use Rattle.theory_arithmetic.specs.Units.{one, one-pos, ones_pos}

-- ---- the product

pub mul-units : (x y : Float) (s t : Bool) (p q : ℕ) → HasValue x s p one → HasValue y t q one → mul binary32 x y ≡ round binary32 (unlike s t) (p * q) (one * one)
unfolding mul
mul-units nan y s t p q v w = absurd v
mul-units (inf a) y s t p q v w = absurd v
mul-units (fin a m e) nan s t p q v w = absurd w
mul-units (fin a m e) (inf b) s t p q v w = absurd w
mul-units (fin a m e) (fin b n d) s t p q v w =
    rw (v.0, w.0)
    (round_same binary32 (unlike s t) (m * up e * (n * up d)) (down e * down d) (p * q) (one * one) (mul-pos (down_pos e) (down_pos d)) ones_pos
    (mul-mul-mul_comm (m * up e) (n * up d) one one
    ∙ ap (λ (k : ℕ). k * (n * up d * one)) v.1
    ∙ ap (λ (k : ℕ). p * down e * k) w.1
    ∙ mul-mul-mul_comm p (down e) q (down d)))

-- ---- the quotient

quotient : (a b c d p q u : ℕ) → 0 < u → a * u ≡ p * c → b * u ≡ q * d → a * d * q ≡ p * (b * c)
quotient a b c d p q u pos v w =
    eq_of_mul-eq-mul_right u pos (a * d * q) (p * (b * c))
    (simp (mul_assoc, mul_comm, mul_left_comm) (simp (mul_assoc, mul_comm, mul_left_comm) at (ap (λ (k : ℕ). k * (d * q)) v ∙ ap (λ (k : ℕ). p * c * k) (mul_comm d q ∙ sym w))))

not-zero : (n u w d q : ℕ) → 0 < q → 0 < d → n * u * w ≡ q * d → 0 < n
not-zero n u w d q Q D h = first_pos n u (first_pos (n * u) w (subst (λ (k : ℕ). 0 < k) (sym h) (mul-pos Q D)))

pub div-units : (x y : Float) (s t : Bool) (p q : ℕ) → HasValue x s p one → HasValue y t q one → 0 < q → div binary32 x y ≡ round binary32 (unlike s t) p q
unfolding div
div-units nan y s t p q v w h = absurd v
div-units (inf a) y s t p q v w h = absurd v
div-units (fin a m e) nan s t p q v w h = absurd w
div-units (fin a m e) (inf b) s t p q v w h = absurd w
div-units (fin a m e) (fin b n d) s t p q v w h =
    let some = not-zero n (up d) one (down d) q h (down_pos d) w.1 in
    rw (ne_eqb n 0 (λ (z : n ≡ 0). none n some z), v.0, w.0)
    (round_same binary32 (unlike s t) (m * up e * down d) (n * up d * down e) p q (mul-pos (mul-pos some (up_pos d)) (down_pos e)) h
    (quotient (m * up e) (n * up d) (down e) (down d) p q one one-pos v.1 w.1))
  where
    none : (n : ℕ) → 0 < n → n ≡ 0 → ⊥
    none n h e = omega arith

-- ---- the sum of two that are not negative

-- over the one divisor c
over : (a p c d u : ℕ) → a * u ≡ p * c → a * d * u ≡ p * (c * d)
over a p c d u v = mul_right_comm a d u ∙ ap (λ (k : ℕ). k * d) v ∙ mul_assoc p c d

over-other : (a p c d u : ℕ) → a * u ≡ p * d → a * c * u ≡ p * (c * d)
over-other a p c d u v = over a p d c u v ∙ ap (λ (k : ℕ). p * k) (mul_comm d c)

total : (a b c p q u : ℕ) → a * u ≡ p * c → b * u ≡ q * c → (a + b) * u ≡ (p + q) * c
total a b c p q u v w = add-mul a b u ∙ ap (λ (k : ℕ). k + b * u) v ∙ ap (λ (k : ℕ). p * c + k) w ∙ sym (add-mul p q c)

pub add-units : (x y : Float) (p q : ℕ) → HasValue x false p one → HasValue y false q one → add binary32 x y ≡ round binary32 false (p + q) one
unfolding add sum
add-units nan y p q v w = absurd v
add-units (inf a) y p q v w = absurd v
add-units (fin a m e) nan p q v w = absurd w
add-units (fin a m e) (inf b) p q v w = absurd w
add-units (fin a m e) (fin b n d) p q v w =
    rw (v.0, w.0)
    (round_same binary32 false (m * up e * down d + n * up d * down e) (down e * down d) (p + q) one (mul-pos (down_pos e) (down_pos d)) one-pos
    (total (m * up e * down d) (n * up d * down e) (down e * down d) p q one
    (over (m * up e) p (down e) (down d) one v.1) (over-other (n * up d) q (down e) (down d) one w.1)))

-- ---- the difference with one that is 0 or above and no larger

-- q units, and a zero of either sign
pub record Threshold (t : Float) (q : ℕ) : Type 0 where
  pub minus : Bool
  pub has : HasValue t minus q one
  pub zero : minus ≡ true → q ≡ 0

left : (a b c p q u : ℕ) → a * u ≡ p * c → b * u ≡ q * c → (a - b) * u ≡ (p - q) * c
left a b c p q u v w =
    mul_comm (a - b) u
    ∙ mul-sub u a b
    ∙ ap (λ (k : ℕ). k - u * b) (mul_comm u a ∙ v ∙ mul_comm p c)
    ∙ ap (λ (k : ℕ). c * p - k) (mul_comm u b ∙ w ∙ mul_comm q c)
    ∙ sym (mul-sub c p q)
    ∙ mul_comm c (p - q)

difference : (b : Bool) (x y c p q : ℕ) → 0 < c → x * one ≡ p * c → y * one ≡ q * c → q ≤ p → (b ≡ true → q ≡ 0)
    → sum binary32 false x (not b) y c ≡ round binary32 false (p - q) one
unfolding sum
difference false x y c p q C v w l z =
    rw (le-ltb x y (le_of_mul-le-mul_right (le_trans (le_of_eq w) (le_trans (mul-le-mul_right c l) (le_of_eq (sym v)))) one-pos))
    (round_same binary32 false (x - y) c (p - q) one C one-pos (left x y c p q one v w))
difference true x y c p q C v w l z =
    round_same binary32 false (x + y) c (p + q) one C one-pos (total x y c p q one v w) ∙ ap (λ (k : ℕ). round binary32 false k one) (none p q (z refl))
  where
    none : (p q : ℕ) → q ≡ 0 → p + q ≡ p - q
    none p q e = omega arith

opened : (a : Bool) (m : ℕ) (e : ℤ) (b : Bool) (n : ℕ) (d : ℤ)
    → sub binary32 (fin a m e) (fin b n d) ≡ sum binary32 a (m * up e * down d) (not b) (n * up d * down e) (down e * down d)
unfolding sub add neg
opened a m e b n d = refl

pub sub-units : (x t : Float) (p q : ℕ) → HasValue x false p one → Threshold t q → q ≤ p → sub binary32 x t ≡ round binary32 false (p - q) one
sub-units x t p q v w l = go x t v w.has
  where
    go : (x t : Float) → HasValue x false p one → HasValue t w.minus q one → sub binary32 x t ≡ round binary32 false (p - q) one
    go nan t v h = absurd v
    go (inf a) t v h = absurd v
    go (fin a m e) nan v h = absurd h
    go (fin a m e) (inf b) v h = absurd h
    go (fin a m e) (fin b n d) v h =
        opened a m e b n d
        ∙ rw (v.0, h.0)
        (difference w.minus (m * up e * down d) (n * up d * down e) (down e * down d) p q (mul-pos (down_pos e) (down_pos d))
        (over (m * up e) p (down e) (down d) one v.1) (over-other (n * up d) q (down e) (down d) one h.1) l w.zero)
