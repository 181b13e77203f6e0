-- Between comparisons of binary32 and units of 2 ^ -149: what -1..1 says of a value's size, what "outside the deadzone" says of magnitude and threshold,
-- and what holding to 0..1 makes of a size.
use Rattle.std.specs.Prelude.{◌≡◌, refl, ◌⊎◌, Bool, true, false, ◌&&◌, ◌||◌, cond, ℕ, zero, suc, ◌*◌, ◌≤◌, ◌<◌, ℤ, T, ltb, eqb, Float}
use Rattle.std.proofs.Common.{sym, ap, ◌∙◌, inl, inr, true≢false, le_refl, le_of_eq, le_of_lt, eq-or-lt_of_le, lt_of_not-le, zero-lt-suc, mul-one, mul_comm, zero-mul, mul-le-mul_right, le_of_mul-le-mul_right, arith, lt→ltb, pow_pos, le-ltb, ltb-true, ltb-false, eqb-true, eq-eqb, lt-ltb}
use Rattle.std.proofs.Math.Bool.{or-true}
use Rattle.std.proofs.lemmas.Bool.{false≢true}
use Rattle.std.proofs.Math.Nat.{eq_of_mul-eq-mul_right}
use Rattle.std.specs.Float.{nan, inf, fin, binary32}
use Rattle.std.specs.Float.Ieee.{up, down, below, level, lt, le, eq, of_bits, fits, is_nan}
use Rattle.std.specs.Float.Ieee.Exact.{HasValue}
use Rattle.std.specs.Float.Ieee.Fits.{down_pos}
use Rattle.std.specs.Float.Ieee.Order.{transfer}
use Rattle.numbers.specs.Constants.{zero32, one32, minus_one32}
use Rattle.numbers.specs.Clamp.{clamp_of}
use Rattle.numbers.specs.Order.{Between, not-below}
use Rattle.binary32.specs.Values.{Held, held, units-held}
use Rattle.theory_arithmetic.specs.Units.{one, one-pos, one-held}
use Rattle.theory_arithmetic.specs.Operations.{Threshold}

-- ---- 1 and the size of m * 2 ^ e

module _ (m : ℕ) (e : ℤ) (p : ℕ) (v : m * up e * one ≡ p * down e) where
  at_most_one : m * up e * 1 ≤ 1 * down e → p ≤ one
  at_most_one h = le_of_mul-le-mul_right (transfer p one one one (m * up e) 1 (down e) 1 (down_pos e) (pow_pos 0) (sym v) (mul_comm one 1) h) one-pos

  one-at-least : p ≤ one → m * up e * 1 ≤ 1 * down e
  one-at-least h = transfer (m * up e) 1 (down e) 1 p one one one one-pos one-pos v (mul_comm 1 one) (mul-le-mul_right one h)

  at_least_one : 1 * down e ≤ m * up e * 1 → one ≤ p
  at_least_one h = le_of_mul-le-mul_right (transfer one p one one 1 (m * up e) 1 (down e) (pow_pos 0) (down_pos e) (mul_comm one 1) (sym v) h) one-pos

-- ---- a value in -1..1

pub record Size (x : Float) : Type 0 where
  pub minus : Bool
  pub size : ℕ
  pub has : HasValue x minus size one
  pub held : Held size
  pub most : size ≤ one

-- every finite value is a whole number of units
pub units_of : (s : Bool) (m : ℕ) (e : ℤ) → T (fits binary32 (fin s m e)) → (p : ℕ) × (m * up e * one ≡ p * down e)
unfolding fits
units_of s zero e h = (0, ap (λ (k : ℕ). k * one) (zero-mul (up e)) ∙ sym (zero-mul (down e)))
units_of s (suc m) e h = let u = units-held (fin false (suc m) e) h (lt→ltb 0 (suc m) (zero-lt-suc m)) in (u.0, u.1.1)

-- a test of `le`: below, or level
less-or-level : (a b : ℕ) (l q z : Bool) → (l ≡ true → a < b) → (q ≡ true → a ≡ b) → l || (q && z) ≡ true → a ≤ b
less-or-level a b true q z f g h = le_of_lt (f refl)
less-or-level a b false true z f g h = le_of_eq (g refl)
less-or-level a b false false z f g h = absurd (false≢true h)

pub size_of : (x : Float) → T (fits binary32 x) → Between minus_one32 one32 x → Size x
unfolding le lt eq of_bits
size_of nan h b = absurd (false≢true b.low)
size_of (inf true) h b = absurd (false≢true b.low)
size_of (inf false) h b = absurd (false≢true b.high)
size_of (fin true m e) h b =
    let u = units_of true m e h in
    let A = 1 * down e in
    let B = m * up e * 1 in
    record {
      minus = true;
      size = u.0;
      has = (refl, u.1);
      held = held (fin true m e) true u.0 h (refl, u.1);
      most = at_most_one m e u.0 u.1 (less-or-level B A (ltb B A) (eqb A B) true (ltb-true B A) (λ (q : eqb A B ≡ true). sym (eqb-true A B q)) b.low);
    }
size_of (fin false m e) h b =
    let u = units_of false m e h in
    let A = m * up e * 1 in
    let B = 1 * down e in
    record {
      minus = false;
      size = u.0;
      has = (refl, u.1);
      held = held (fin false m e) false u.0 h (refl, u.1);
      most = at_most_one m e u.0 u.1 (less-or-level A B (ltb A B) (eqb A B) true (ltb-true A B) (eqb-true A B) b.high);
    }

pub between-of : (z : Float) (s : Bool) (p : ℕ) → HasValue z s p one → p ≤ one → Between minus_one32 one32 z
unfolding lt of_bits is_nan
between-of nan s p v h = absurd v
between-of (inf t) s p v h = absurd v
between-of (fin true m e) s p v h =
    record {
      low = not-below (fin true m e) minus_one32 refl refl (le-ltb (1 * down e) (m * up e * 1) (one-at-least m e p v.1 h));
      high = not-below one32 (fin true m e) refl refl refl;
    }
between-of (fin false m e) s p v h =
    record {
      low = not-below (fin false m e) minus_one32 refl refl refl;
      high = not-below one32 (fin false m e) refl refl (le-ltb (1 * down e) (m * up e * 1) (one-at-least m e p v.1 h));
    }

-- a value of 1 or more
pub one-or-more : (x : Float) (p : ℕ) → HasValue x false p one → le one32 x ≡ true → one ≤ p
unfolding le lt eq of_bits
one-or-more nan p v h = absurd v
one-or-more (inf s) p v h = absurd v
one-or-more (fin true m e) p v h = absurd (true≢false v.0)
one-or-more (fin false m e) p v h =
    let A = 1 * down e in
    let B = m * up e * 1 in at_least_one m e p v.1 (less-or-level A B (ltb A B) (eqb A B) true (ltb-true A B) (eqb-true A B) h)

-- ---- held to 0..1

pub record Clamped (m : Float) (R : ℕ) : Type 0 where
  pub units : ℕ
  pub has : HasValue m false units one
  pub held : Held units
  pub most : units ≤ one
  pub keeps : (X : ℕ) → X ≤ R → X ≤ one → X ≤ units

pub one-is : HasValue one32 false one one
unfolding of_bits
one-is = (refl, refl)

pub clamped : (r : Float) (R : ℕ) → HasValue r false R one → Held R → Clamped (clamp_of r zero32 one32) R
unfolding clamp_of lt of_bits
clamped nan R v h = absurd v
clamped (inf s) R v h = absurd v
clamped (fin true m e) R v h = absurd (true≢false v.0)
clamped (fin false m e) R v h =
    rw (le-ltb (m * up e * 1) (0 * down e) (low (0 * down e) (m * up e * 1) (zero-mul (down e)))) (go (ltb (1 * down e) (m * up e * 1)) (ltb-false (1 * down e) (m * up e * 1)))
  where
    low : (a b : ℕ) → a ≡ 0 → a ≤ b
    low a b e = omega arith

    go : (b : Bool) → (b ≡ false → m * up e * 1 ≤ 1 * down e) → Clamped (cond b one32 (fin false m e)) R
    go true f = record { units = one; has = one-is; held = one-held; most = le_refl one; keeps = λ X x u. u }
    go false f = record { units = R; has = v; held = h; most = at_most_one m e R v.1 (f refl); keeps = λ X x u. x }

-- ---- outside the deadzone

-- a is not at or below ±b, where -b is a zero
not-at-or-below : (s : Bool) (a b : ℕ) → (s ≡ true → b ≡ 0) → below false a s b || level false a s b ≡ false → a ≤ b → ⊥
not-at-or-below false a b z h l = go (eq-or-lt_of_le l)
  where
    go : (a ≡ b) ⊎ (a < b) → ⊥
    go (inl e) = true≢false (sym (or-true (ltb a b)) ∙ rw (eq-eqb a b e) at h)
    go (inr g) = true≢false (rw (lt-ltb a b g) at h)
not-at-or-below true a b z h l = true≢false (rw (eq-eqb a b (both a b (z refl) l), eq-eqb a 0 (none a b (z refl) l)) at h)
  where
    both : (a b : ℕ) → b ≡ 0 → a ≤ b → a ≡ b
    both a b z l = omega arith

    none : (a b : ℕ) → b ≡ 0 → a ≤ b → a ≡ 0
    none a b z l = omega arith

-- what is 0 or above and has the sign is a zero
minus-zero : (b d : ℕ) (z : Bool) → eqb (0 * d) (b * 1) && z ≡ true → b ≡ 0
minus-zero b d z h = sym (mul-one b) ∙ sym (eqb-true (0 * d) (b * 1) (first (eqb (0 * d) (b * 1)) z h)) ∙ zero-mul d
  where
    first : (p q : Bool) → p && q ≡ true → p ≡ true
    first true q h = refl
    first false q h = h

-- the threshold is q units, and the magnitude, M units, is more
pub record Outside (t : Float) (M : ℕ) : Type 0 where
  pub q : ℕ
  pub threshold : Threshold t q
  pub less : q < M

module _ (m : ℕ) (e : ℤ) (M : ℕ) (v : m * up e * one ≡ M * down e) (s : Bool) (n : ℕ) (d : ℤ) (h : T (fits binary32 (fin s n d))) (z : s ≡ true → n * up d ≡ 0) where
  abbrev u : (q : ℕ) × (n * up d * one ≡ q * down d)
  u = units_of s n d h

  no-units : n * up d ≡ 0 → u.0 ≡ 0
  no-units k = eq_of_mul-eq-mul_right (down d) (down_pos d) u.0 0 (sym u.1 ∙ ap (λ (x : ℕ). x * one) k ∙ sym (zero-mul (down d)))

  -- the test of `le` is false
  more : below false (m * up e * down d) s (n * up d * down e) || level false (m * up e * down d) s (n * up d * down e) ≡ false → Outside (fin s n d) M
  more o =
      record {
        q = u.0;
        threshold = record { minus = s; has = (refl, u.1); zero = λ (t : s ≡ true). no-units (z t) };
        less = lt_of_not-le (λ (l : M ≤ u.0).
            not-at-or-below s (m * up e * down d) (n * up d * down e) (λ (t : s ≡ true). ap (λ (k : ℕ). k * down e) (z t) ∙ zero-mul (down e)) o
            (transfer (m * up e) (n * up d) (down e) (down d) M u.0 one one one-pos one-pos v u.1 (mul-le-mul_right one l)));
      }

pub outside : (m t : Float) (M : ℕ) → HasValue m false M one → T (fits binary32 t) → le zero32 t ≡ true → le m t ≡ false → Outside t M
unfolding le lt eq of_bits
outside nan t M v h z o = absurd v
outside (inf a) t M v h z o = absurd v
outside (fin a m e) nan M v h z o = absurd (false≢true z)
outside (fin a m e) (inf true) M v h z o = absurd (false≢true z)
outside (fin true m e) (inf false) M v h z o = absurd (true≢false o)
outside (fin false m e) (inf false) M v h z o = absurd (true≢false o)
outside (fin true m e) (fin s n d) M v h z o = absurd (true≢false v.0)
outside (fin false m e) (fin true n d) M v h z o = more m e M v.1 true n d h (λ (t : ◌≡◌ {A = Bool} true true). minus-zero (n * up d) (down d) (eqb (0 * down d) 0) z) o
outside (fin false m e) (fin false n d) M v h z o = more m e M v.1 false n d h (λ (t : false ≡ true). absurd (false≢true t)) o
