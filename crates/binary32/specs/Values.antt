-- The values of binary32 as whole numbers of units of 2 ^ -149: each is d * 2 ^ j units, with d of at most 24 digits.
use Rattle.std.specs.Prelude.{◌≡◌, refl, ◌⊎◌, Bool, true, false, not, ◌&&◌, ℕ, zero, suc, ◌+◌, ◌-◌, ◌*◌, ◌%◌, ◌^◌, ◌≤◌, ◌<◌, ℤ, pos, negsuc, T, leb, ltb, eqb, Float}
use Rattle.std.proofs.Common.{sym, ap, ◌∙◌, subst, inl, inr, le_of_suc-le-suc, lt_irrefl, lt_of_lt_of_le, lt_of_not-le, eq-zero-or-pos, mul-one, mul_comm, mul_assoc, zero-mul, mul-le-mul_right, mul-lt-mul_of_pos_right, lt_of_mul-lt-mul_right, le_of_mul-le-mul_right, arith, ltb→lt, leb→le, nltb→le, pow-add, pow_pos, pow_mono, shl_lt}
use Rattle.std.proofs.Math.Nat.{eq_of_mul-eq-mul_right}
use Rattle.std.proofs.Math.Pow.{pow-lt}
use Rattle.std.specs.Float.{nan, inf, fin, binary32}
use Rattle.std.specs.Float.Ieee.{up, down, size, fits}
use Rattle.std.specs.Float.Ieee.Digits.{size-lt, size-le, size_reaches}
use Rattle.std.specs.Float.Ieee.Exact.{HasValue}
use Rattle.std.specs.Float.Ieee.Positive.{positive}
use Rattle.std.specs.Float.Ieee.Fits.{down_pos, and_l, and_r}
use Rattle.binary32.specs.Units.{Apart}

-- ---- a value's units

pub record Held (p : ℕ) : Type 0 where
  pub d : ℕ
  pub j : ℕ
  pub same : p ≡ d * 2 ^ j
  pub short : d < 2 ^ 24
  pub small : p < 2 ^ 277

pow_le_back : (a b : ℕ) → 2 ^ a ≤ 2 ^ b → a ≤ b
pow_le_back a b h = le_of_suc-le-suc (lt_of_not-le (λ (g : suc b ≤ a). lt_irrefl (2 ^ b) (lt_of_lt_of_le (pow-lt g) h)))

-- m * 2 ^ e is m * 2 ^ j units
place : (m : ℕ) (e : ℤ) → down e ≤ 2 ^ 149 → (j : ℕ) × (m * up e * 2 ^ 149 ≡ m * 2 ^ j * down e)
place m (pos a) h = (a + 149, mul_assoc m (2 ^ a) (2 ^ 149) ∙ ap (λ (x : ℕ). m * x) (sym (pow-add 2 a 149)) ∙ sym (mul-one (m * 2 ^ (a + 149))))
place m (negsuc a) h =
    let l : suc a ≤ 149 = pow_le_back (suc a) 149 h in
    let e : 149 - suc a + suc a ≡ 149 = omega arith in (
      149 - suc a,
      ap (λ (x : ℕ). x * 2 ^ 149) (mul-one m)
          ∙ ap (λ (x : ℕ). m * 2 ^ x) (sym e)
          ∙ ap (λ (x : ℕ). m * x) (pow-add 2 (149 - suc a) (suc a))
          ∙ sym (mul_assoc m (2 ^ (149 - suc a)) (2 ^ suc a)),
    )

-- the three tests of `fits` that count here
module _ (s : Bool) (m : ℕ) (e : ℤ) (h : T (fits binary32 (fin s (suc m) e))) where
  whole-test : T (eqb (suc m % 2) 1 && ltb (suc m) (2 ^ 24) && leb (down e) (2 ^ 149) && ltb (suc m * up e) (2 ^ 128 * down e))
  unfolding fits
  whole-test = h

  is-short : suc m < 2 ^ 24
  is-short =
      ltb→lt (suc m) (2 ^ 24)
      (and_r (eqb (suc m % 2) 1) (ltb (suc m) (2 ^ 24))
      (and_l (eqb (suc m % 2) 1 && ltb (suc m) (2 ^ 24)) (leb (down e) (2 ^ 149))
      (and_l (eqb (suc m % 2) 1 && ltb (suc m) (2 ^ 24) && leb (down e) (2 ^ 149)) (ltb (suc m * up e) (2 ^ 128 * down e)) whole-test)))

  is_down : down e ≤ 2 ^ 149
  is_down =
      leb→le (down e) (2 ^ 149)
      (and_r (eqb (suc m % 2) 1 && ltb (suc m) (2 ^ 24)) (leb (down e) (2 ^ 149))
      (and_l (eqb (suc m % 2) 1 && ltb (suc m) (2 ^ 24) && leb (down e) (2 ^ 149)) (ltb (suc m * up e) (2 ^ 128 * down e)) whole-test))

  is-small : suc m * up e < 2 ^ 128 * down e
  is-small =
      ltb→lt (suc m * up e) (2 ^ 128 * down e)
      (and_r (eqb (suc m % 2) 1 && ltb (suc m) (2 ^ 24) && leb (down e) (2 ^ 149)) (ltb (suc m * up e) (2 ^ 128 * down e)) whole-test)

pub held : (y : Float) (s : Bool) (p : ℕ) → T (fits binary32 y) → HasValue y s p (2 ^ 149) → Held p
held nan s p f v = absurd v
held (inf t) s p f v = absurd v
held (fin t zero e) s p f v =
    let z : p ≡ 0 =
    eq_of_mul-eq-mul_right (down e) (down_pos e) p 0 (sym v.1 ∙ ap (λ (x : ℕ). x * 2 ^ 149) (zero-mul (up e)) ∙ sym (zero-mul (down e))) in
    record { d = 0; j = 0; same = z; short = pow_pos 24; small = subst (λ (x : ℕ). x < 2 ^ 277) (sym z) (pow_pos 277) }
held (fin t (suc m) e) s p f v =
    let z = place (suc m) e (is_down t m e f) in
    record {
      d = suc m;
      j = z.0;
      same = eq_of_mul-eq-mul_right (down e) (down_pos e) p (suc m * 2 ^ z.0) (sym v.1 ∙ z.1);
      short = is-short t m e f;
      small =
          lt_of_mul-lt-mul_right (down e)
          (subst (λ (x : ℕ). x < 2 ^ 277 * down e) v.1
          (subst (λ (x : ℕ). suc m * up e * 2 ^ 149 < x)
          (mul_assoc (2 ^ 128) (down e) (2 ^ 149) ∙ ap (λ (x : ℕ). 2 ^ 128 * x) (mul_comm (down e) (2 ^ 149)) ∙ sym (mul_assoc (2 ^ 128) (2 ^ 149) (down e)))
          (mul-lt-mul_of_pos_right (is-small t m e f) (pow_pos 149))));
    }

-- ---- the values between 2 ^ 23 and 2 ^ 24 times 2 ^ k are multiples of 2 ^ k

pub grid : (p k : ℕ) → Held p → ((a : ℕ) × (p ≡ a * 2 ^ k)) ⊎ (p < 8388608 * 2 ^ k)
grid p k h = go (ltb h.j k) (ltb→lt h.j k) (nltb→le h.j k)
  where
    back : (j k : ℕ) → k ≤ j → j - k + k ≡ j
    back j k l = omega arith

    one_less : (j k : ℕ) → j < k → 24 + j ≤ 23 + k
    one_less j k l = omega arith

    go : (b : Bool) → (T b → h.j < k) → (T (not b) → k ≤ h.j) → ((a : ℕ) × (p ≡ a * 2 ^ k)) ⊎ (p < 8388608 * 2 ^ k)
    go true l g =
        inr
        (subst (λ (x : ℕ). p < x) (pow-add 2 23 k)
        (lt_of_lt_of_le
        (subst (λ (x : ℕ). x < 2 ^ (24 + h.j)) (sym h.same) (shl_lt 24 h.j h.short))
        (pow_mono (one_less h.j k (l tt)))))
    go false l g =
        inl (
          h.d * 2 ^ (h.j - k),
          h.same
              ∙ ap (λ (x : ℕ). h.d * 2 ^ x) (sym (back h.j k (g tt)))
              ∙ ap (λ (x : ℕ). h.d * x) (pow-add 2 (h.j - k) k)
              ∙ sym (mul_assoc h.d (2 ^ (h.j - k)) (2 ^ k)),
        )

-- ---- the 24 leading digits of a value above 0

abbrev pub lead : (n : ℕ) → Held n → ℕ
lead n h = h.d * 2 ^ (h.j + 24 - size n)

module _ (n : ℕ) (h : Held n) (some : 0 < n) where
  z-le : size n ≤ h.j + 24
  z-le = let l = size-le n (24 + h.j) (subst (λ (x : ℕ). x < 2 ^ (24 + h.j)) (sym h.same) (shl_lt 24 h.j h.short)) in omega arith

  z-pos : 0 < size n
  z-pos = go (eq-zero-or-pos (size n))
    where
      go : (size n ≡ 0) ⊎ (0 < size n) → 0 < size n
      go (inl e) = let l : n < 2 ^ 0 = subst (λ (x : ℕ). n < 2 ^ x) e (size-lt n) in omega arith
      go (inr p) = p

  lead-same : n * 2 ^ 24 ≡ lead n h * 2 ^ size n
  lead-same =
      let e : h.j + 24 - size n + size n ≡ h.j + 24 = let l = z-le in omega arith in
      ap (λ (x : ℕ). x * 2 ^ 24) h.same
      ∙ mul_assoc h.d (2 ^ h.j) (2 ^ 24)
      ∙ ap (λ (x : ℕ). h.d * x) (sym (pow-add 2 h.j 24) ∙ ap (λ (x : ℕ). 2 ^ x) (sym e) ∙ pow-add 2 (h.j + 24 - size n) (size n))
      ∙ sym (mul_assoc h.d (2 ^ (h.j + 24 - size n)) (2 ^ size n))

  lead_low : 8388608 ≤ lead n h
  lead_low =
      let z = size n in
      let l : z - 1 < z = let p = z-pos in omega arith in
      let e : z - 1 + 24 ≡ 23 + z = let p = z-pos in omega arith in
      le_of_mul-le-mul_right
      (subst (λ (x : ℕ). 8388608 * 2 ^ z ≤ x) lead-same
      (subst (λ (x : ℕ). x ≤ n * 2 ^ 24) (sym (pow-add 2 (z - 1) 24) ∙ ap (λ (x : ℕ). 2 ^ x) e ∙ pow-add 2 23 z) (mul-le-mul_right (2 ^ 24) (size_reaches n (z - 1) l))))
      (pow_pos z)

  lead_high : lead n h < 16777216
  lead_high =
      lt_of_mul-lt-mul_right (2 ^ size n)
      (subst (λ (x : ℕ). x < 16777216 * 2 ^ size n) lead-same
      (subst (λ (x : ℕ). n * 2 ^ 24 < x) (mul_comm (2 ^ size n) (2 ^ 24)) (mul-lt-mul_of_pos_right (size-lt n) (pow_pos 24))))

  pub apart_of : Apart n (lead n h) (size n)
  apart_of = record { low = lead_low; high = lead_high; same = lead-same; few = size-le n 277 h.small }

-- a value above 0 is a whole number of units
pub units-held : (x : Float) → T (fits binary32 x) → T (positive x) → (n : ℕ) × HasValue x false n (2 ^ 149)
units-held nan h p = absurd p
units-held (inf s) h p = absurd p
units-held (fin true m e) h p = absurd p
units-held (fin false zero e) h p = absurd p
units-held (fin false (suc m) e) h p = let z = place (suc m) e (is_down false m e h) in (suc m * 2 ^ z.0, (refl, z.1))
