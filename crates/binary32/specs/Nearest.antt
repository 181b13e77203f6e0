-- The theorem that says what `sqrt_of` is: for a finite x above 0 it is the value of binary32 that is nearest to the real root of x.
use Rattle.std.specs.Prelude.{◌≡◌, ◌⊎◌, true, false, ℕ, zero, suc, ◌+◌, ◌-◌, ◌*◌, ◌/◌, ◌%◌, ◌^◌, ◌≤◌, ◌<◌, T, eqb, Float}
use Rattle.std.proofs.Common.{sym, ap, ◌∙◌, subst, inl, inr, le_refl, le_trans, le_of_eq, le_of_lt, lt_irrefl, lt_of_lt_of_le, lt_of_le_of_lt, eq-or-lt_of_le, add-mul, mul_assoc, mul-pos, mul-le-mul, mul-le-mul_right, mul-lt-mul_of_pos_right, lt_of_mul-lt-mul_right, zero-lt-suc, arith, lt→ltb, pow-add, pow_pos, pow_mono, shl_lt}
use Rattle.std.proofs.Math.Nat.{mul-mul-mul_comm}
use Rattle.std.specs.Float.{nan, inf, fin, binary32}
use Rattle.std.specs.Float.Ieee.{size, fits}
use Rattle.std.specs.Float.Ieee.Exact.{HasValue, odd_sign}
use Rattle.std.specs.Float.Ieee.Positive.{positive, value_pos}
use Rattle.std.specs.Float.Ieee.Fits.{odd-fits, nan-fits, cond-fits}
use Rattle.numbers.specs.Root.{root, near, places, digits, root_units, sqrt_of}
use Rattle.binary32.specs.WholeRoot.{square, root-floor, near-is, nearest, Near}
use Rattle.binary32.specs.Leading.{Wide, Normal, even-wide, wide-lt, near-normal, even_is, places_is, digits-is}
use Rattle.binary32.specs.Values.{Held, held, grid, lead, apart_of, units-held}
use Rattle.binary32.specs.Patterns.{of-value}

-- x is n units of the smallest value, 2 ^ -149, so its root is √(n * 2 ^ 149) units; r is ρ units.
-- Of any other value y of the format, p units, the middle of y and r lies between y and the root, and never on the root:
-- (p + ρ) / 2 is below the root where y is below r, and above it where y is above r. So r is nearer to the root than y.
pub record IsRoot (x r : Float) : Type 0 where
  pub n : ℕ
  pub ρ : ℕ
  pub of : HasValue x false n (2 ^ 149)
  pub is : HasValue r false ρ (2 ^ 149)
  pub format : T (fits binary32 r)
  pub over : (y : Float) (p : ℕ) → T (fits binary32 y) → HasValue y false p (2 ^ 149) → p < ρ → (p + ρ) * (p + ρ) < 4 * (n * 2 ^ 149)
  pub under : (y : Float) (p : ℕ) → T (fits binary32 y) → HasValue y false p (2 ^ 149) → ρ < p → 4 * (n * 2 ^ 149) < (p + ρ) * (p + ρ)

-- ---- squares

square-lt : (a b : ℕ) → a < b → a * a < b * b
square-lt a b h = lt_of_le_of_lt (mul-le-mul (le_refl a) (le_of_lt h)) (mul-lt-mul_of_pos_right h (lt_of_le_of_lt (zero-le a) h))
  where
    zero-le : (a : ℕ) → 0 ≤ a
    zero-le a = omega arith

-- (a * s)² with s = 2 ^ k
scaled : (a s : ℕ) → a * s * (a * s) ≡ a * a * (s * s)
scaled a s = mul-mul-mul_comm a s a s

-- ---- the significand: q of 24 digits, the nearest to the root of w, which has 47 or 48

-- halfway below q, where q is the least of 24 digits too: there the values below are closer
half-below : (w q : ℕ) → Wide w → Normal q → Near w q → (8388608 + q) * (8388608 + q) ≤ 4 * w
half-below w q v m n = go (eq-or-lt_of_le m.low)
  where
    go : (8388608 ≡ q) ⊎ (8388608 < q) → (8388608 + q) * (8388608 + q) ≤ 4 * w
    go (inl e) =
        subst (λ (x : ℕ). (8388608 + x) * (8388608 + x) ≤ 4 * w) e
        (let l = v.least in omega arith)
    go (inr l) = le_trans (square (8388608 + q) (2 * q - 1) (omega arith)) (le_of_lt n.over)

module _ (w q s : ℕ) (v : Wide w) (m : Normal q) (n : Near w q) (s-pos : 0 < s) where
  ss-pos : 0 < s * s
  ss-pos = mul-pos s-pos s-pos

  -- y on the grid, a * s below q * s
  over-grid : (a : ℕ) → a < q → (a + q) * (a + q) < 4 * w
  over-grid a l = lt_of_le_of_lt (square (a + q) (2 * q - 1) (omega arith)) n.over

  under-grid : (a : ℕ) → q < a → 4 * w < (a + q) * (a + q)
  under-grid a l = lt_of_lt_of_le n.under (square (2 * q + 1) (a + q) (omega arith))

  joined : (a : ℕ) → (a * s + q * s) * (a * s + q * s) ≡ (a + q) * (a + q) * (s * s)
  joined a = ap (λ (x : ℕ). x * x) (sym (add-mul a q s)) ∙ scaled (a + q) s

  over-units : (p : ℕ) → ((a : ℕ) × (p ≡ a * s)) ⊎ (p < 8388608 * s) → p < q * s → (p + q * s) * (p + q * s) < 4 * w * (s * s)
  over-units p (inl g) l =
      let a = g.0 in
      let b : a < q = lt_of_mul-lt-mul_right s (subst (λ (x : ℕ). x < q * s) g.1 l) in
      subst (λ (x : ℕ). (x + q * s) * (x + q * s) < 4 * w * (s * s)) (sym g.1)
      (subst (λ (x : ℕ). x < 4 * w * (s * s)) (sym (joined a)) (mul-lt-mul_of_pos_right (over-grid a b) ss-pos))
  over-units p (inr g) l =
      lt_of_lt_of_le (square-lt (p + q * s) (8388608 * s + q * s) (omega arith))
      (le_trans (le_of_eq (joined 8388608)) (mul-le-mul_right (s * s) (half-below w q v m n)))

  under-units : (p : ℕ) → ((a : ℕ) × (p ≡ a * s)) ⊎ (p < 8388608 * s) → q * s < p → 4 * w * (s * s) < (p + q * s) * (p + q * s)
  under-units p (inl g) l =
      let a = g.0 in
      let b : q < a = lt_of_mul-lt-mul_right s (subst (λ (x : ℕ). q * s < x) g.1 l) in
      subst (λ (x : ℕ). 4 * w * (s * s) < (x + q * s) * (x + q * s)) (sym g.1)
      (subst (λ (x : ℕ). 4 * w * (s * s) < x) (sym (joined a)) (mul-lt-mul_of_pos_right (under-grid a b) ss-pos))
  under-units p (inr g) l = absurd (lt_irrefl p (lt_of_lt_of_le g (le_trans (mul-le-mul_right s m.low) (le_of_lt l))))

-- ---- n units

-- what `root_units` finds for n units: w * 2 ^ (2 k) is n * 2 ^ 149, and q = digits n is the nearest to the root of w
pub record Found (n : ℕ) : Type 0 where
  pub w : ℕ
  pub exact : n * 2 ^ 149 ≡ w * (2 ^ places n * 2 ^ places n)
  pub wide : Wide w
  pub normal : Normal (digits n)
  pub nearly : Near w (digits n)
  pub few : places n ≤ 189

pub found : (n : ℕ) → Held n → 0 < n → Found n
found n h some =
    let m = lead n h in
    let z = size n in
    let a = apart_of n h some in
    let w = m * 2 ^ (23 + z % 2) in
    let k = z / 2 + 51 in
    let v = even-wide m z a.low a.high in
    let e : digits n ≡ near w = digits-is n m z a in
    let g : places n ≡ k = places_is n m z a in
    let f = root-floor w (wide-lt w v) in
    let two : 2 * k ≡ k + k = omega arith in
    let pos-w : 0 < w = let l = v.least in omega arith in
    record {
      w = w;
      exact = even_is n m z a ∙ ap (λ (x : ℕ). w * x) (ap (λ (x : ℕ). 2 ^ x) two ∙ pow-add 2 k k ∙ ap (λ (x : ℕ). 2 ^ x * 2 ^ x) (sym g));
      wide = v;
      normal = subst Normal (sym e) (near-normal w v);
      nearly = subst (Near w) (sym (e ∙ near-is w (root 24 w 0) (wide-lt w v) f)) (nearest w (root 24 w 0) pos-w f);
      few = let l = a.few in subst (λ (x : ℕ). x ≤ 189) (sym g) (omega arith);
    }

four : (n w k : ℕ) → n * 2 ^ 149 ≡ w * (2 ^ k * 2 ^ k) → 4 * w * (2 ^ k * 2 ^ k) ≡ 4 * (n * 2 ^ 149)
four n w k e = mul_assoc 4 w (2 ^ k * 2 ^ k) ∙ ap (λ (x : ℕ). 4 * x) (sym e)

root-fits : (n : ℕ) → Found n → T (fits binary32 (root_units n))
unfolding root_units
root-fits n f =
    odd-fits binary32 24 false (digits n) (places n) f.normal.high (le_of_lt f.normal.high)
    (lt_of_lt_of_le (shl_lt 24 (places n) f.normal.high) (pow_mono (room (places n) f.few)))
  where
    room : (k : ℕ) → k ≤ 189 → 24 + k ≤ 277
    room k h = omega arith

root-value : (n : ℕ) → HasValue (root_units n) false (digits n * 2 ^ places n) (2 ^ 149)
unfolding root_units
root-value n = odd_sign 24 false (digits n) (places n) 149

-- ---- the theorem

of-units : (x : Float) (n : ℕ) → HasValue x false n (2 ^ 149) → Found n → sqrt_of x ≡ root_units n → IsRoot x (sqrt_of x)
of-units x n v f e =
    let k = places n in
    let s = 2 ^ k in
    let q = digits n in
    record {
      n = n;
      ρ = q * s;
      of = v;
      is = subst (λ (r : Float). HasValue r false (q * s) (2 ^ 149)) (sym e) (root-value n);
      format = subst (λ (r : Float). T (fits binary32 r)) (sym e) (root-fits n f);
      over = λ y p h u l.
          subst (λ (x : ℕ). (p + q * s) * (p + q * s) < x) (four n f.w k f.exact)
          (over-units f.w q s f.wide f.normal f.nearly (pow_pos k) p (grid p k (held y false p h u)) l);
      under = λ y p h u l.
          subst (λ (x : ℕ). x < (p + q * s) * (p + q * s)) (four n f.w k f.exact)
          (under-units f.w q s f.wide f.normal f.nearly (pow_pos k) p (grid p k (held y false p h u)) l);
    }

pub nearest-root : (x : Float) → T (fits binary32 x) → T (positive x) → IsRoot x (sqrt_of x)
nearest-root x h p =
    let u = units-held x h p in
    let some = value_pos x u.0 (2 ^ 149) p (pow_pos 149) u.1 in
    of-units x u.0 u.1 (found u.0 (held x false u.0 h u.1) some) (of-value x false u.0 u.1 some)

-- ---- and every result is a value of binary32

pub sqrt-fits : (x : Float) → T (fits binary32 x) → T (fits binary32 (sqrt_of x))
unfolding sqrt_of
sqrt-fits nan h = nan-fits binary32
sqrt-fits (inf s) h = cond-fits binary32 s nan (inf s) (nan-fits binary32) h
sqrt-fits (fin s zero e) h = h
sqrt-fits (fin true (suc m) e) h = cond-fits binary32 (eqb (suc m) 0) (fin true (suc m) e) nan h (nan-fits binary32)
sqrt-fits (fin false (suc m) e) h = (nearest-root (fin false (suc m) e) h (lt→ltb 0 (suc m) (zero-lt-suc m))).format
