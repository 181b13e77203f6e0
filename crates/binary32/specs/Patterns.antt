-- Between a bit pattern and the root: what `sqrt_of` says of the value that a pattern stands for, and the pattern of a rounded root.
use Rattle.std.specs.Prelude.{◌≡◌, refl, Bool, true, false, not, cond, ◌⊎◌, ℕ, zero, suc, ◌+◌, ◌-◌, ◌*◌, ◌/◌, ◌%◌, ◌^◌, ◌≤◌, ◌<◌, T, eqb, Float}
use Rattle.std.proofs.Common.{sym, ap, ◌∙◌, subst, inl, inr, eq-or-lt_of_le, mul-pos, mul-div_cancel, zero-mul, arith, le-leb, eq-eqb, ne_eqb, le-ltb, pow_pos}
use Rattle.std.proofs.lemmas.Bool.{lt-leb}
use Rattle.std.specs.Float.{nan, inf, fin, binary32}
use Rattle.std.specs.Float.Ieee.{up, down, odd, of_fields, of_bits, nan_bits, div, ne, eq, is_nan}
use Rattle.std.specs.Float.Ieee.Bits.{nan_bits_above}
use Rattle.std.specs.Float.Ieee.Exact.{HasValue, odd_sign}
use Rattle.std.specs.Float.Ieee.Fits.{down_pos}
use Rattle.numbers.specs.Root.{root_units, sqrt_of}
use Rattle.binary32.specs.Units.{units_fields, units_at}
use Rattle.binary32.specs.Leading.{Normal}

-- ---- the root of a value of n units

not_none : (m n d u : ℕ) → 0 < n → 0 < d → m * u * 2 ^ 149 ≡ n * d → m ≡ 0 → ⊥
not_none m n d u p q h e =
    let a : n * d ≡ 0 = sym h ∙ ap (λ (y : ℕ). y * u * 2 ^ 149) e ∙ ap (λ (y : ℕ). y * 2 ^ 149) (zero-mul u) in
    let b = mul-pos p q in
    omega (arith, a)

pub of-value : (v : Float) (s : Bool) (n : ℕ) → HasValue v s n (2 ^ 149) → 0 < n → sqrt_of v ≡ cond s nan (root_units n)
unfolding sqrt_of
of-value nan s n h p = absurd h
of-value (inf t) s n h p = absurd h
of-value (fin t m e) s n h p =
    ap (λ (b : Bool). cond b (fin t m e) (cond t nan (root_units (m * up e * 2 ^ 149 / down e)))) (ne_eqb m 0 (not_none m n (down e) (up e) p (down_pos e) h.1))
    ∙ ap (λ (b : Bool). cond b nan (root_units (m * up e * 2 ^ 149 / down e))) h.0
    ∙ ap (λ (y : ℕ). cond s nan (root_units y)) (ap (λ (y : ℕ). y / down e) h.1 ∙ mul-div_cancel n (down_pos e))

-- ---- by the pattern's fields

shifted : (s : Bool) (t : ℕ) → HasValue (odd 24 s t 0 149) s t (2 ^ 149)
shifted s t = subst (λ (n : ℕ). HasValue (odd 24 s t 0 149) s n (2 ^ 149)) (one t) (odd_sign 24 s t 0 149)
  where
    one : (t : ℕ) → t * 2 ^ 0 ≡ t
    one t = omega arith

pub fields_value : (s : Bool) (x t : ℕ) → x < 255 → HasValue (of_fields binary32 s x t) s (units_fields x t) (2 ^ 149)
unfolding of_fields units_fields
fields_value s zero t h = shifted s t
fields_value s (suc x) t h =
    subst (λ (b : Bool). HasValue (cond b (cond (eqb t 0) (inf s) nan) (odd 24 s (8388608 + t) x 149)) s ((8388608 + t) * 2 ^ x) (2 ^ 149))
    (sym (ne_eqb (suc x) 255 (λ (e : suc x ≡ 255). no e h)))
    (odd_sign 24 s (8388608 + t) x 149)
  where
    no : suc x ≡ 255 → suc x < 255 → ⊥
    no e h = omega arith

pub fields-top : (s : Bool) (x t : ℕ) → x ≡ 255 → of_fields binary32 s x t ≡ cond (eqb t 0) (inf s) nan
unfolding of_fields
fields-top s zero t h = absurd (no h)
  where
    no : ◌≡◌ {A = ℕ} 0 255 → ⊥
    no h = omega arith
fields-top s (suc x) t h = ap (λ (b : Bool). cond b (cond (eqb t 0) (inf s) nan) (odd 24 s (8388608 + t) x 149)) (eq-eqb (suc x) 255 h)

units-pos : (x t : ℕ) → 0 < x * 8388608 + t → 0 < units_fields x t
unfolding units_fields
units-pos zero t h = omega arith
units-pos (suc x) t h = mul-pos (some t) (pow_pos x)
  where
    some : (t : ℕ) → 0 < 8388608 + t
    some t = omega arith

-- an infinity or a nan: its root is itself, or `nan` below 0
top-plus : (b : Bool) → sqrt_of (cond b (inf false) nan) ≡ cond b (inf false) nan
unfolding sqrt_of
top-plus true = refl
top-plus false = refl

top-minus : (b : Bool) → sqrt_of (cond b (inf true) nan) ≡ nan
unfolding sqrt_of
top-minus true = refl
top-minus false = refl

-- ---- by the pattern

plus-is : (b : ℕ) → b < 2147483648 → of_bits binary32 b ≡ of_fields binary32 false (b / 8388608) (b % 8388608)
unfolding of_bits
plus-is b h =
    ap (λ (s : Bool). of_fields binary32 s (b % 2147483648 / 8388608) (b % 8388608)) (lt-leb 2147483648 b h)
    ∙ ap (λ (x : ℕ). of_fields binary32 false x (b % 8388608)) (same b h)
  where
    same : (b : ℕ) → b < 2147483648 → b % 2147483648 / 8388608 ≡ b / 8388608
    same b h = omega arith

minus_is : (b : ℕ) → 2147483648 ≤ b → of_bits binary32 b ≡ of_fields binary32 true (b % 2147483648 / 8388608) (b % 8388608)
unfolding of_bits
minus_is b h = ap (λ (s : Bool). of_fields binary32 s (b % 2147483648 / 8388608) (b % 8388608)) (le-leb 2147483648 b h)

-- ±0
both : (k : ℕ) → k < 2 → sqrt_of (of_bits binary32 (k * 2147483648)) ≡ of_bits binary32 (k * 2147483648)
unfolding sqrt_of of_bits
both zero h = refl
both (suc zero) h = refl
both (suc (suc k)) h = absurd (no k h)
  where
    no : (k : ℕ) → suc (suc k) < 2 → ⊥
    no k h = omega arith

pub at-zeros : (b : ℕ) → b < 4294967296 → b % 2147483648 ≡ 0 → sqrt_of (of_bits binary32 b) ≡ of_bits binary32 b
at-zeros b h e = go (b / 2147483648) (rest b e) (few b h)
  where
    rest : (b : ℕ) → b % 2147483648 ≡ 0 → b ≡ b / 2147483648 * 2147483648
    rest b e = omega arith

    few : (b : ℕ) → b < 4294967296 → b / 2147483648 < 2
    few b h = omega arith

    go : (k : ℕ) → b ≡ k * 2147483648 → k < 2 → sqrt_of (of_bits binary32 b) ≡ of_bits binary32 b
    go k e h = subst (λ (y : ℕ). sqrt_of (of_bits binary32 y) ≡ of_bits binary32 y) (sym e) (both k h)

-- below 0
pub at-minus : (b : ℕ) → b < 4294967296 → 2147483648 ≤ b → (b % 2147483648 ≡ 0 → ⊥) → sqrt_of (of_bits binary32 b) ≡ nan
at-minus b h g n = ap sqrt_of (minus_is b g) ∙ go (eq-or-lt_of_le (x-le b))
  where
    x-le : (b : ℕ) → b % 2147483648 / 8388608 ≤ 255
    x-le b = omega arith

    some : 0 < b % 2147483648 / 8388608 * 8388608 + b % 8388608
    some = omega (arith, n)

    go : (b % 2147483648 / 8388608 ≡ 255) ⊎ (b % 2147483648 / 8388608 < 255) → sqrt_of (of_fields binary32 true (b % 2147483648 / 8388608) (b % 8388608)) ≡ nan
    go (inl e) = ap sqrt_of (fields-top true (b % 2147483648 / 8388608) (b % 8388608) e) ∙ top-minus (eqb (b % 8388608) 0)
    go (inr l) = of-value (of_fields binary32 true (b % 2147483648 / 8388608) (b % 8388608)) true (units_fields (b % 2147483648 / 8388608) (b % 8388608)) (fields_value true (b % 2147483648 / 8388608) (b % 8388608) l) (units-pos (b % 2147483648 / 8388608) (b % 8388608) some)

-- +∞, and the NaNs' patterns
pub at_top : (b : ℕ) → 2139095040 ≤ b → b < 2147483648 → sqrt_of (of_bits binary32 b) ≡ of_bits binary32 b
at_top b g h =
    let e : of_bits binary32 b ≡ cond (eqb (b % 8388608) 0) (inf false) nan = plus-is b h ∙ fields-top false (b / 8388608) (b % 8388608) (full b g h) in
    ap sqrt_of e ∙ top-plus (eqb (b % 8388608) 0) ∙ sym e
  where
    full : (b : ℕ) → 2139095040 ≤ b → b < 2147483648 → b / 8388608 ≡ 255
    full b g h = omega arith

-- a finite number above 0
pub at-plus : (b : ℕ) → 0 < b → b < 2139095040 → sqrt_of (of_bits binary32 b) ≡ root_units (units_at b)
unfolding units_at
at-plus b g h =
    let x = b / 8388608 in
    let t = b % 8388608 in
    ap sqrt_of (plus-is b (omega arith)) ∙ of-value (of_fields binary32 false x t) false (units_fields x t) (fields_value false x t (omega arith)) (units-pos x t (omega arith))

-- ---- a rounded root's pattern

under_top : (x t : ℕ) → suc x < 255 → of_fields binary32 false (suc x) t ≡ odd 24 false (8388608 + t) x 149
unfolding of_fields
under_top x t h = ap (λ (b : Bool). cond b (cond (eqb t 0) (inf false) nan) (odd 24 false (8388608 + t) x 149)) (ne_eqb (suc x) 255 (no x h))
  where
    no : (x : ℕ) → suc x < 255 → suc x ≡ 255 → ⊥
    no x h e = omega arith

pub packed : (k q : ℕ) → k ≤ 200 → Normal q → of_bits binary32 (k * 8388608 + q) ≡ odd 24 false q k 149
packed k q h n =
    let l = n.low in
    let u = n.high in
    let b = k * 8388608 + q in
    let x : b / 8388608 ≡ suc k = omega arith in
    let t : b % 8388608 ≡ q - 8388608 = omega arith in
    let back : 8388608 + (q - 8388608) ≡ q = omega arith in
    plus-is b (omega arith)
    ∙ ap (λ (y : ℕ). of_fields binary32 false y (b % 8388608)) x
    ∙ ap (λ (y : ℕ). of_fields binary32 false (suc k) y) t
    ∙ under_top k (q - 8388608) (omega arith)
    ∙ ap (λ (y : ℕ). odd 24 false y k 149) back

pub packed-number : (k q : ℕ) → k ≤ 200 → Normal q → T (not (nan_bits binary32 (k * 8388608 + q)))
packed-number k q h n =
    let l = n.high in
    subst (λ (b : Bool). T (not b)) (sym (nan_bits_above binary32 (k * 8388608 + q) ∙ le-ltb 2139095040 ((k * 8388608 + q) % 2147483648) (omega arith))) tt

-- what the code writes for `nan`: the library's NaN
pub nan_value : of_bits binary32 0x7fc00000 ≡ nan
unfolding of_bits
nan_value = refl

-- what a division of 0 by 0 gives
pub no_number : div binary32 (of_bits binary32 0) (of_bits binary32 0) ≡ nan
unfolding div of_bits
no_number = refl

-- what equals itself is no NaN
pub no_nan : (x : Float) → ne x x ≡ false → T (not (is_nan x))
unfolding is_nan ne eq
no_nan nan h = let z : ◌≡◌ {A = ℕ} 0 1 = cc in omega arith
no_nan (inf s) h = tt
no_nan (fin s m e) h = tt
