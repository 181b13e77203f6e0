-- The bits of a finite number, taken apart and put together: what the code's steps say of n units.
use Rattle.std.specs.Prelude.{◌≡◌, refl, Bool, true, false, cond, ℕ, zero, suc, ◌+◌, ◌-◌, ◌*◌, ◌/◌, ◌%◌, ◌^◌, ◌≤◌, ◌<◌, T, ltb}
use Rattle.std.proofs.Common.{sym, ap, ◌∙◌, subst, le_trans, lt_irrefl, lt_of_lt_of_le, lt_of_le_of_lt, lt_of_not-le, mul-le-mul_right, mul-lt-mul_of_pos_right, lt_of_mul-lt-mul_right, mul_comm, mul_assoc, mul-div_cancel, arith, ltb→lt, pow-add, pow_pos, pow_mono, shl_lt}
use Rattle.std.proofs.Math.Nat.{pow-succ'}
use Rattle.std.specs.Float.Ieee.{size}
use Rattle.std.specs.Float.Ieee.Digits.{size-lt, size-le}
use Rattle.numbers.specs.Root.{root, rounded, near, places, digits}
use Rattle.binary32.specs.WholeRoot.{Floor, square, root-floor, near-is}
use Rattle.binary32.specs.Units.{units_fields, Apart}

-- ---- taken apart

-- a field above 0
pub with-field : (x t : ℕ) → 0 < x → units_fields x t * 2 ^ 24 ≡ (t + 8388608) * 2 ^ (x + 23)
unfolding units_fields
with-field zero t h = absurd (lt_irrefl 0 h)
with-field (suc x) t h =
    mul_assoc (8388608 + t) (2 ^ x) (2 ^ 24)
    ∙ ap (λ (y : ℕ). (8388608 + t) * y) (sym (pow-add 2 x 24))
    ∙ ap (λ (y : ℕ). (8388608 + t) * 2 ^ y) (over x)
    ∙ ap (λ (y : ℕ). y * 2 ^ (suc x + 23)) (turn t)
  where
    over : (x : ℕ) → x + 24 ≡ suc x + 23
    over x = omega arith

    turn : (t : ℕ) → 8388608 + t ≡ t + 8388608
    turn t = omega arith

pub no_field : (x t : ℕ) → x ≡ 0 → units_fields x t ≡ t
unfolding units_fields
no_field zero t h = refl
no_field (suc x) t h = omega arith

pub some_left : (t m z : ℕ) → 0 < t → m < 16777216 → t * 2 ^ 24 ≡ m * 2 ^ z → 1 ≤ z
some_left t m zero p h e = omega arith
some_left t m (suc z) p h e = omega arith

pub halved : (m z : ℕ) → 1 ≤ z → m * 2 ^ z ≡ m * 2 * 2 ^ (z - 1)
halved m zero h = absurd (lt_irrefl 0 h)
halved m (suc z) h = ap (λ (y : ℕ). m * y) (pow-succ' 2 z) ∙ sym (mul_assoc m 2 (2 ^ z)) ∙ ap (λ (y : ℕ). m * 2 * 2 ^ y) (less z)
  where
    less : (z : ℕ) → z ≡ suc z - 1
    less z = omega arith

-- ---- how many digits n has

pow_lt_back : (a b : ℕ) → 2 ^ a < 2 ^ b → a < b
pow_lt_back a b h = lt_of_not-le (λ (g : b ≤ a). lt_irrefl (2 ^ a) (lt_of_lt_of_le h (pow_mono g)))

pub size_is : (n m z : ℕ) → Apart n m z → size n ≡ z
size_is n m z a =
    let hi : n * 2 ^ 24 < 2 ^ z * 2 ^ 24 =
    subst (λ (y : ℕ). y < 2 ^ z * 2 ^ 24) (sym a.same) (subst (λ (y : ℕ). m * 2 ^ z < y) (mul_comm (2 ^ 24) (2 ^ z)) (mul-lt-mul_of_pos_right a.high (pow_pos z))) in
    let lo : 2 ^ (23 + z) < 2 ^ (size n + 24) =
    lt_of_le_of_lt (subst (λ (y : ℕ). y ≤ m * 2 ^ z) (sym (pow-add 2 23 z)) (mul-le-mul_right (2 ^ z) a.low))
    (subst (λ (y : ℕ). y < 2 ^ (size n + 24)) a.same (shl_lt (size n) 24 (size-lt n))) in
    let x : size n ≤ z = size-le n z (lt_of_mul-lt-mul_right (2 ^ 24) hi) in
    let y : 23 + z < size n + 24 = pow_lt_back (23 + z) (size n + 24) lo in
    omega arith

-- n * 2 ^ 149 is m with an even number of digits moved up
pub even_is : (n m z : ℕ) → Apart n m z → n * 2 ^ 149 ≡ m * 2 ^ (23 + z % 2) * 2 ^ (2 * (z / 2 + 51))
even_is n m z a =
    sym (mul_assoc n (2 ^ 24) (2 ^ 125))
    ∙ ap (λ (y : ℕ). y * 2 ^ 125) a.same
    ∙ mul_assoc m (2 ^ z) (2 ^ 125)
    ∙ ap (λ (y : ℕ). m * y) (sym (pow-add 2 z 125) ∙ ap (λ (y : ℕ). 2 ^ y) (apart z) ∙ pow-add 2 (23 + z % 2) (2 * (z / 2 + 51)))
    ∙ sym (mul_assoc m (2 ^ (23 + z % 2)) (2 ^ (2 * (z / 2 + 51))))
  where
    apart : (z : ℕ) → z + 125 ≡ 23 + z % 2 + 2 * (z / 2 + 51)
    apart z = omega arith

pub places_is : (n m z : ℕ) → Apart n m z → places n ≡ z / 2 + 51
unfolding places
places_is n m z a = ap (λ (y : ℕ). y / 2 + 51) (size_is n m z a)

pub digits-is : (n m z : ℕ) → Apart n m z → digits n ≡ near (m * 2 ^ (23 + z % 2))
unfolding digits
digits-is n m z a =
    ap near
    (ap (λ (k : ℕ). n * 2 ^ 149 / 2 ^ (2 * k)) (places_is n m z a)
    ∙ ap (λ (y : ℕ). y / 2 ^ (2 * (z / 2 + 51))) (even_is n m z a)
    ∙ mul-div_cancel (m * 2 ^ (23 + z % 2)) (pow_pos (2 * (z / 2 + 51))))

-- ---- the rounded root has 24 digits

pub record Wide (w : ℕ) : Type 0 where
  pub least : 2 ^ 46 ≤ w
  pub most : w ≤ 2 ^ 48 - 2 ^ 24

pub even-wide : (m z : ℕ) → 8388608 ≤ m → m < 16777216 → Wide (m * 2 ^ (23 + z % 2))
even-wide m z lo hi = go (z % 2) (bit z)
  where
    bit : (z : ℕ) → z % 2 < 2
    bit z = omega arith

    go : (b : ℕ) → b < 2 → Wide (m * 2 ^ (23 + b))
    go zero h = record { least = omega arith; most = omega arith }
    go (suc zero) h = record { least = omega arith; most = omega arith }
    go (suc (suc b)) h = absurd (no h)
      where
        no : suc (suc b) < 2 → ⊥
        no h = omega arith

floor-low : (w r : ℕ) → Wide w → Floor w r → 8388608 ≤ r
floor-low w r v f =
    let g : 8388608 < r + 1 =
    lt_of_not-le (λ (h : r + 1 ≤ 8388608). lt_irrefl w (lt_of_lt_of_le f.above (le_trans (square (r + 1) 8388608 h) v.least))) in
    omega arith

floor-high : (w r : ℕ) → Wide w → Floor w r → r < 16777216
floor-high w r v f = lt_of_not-le (λ (h : 16777216 ≤ r). no w (le_trans (square 16777216 r h) f.below) v.most)
  where
    no : (w : ℕ) → 16777216 * 16777216 ≤ w → w ≤ 2 ^ 48 - 2 ^ 24 → ⊥
    no w a b = omega arith

floor-last : (w r : ℕ) → Wide w → Floor w r → r < w - r * r → r + 1 < 16777216
floor-last w r v f h = go (floor-high w r v f)
  where
    no : r ≡ 16777215 → ⊥
    no e =
        let s : r * r ≡ 16777215 * 16777215 = ap (λ (y : ℕ). y * y) e in
        let m = v.most in
        omega arith

    go : r < 16777216 → r + 1 < 16777216
    go l = omega (arith, no)

pub record Normal (q : ℕ) : Type 0 where
  pub low : 8388608 ≤ q
  pub high : q < 16777216

rounded-normal : (w r : ℕ) → Wide w → Floor w r → Normal (rounded w r)
rounded-normal w r v f = go (ltb r (w - r * r)) (ltb→lt r (w - r * r))
  where
    go : (b : Bool) → (T b → r < w - r * r) → Normal (cond b (r + 1) r)
    go true y = let l = floor-low w r v f in record { low = omega arith; high = floor-last w r v f (y tt) }
    go false y = record { low = floor-low w r v f; high = floor-high w r v f }

pub wide-lt : (w : ℕ) → Wide w → w < 2 ^ 48
wide-lt w v = let h = v.most in omega arith

pub near-normal : (w : ℕ) → Wide w → Normal (near w)
near-normal w v =
    let f = root-floor w (wide-lt w v) in
    subst Normal (sym (near-is w (root 24 w 0) (wide-lt w v) f)) (rounded-normal w (root 24 w 0) v f)
