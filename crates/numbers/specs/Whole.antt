-- 01's "so every cast and difference is exact": the difference, and the sum with 1, of two whole numbers that binary32 holds is the cast of the integers' own.
-- The idea: a value that is a whole number adds as that number over 1, whatever way its fraction is written.
use Rattle.std.specs.Prelude.{◌≡◌, refl, Bool, true, false, not, ◌&&◌, cond, ℕ, zero, suc, ◌+◌, ◌-◌, ◌*◌, ◌≤◌, ◌<◌, ◌^◌, ℤ, pos, negsuc, ◌+ℤ◌, ◌-ℤ◌, T, ltb, Float}
use Rattle.std.proofs.Common.{sym, ap, ◌∙◌, mul-one, mul_comm, mul_assoc, mul_right_comm, add-mul, mul-pos, mul-lt-mul_of_pos_right, mul-le-mul_right, arith, leb→le, ltb→lt, nltb→le, lt-ltb, le-ltb}
use Rattle.std.proofs.Math.Nat.{mul-sub}
use Rattle.std.proofs.Math.IntN.{sub_ℕ}
use Rattle.std.specs.Float.{nan, inf, fin, binary32}
use Rattle.std.specs.Float.Ieee.{up, down, round, sum, add, sub, neg, of_int, of_bits, in_float}
use Rattle.std.specs.Float.Ieee.Exact.{HasValue}
use Rattle.std.specs.Float.Ieee.Back.{round_whole}
use Rattle.std.specs.Float.Ieee.Fits.{down_pos}
use Rattle.std.specs.Float.Ieee.Scale.{round_same}
use Rattle.numbers.specs.Constants.{one32}

-- x is the whole number p, negative where s is true
pub record Whole (x : Float) (s : Bool) (p : ℕ) : Type 0 where
  pub has : HasValue x s p 1

-- ---- a sum of p / 1 and q / 1

same_test : (p q c : ℕ) → 0 < c → ltb (p * c) (q * c) ≡ ltb p q
same_test p q c h = go (ltb p q) (ltb→lt p q) (nltb→le p q)
  where
    go : (b : Bool) → (T b → p < q) → (T (not b) → q ≤ p) → ltb (p * c) (q * c) ≡ b
    go true y n = lt-ltb (p * c) (q * c) (mul-lt-mul_of_pos_right (y tt) h)
    go false y n = le-ltb (p * c) (q * c) (mul-le-mul_right c (n tt))

rounds : (s : Bool) (n c : ℕ) → 0 < c → round binary32 s (n * c) c ≡ round binary32 s n 1
rounds s n c h = round_same binary32 s (n * c) c n 1 h (omega arith) (mul-one (n * c))

less-mul : (p q c : ℕ) → p * c - q * c ≡ (p - q) * c
less-mul p q c =
    let e = mul-sub c p q in
    let a = mul_comm p c in
    let b = mul_comm q c in
    let d = mul_comm (p - q) c in
    omega arith

sum_over : (s t : Bool) (p q c : ℕ) → 0 < c → sum binary32 s (p * c) t (q * c) c ≡ sum binary32 s p t q 1
unfolding sum
sum_over s t p q c h =
    rw (same_test p q c h, same_test q p c h, ← add-mul p q c, less-mul p q c, less-mul q p c, rounds s (p + q) c h, rounds t (q - p) c h, rounds (s && ltb q p) (p - q) c h)

-- values with whole sizes add as those sizes
add-values : (x y : Float) (s t : Bool) (p q : ℕ) → HasValue x s p 1 → HasValue y t q 1 → add binary32 x y ≡ sum binary32 s p t q 1
unfolding add
add-values nan y s t p q v w = absurd v
add-values (inf u) y s t p q v w = absurd v
add-values (fin u m e) nan s t p q v w = absurd w
add-values (fin u m e) (inf r) s t p q v w = absurd w
add-values (fin u m e) (fin r n d) s t p q v w =
    let a : m * up e * down d ≡ p * (down e * down d) = ap (λ (k : ℕ). k * down d) (sym (mul-one (m * up e)) ∙ v.1) ∙ mul_assoc p (down e) (down d) in
    let b : n * up d * down e ≡ q * (down e * down d) =
    ap (λ (k : ℕ). k * down e) (sym (mul-one (n * up d)) ∙ w.1) ∙ mul_right_comm q (down d) (down e) ∙ mul_assoc q (down e) (down d) in
    rw (a, b, v.0, w.0) (sum_over s t p q (down e * down d) (mul-pos (down_pos e) (down_pos d)))

neg_value : (x : Float) (s : Bool) (p : ℕ) → HasValue x s p 1 → HasValue (neg x) (not s) p 1
unfolding neg
neg_value nan s p v = v
neg_value (inf t) s p v = v
neg_value (fin t m e) s p v = (ap not v.0, v.1)

add-whole : {x y : Float} {s t : Bool} {p q : ℕ} → Whole x s p → Whole y t q → add binary32 x y ≡ sum binary32 s p t q 1
add-whole {x} {y} {s} {t} {p} {q} v w = add-values x y s t p q v.has w.has

sub-whole : {x y : Float} {s t : Bool} {p q : ℕ} → Whole x s p → Whole y t q → sub binary32 x y ≡ sum binary32 s p (not t) q 1
unfolding sub
sub-whole {x} {y} {s} {t} {p} {q} v w = add-values x (neg y) s (not t) p q v.has (neg_value y t q w.has)

-- ---- the integers' own

of-difference : (a b : ℕ) → of_int binary32 (sub_ℕ a b) ≡ cond (ltb a b) (round binary32 true (b - a) 1) (round binary32 false (a - b) 1)
unfolding of_int
of-difference a b = go (ltb a b) (ltb→lt a b)
  where
    go : (c : Bool) → (T c → a < b)
        → of_int binary32 (cond c (negsuc (b - suc a)) (pos (a - b))) ≡ cond c (round binary32 true (b - a) 1) (round binary32 false (a - b) 1)
    go true y =
        let l = y tt in
        let e : suc (b - suc a) ≡ b - a = omega arith in
        ap (λ (n : ℕ). round binary32 true n 1) e
    go false y = refl

pub plain : (p q : ℕ) → pos p -ℤ pos q ≡ sub_ℕ p q
plain p zero = rw (le-ltb p 0 (omega arith)) (ap pos (omega arith))
plain p (suc q) = refl

-- the other way round
turned : (a b : ℕ) → cond (ltb a b) (round binary32 false (b - a) 1) (round binary32 (ltb b a) (a - b) 1)
    ≡ cond (ltb b a) (round binary32 true (a - b) 1) (round binary32 false (b - a) 1)
turned a b = go (ltb a b) (ltb b a) (ltb→lt a b) (nltb→le a b) (ltb→lt b a) (nltb→le b a)
  where
    go : (c d : Bool) → (T c → a < b) → (T (not c) → b ≤ a) → (T d → b < a) → (T (not d) → a ≤ b)
        → cond c (round binary32 false (b - a) 1) (round binary32 d (a - b) 1) ≡ cond d (round binary32 true (a - b) 1) (round binary32 false (b - a) 1)
    go true true y n z o =
        let l = y tt in
        let g = z tt in
        absurd (omega arith)
    go true false y n z o = refl
    go false true y n z o = refl
    go false false y n z o =
        let l = n tt in
        let g = o tt in
        ap (λ (k : ℕ). round binary32 false k 1) (omega arith)

-- ---- casts

pub cast : (n : ℕ) → T (in_float binary32 (pos n)) → Whole (of_int binary32 (pos n)) false n
unfolding of_int in_float
cast n h = record { has = round_whole binary32 false n (leb→le n (2 ^ 24) h) }

pub cast-minus : (n : ℕ) → T (in_float binary32 (negsuc n)) → Whole (of_int binary32 (negsuc n)) true (suc n)
unfolding of_int in_float
cast-minus n h = record { has = round_whole binary32 true (suc n) (ltb→lt n (2 ^ 24) h) }

-- both of one sign
up-sum : (p q : ℕ) → sum binary32 false p false q 1 ≡ of_int binary32 (pos (p + q))
unfolding sum of_int
up-sum p q = refl

down-sum : (j q : ℕ) → sum binary32 true (suc j) true q 1 ≡ of_int binary32 (negsuc j -ℤ pos q)
unfolding sum of_int
down-sum j zero =
    let e : suc j + 0 ≡ suc j - 0 = omega arith in
    ap (λ (n : ℕ). round binary32 true n 1) e ∙ sym (of-difference 0 (suc j) ∙ rw (lt-ltb 0 (suc j) (omega arith)))
down-sum j (suc k) =
    let e : suc j + suc k ≡ suc (suc (j + k)) = omega arith in
    ap (λ (n : ℕ). round binary32 true n 1) e

-- of two signs
mixed-sum : (p q : ℕ) → sum binary32 false p true q 1 ≡ of_int binary32 (sub_ℕ p q)
unfolding sum
mixed-sum p q = sym (of-difference p q)

mixed-sum' : (p q : ℕ) → sum binary32 true p false q 1 ≡ of_int binary32 (sub_ℕ q p)
unfolding sum
mixed-sum' p q = turned p q ∙ sym (of-difference q p)

pub difference : (a b : ℤ) → T (in_float binary32 a) → T (in_float binary32 b) → sub binary32 (of_int binary32 a) (of_int binary32 b) ≡ of_int binary32 (a -ℤ b)
difference (pos p) (pos q) h g = sub-whole (cast p h) (cast q g) ∙ mixed-sum p q ∙ ap (of_int binary32) (sym (plain p q))
difference (pos p) (negsuc k) h g = sub-whole (cast p h) (cast-minus k g) ∙ up-sum p (suc k)
difference (negsuc j) (pos q) h g = sub-whole (cast-minus j h) (cast q g) ∙ down-sum j q
difference (negsuc j) (negsuc k) h g = sub-whole (cast-minus j h) (cast-minus k g) ∙ mixed-sum' (suc j) (suc k)

one : Whole one32 false 1
unfolding of_bits
one = record { has = (refl, refl) }

pub one_more : (a : ℤ) → T (in_float binary32 a) → add binary32 (of_int binary32 a) one32 ≡ of_int binary32 (a +ℤ pos 1)
one_more (pos n) h = add-whole (cast n h) one ∙ up-sum n 1
one_more (negsuc n) h = add-whole (cast-minus n h) one ∙ mixed-sum' (suc n) 1
