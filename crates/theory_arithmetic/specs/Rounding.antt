-- `round` in units of 2 ^ -149: it keeps the order and changes no value of the format, so what lies at or below a value still does when it is rounded; and the
-- result lies within half a place of the fraction.
use Rattle.std.specs.Prelude.{◌≡◌, Bool, true, false, not, ◌&&◌, ◌||◌, cond, T, ltb, eqb, Float}
use Rattle.std.proofs.Math.Path.{sym, ap}
use Rattle.std.proofs.Common.{◌∙◌, subst, true≢false, suc-mul, le_of_eq, le_of_lt, mul_assoc, mul_comm, mul-pos, mul-le-mul_left, mul-le-mul_right, le_of_mul-le-mul_right, mod-lt, div-add-mod', div-lt_iff_lt-mul, arith, ltb→lt, nltb→le, leb→le, eqb→eq, pow_pos, pow_mono, le-ltb}
use Prim.Native.Nat.{ℕ, suc, ◌+◌, ◌*◌, ◌/◌, ◌%◌, ◌^◌, ◌≤◌, ◌<◌, compare, Ordering}
use Rattle.std.proofs.Math.Nat.{eq_of_mul-eq-mul_right}
use Rattle.std.proofs.Math.Dec.{is_le, compare_is_eq, nleb→lt, eqb_refl}
use Rattle.std.proofs.Math.Arith.{lt_of_le-ne}
use Rattle.std.specs.Float.{nan, inf, fin, binary32}
use Rattle.std.specs.Float.Ieee.{up, down, odd, nearest, round, units, le}
use Rattle.std.specs.Float.Ieee.Digits.{size-le}
use Rattle.std.specs.Float.Ieee.Exact.{HasValue, units_val, round_exact}
use Rattle.std.specs.Float.Ieee.Fits.{round_is, down_pos, round-fits}
use Rattle.std.specs.Float.Ieee.Order.{drop, kept, transfer, round_mono}
use Rattle.std.specs.Float.Ieee.Scale.{grid, finite, round_under, round_val}
use Rattle.binary32.specs.Values.{Held, held}
use Rattle.theory_arithmetic.specs.Units.{one, too_large, one-pos}

-- the units of a / c, rounded
unfoldable pub rounded : ℕ → ℕ → ℕ
rounded a c = grid binary32 a c

pub value : (s : Bool) (a c : ℕ) → rounded a c < too_large → HasValue (round binary32 s a c) s (rounded a c) one
unfolding rounded
value s a c h = subst (λ (x : Float). HasValue x s (rounded a c) one) (sym (round_is binary32 s a c)) (units_val binary32 s (kept 24 (a * one) c) (drop 24 (a * one) c) h)

-- the same of what an operation gives
pub valued : (x : Float) (s : Bool) (a c : ℕ) → x ≡ round binary32 s a c → rounded a c < too_large → HasValue x s (rounded a c) one
valued x s a c e h = rw e (value s a c h)

-- ---- the order

or-equal : (a b : ℕ) → T (ltb a b || (eqb a b && true)) → a ≤ b
or-equal a b = go (ltb a b) (eqb a b) (ltb→lt a b) (eqb→eq a b)
  where
    go : (l e : Bool) → (T l → a < b) → (T e → a ≡ b) → T (l || (e && true)) → a ≤ b
    go true e f g t = le_of_lt (f tt)
    go false true f g t = le_of_eq (g tt)
    go false false f g t = absurd t

-- the order of two values that are not negative is that of their units
units-le : (x y : Float) (p q : ℕ) → HasValue x false p one → HasValue y false q one → T (le x y) → p ≤ q
unfolding le
units-le nan y p q v w h = absurd v
units-le (inf s) y p q v w h = absurd v
units-le (fin s m e) nan p q v w h = absurd w
units-le (fin s m e) (inf t) p q v w h = absurd w
units-le (fin true m e) (fin t n d) p q v w h = absurd (true≢false v.0)
units-le (fin false m e) (fin true n d) p q v w h = absurd (true≢false w.0)
units-le (fin false m e) (fin false n d) p q v w h =
    le_of_mul-le-mul_right
    (transfer p q one one (m * up e) (n * up d) (down e) (down d) (down_pos e) (down_pos d) (sym v.1) (sym w.1) (or-equal (m * up e * down d) (n * up d * down e) h)) one-pos

over-infinity : (y : Float) (q : ℕ) → HasValue y false q one → T (le (inf false) y) → ⊥
unfolding le
over-infinity nan q w h = w
over-infinity (inf t) q w h = w
over-infinity (fin t n d) q w h = h

infinite : (a c : ℕ) → too_large ≤ rounded a c → round binary32 false a c ≡ inf false
unfolding units rounded
infinite a c h = round_is binary32 false a c ∙ ap (λ (b : Bool). cond b (odd 25 false (kept 24 (a * one) c) (drop 24 (a * one) c) 149) (inf false)) (le-ltb (rounded a c) too_large h)

pub rounded-le : (a b c d : ℕ) → 0 < b → 0 < d → a * d ≤ c * b → rounded c d < too_large → rounded a b ≤ rounded c d
rounded-le a b c d B D h l = go (ltb (rounded a b) too_large) (ltb→lt (rounded a b) too_large) (nltb→le (rounded a b) too_large)
  where
    order : T (le (round binary32 false a b) (round binary32 false c d))
    order = round_mono binary32 a b c d B D h

    go : (z : Bool) → (T z → rounded a b < too_large) → (T (not z) → too_large ≤ rounded a b) → rounded a b ≤ rounded c d
    go true y n = units-le (round binary32 false a b) (round binary32 false c d) (rounded a b) (rounded c d) (value false a b (y tt)) (value false c d l) order
    go false y n =
        absurd (over-infinity (round binary32 false c d) (rounded c d) (value false c d l) (subst (λ (x : Float). T (le x (round binary32 false c d))) (infinite a b (n tt)) order))

-- ---- a value of the format stays

pub same_units : (x : Float) (p q : ℕ) → HasValue x false p one → HasValue x false q one → p ≡ q
same_units nan p q v w = absurd v
same_units (inf s) p q v w = absurd v
same_units (fin s m e) p q v w = eq_of_mul-eq-mul_right (down e) (down_pos e) p q (sym v.1 ∙ w.1)

value-finite : (x : Float) (p : ℕ) → HasValue x false p one → T (finite x)
value-finite nan p v = v
value-finite (inf s) p v = v
value-finite (fin s m e) p v = tt

-- the value of p units
abbrev pub value_of : ℕ → Float
value_of p = round binary32 false p one

pub value_of-is : (p : ℕ) → Held p → HasValue (value_of p) false p one
value_of-is p h =
    round_exact binary32 false p one h.d h.j one-pos h.short (subst (λ (x : ℕ). x < too_large) h.same h.small) (ap (λ (x : ℕ). x * one) h.same)

pub stays : (p : ℕ) → Held p → rounded p one ≡ p
unfolding rounded
stays p h =
    let v = value_of-is p h in
    same_units (value_of p) (rounded p one) p (round_val binary32 p one (round_under binary32 p one (value-finite (value_of p) p v))) v

pub at_most : (a c p : ℕ) → 0 < c → Held p → a * one ≤ p * c → rounded a c ≤ p
at_most a c p C h l =
    let e = stays p h in
    let small : rounded p one < too_large = subst (λ (x : ℕ). x < too_large) (sym e) h.small in
    subst (λ (x : ℕ). rounded a c ≤ x) e (rounded-le a c p one C one-pos l small)

pub at_least : (a c p : ℕ) → 0 < c → Held p → p * c ≤ a * one → rounded a c < too_large → p ≤ rounded a c
at_least a c p C h l small = subst (λ (x : ℕ). x ≤ rounded a c) (stays p h) (rounded-le p one a c one-pos C l small)

pub rounded-held : (a c : ℕ) → rounded a c < too_large → Held (rounded a c)
rounded-held a c h = held (round binary32 false a c) false (rounded a c) (round-fits binary32 false a c) (value false a c h)

-- ---- half a place

abbrev Compared : Ordering → ℕ → ℕ → Type 0
Compared Ordering.lt a b = a < b
Compared Ordering.eq a b = a ≡ b
Compared Ordering.gt a b = b < a

compared : (a b : ℕ) → Compared (compare a b) a b
compared a b = go (compare a b) (leb→le a b) (nleb→lt a b) (eqb→eq a b) (λ (e : a ≡ b). subst (λ (x : ℕ). T (eqb a x)) e (eqb_refl a))
  where
    go : (o : Ordering) → (T (is_le o) → a ≤ b) → (T (not (is_le o)) → b < a) → (T (compare_is_eq o) → a ≡ b) → (a ≡ b → T (compare_is_eq o)) → Compared o a b
    go Ordering.lt h k e n = lt_of_le-ne (h tt) n
    go Ordering.eq h k e n = e tt
    go Ordering.gt h k e n = k tt

-- k is n / u to the nearest whole number
record Half (n u k : ℕ) : Type 0 where
  over : 2 * (k * u) ≤ 2 * n + u
  under : 2 * n ≤ 2 * (k * u) + u

nearest-half : (n u q r : ℕ) (o : Ordering) → q * u + r ≡ n → r < u → Compared o (r * 2) u → Half n u (nearest q o)
nearest-half n u q r Ordering.lt e l c = record { over = omega arith; under = omega arith }
nearest-half n u q r Ordering.eq e l c =
    let lo : q * u ≤ (q + q % 2) * u = mul-le-mul_right u (least q) in
    let hi : (q + q % 2) * u ≤ suc q * u = mul-le-mul_right u (most q) in
    let f : suc q * u ≡ q * u + u = suc-mul q u in
    record { over = omega arith; under = omega arith }
  where
    least : (q : ℕ) → q ≤ q + q % 2
    least q = omega arith

    most : (q : ℕ) → q + q % 2 ≤ suc q
    most q = omega arith
nearest-half n u q r Ordering.gt e l c =
    let f : suc q * u ≡ q * u + u = suc-mul q u in
    record { over = omega arith; under = omega arith }

-- a place of 2 ^ k units, where the fraction lies below 2 ^ (24 + k) units
module _ (a c k : ℕ) (C : 0 < c) (h : a * one < 2 ^ (24 + k) * c) where
  few : drop 24 (a * one) c ≤ k
  few = let l = size-le (a * one / c) (24 + k) ((div-lt_iff_lt-mul C).1 h) in omega arith

  place-le : c * 2 ^ drop 24 (a * one) c ≤ c * 2 ^ k
  place-le = mul-le-mul_left c (pow_mono few)

  halves : Half (a * one) (c * 2 ^ drop 24 (a * one) c) (kept 24 (a * one) c)
  halves =
      let u = c * 2 ^ drop 24 (a * one) c in
      let U : 0 < u = mul-pos C (pow_pos (drop 24 (a * one) c)) in
      nearest-half (a * one) u (a * one / u) (a * one % u) (compare (a * one % u * 2) u) (div-add-mod' (a * one) u) (mod-lt (a * one) U) (compared (a * one % u * 2) u)

  joined : kept 24 (a * one) c * (c * 2 ^ drop 24 (a * one) c) ≡ rounded a c * c
  unfolding rounded
  joined =
      ap (λ (x : ℕ). kept 24 (a * one) c * x) (mul_comm c (2 ^ drop 24 (a * one) c)) ∙ sym (mul_assoc (kept 24 (a * one) c) (2 ^ drop 24 (a * one) c) c)

  pub at-most-half : 2 * (rounded a c * c) ≤ 2 * (a * one) + c * 2 ^ k
  at-most-half = by (a * one) (kept 24 (a * one) c * (c * 2 ^ drop 24 (a * one) c)) (rounded a c * c) (c * 2 ^ drop 24 (a * one) c) (c * 2 ^ k) joined halves.over place-le
    where
      by : (n m g u v : ℕ) → m ≡ g → 2 * m ≤ 2 * n + u → u ≤ v → 2 * g ≤ 2 * n + v
      by n m g u v e o l = omega arith

  pub at-least-half : 2 * (a * one) ≤ 2 * (rounded a c * c) + c * 2 ^ k
  at-least-half = by (a * one) (kept 24 (a * one) c * (c * 2 ^ drop 24 (a * one) c)) (rounded a c * c) (c * 2 ^ drop 24 (a * one) c) (c * 2 ^ k) joined halves.under place-le
    where
      by : (n m g u v : ℕ) → m ≡ g → 2 * n ≤ 2 * m + u → u ≤ v → 2 * n ≤ 2 * g + v
      by n m g u v e o l = omega arith
