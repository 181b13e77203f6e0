-- The magnitude of a stick whose two values lie in -1..1, in units of 2 ^ -149: it is a value in 0..1, and at least each size above a half.
use Rattle.std.specs.Prelude.{◌≡◌, refl, ◌⊎◌, Bool, true, false, ℕ, zero, suc, ◌+◌, ◌*◌, ◌^◌, ◌≤◌, ◌<◌, T, Float}
use Rattle.std.proofs.Common.{sym, ap, ◌∙◌, subst, inl, inr, zero-lt-suc, le_trans, le_of_eq, le_of_lt, lt_irrefl, lt_of_lt_of_le, lt_of_le_of_lt, le-add_right, le-add_left, eq-zero-or-pos, add-le-add, mul_assoc, mul_comm, mul-pos, mul-le-mul_right, zero-mul, arith, lit<, pow_pos}
use Rattle.std.specs.Float.{nan, inf, fin}
use Rattle.std.specs.Float.Ieee.{binary32, down, unlike, round, add, mul, fits}
use Rattle.std.specs.Float.Ieee.Exact.{HasValue}
use Rattle.std.specs.Float.Ieee.Fits.{up_pos, add-fits}
use Rattle.std.specs.Float.Ieee.Positive.{positive_of_value}
use Rattle.numbers.specs.Root.{sqrt_of, magnitude_of}
use Rattle.binary32.specs.WholeRoot.{square}
use Rattle.binary32.specs.Values.{Held, held}
use Rattle.binary32.specs.Nearest.{nearest-root}
use Rattle.theory_arithmetic.specs.Units.{half, one, two, too_large, one-pos, ones_pos, power-held, one-held, two-held}
use Rattle.theory_arithmetic.specs.Rounding.{rounded, valued, same_units, rounded-held, at_most, at_least}
use Rattle.theory_arithmetic.specs.Operations.{mul-units, add-units}
use Rattle.theory_arithmetic.specs.Ends.{Size, clamped}
use Rattle.theory_arithmetic.specs.Larger.{squared, root-above}

-- x is at least every size above a half whose square is at most S
pub record Reaches (x : Float) (S : ℕ) : Type 0 where
  pub units : ℕ
  pub has : HasValue x false units one
  pub held : Held units
  pub larger : (X : ℕ) → Held X → half < X → X ≤ one → squared X ≤ S → X ≤ units

-- ---- a square

like : (s : Bool) → unlike s s ≡ false
like true = refl
like false = refl

module _ (X : ℕ) (u : X ≤ one) where
  pub squared-le : squared X ≤ one
  squared-le = at_most (X * X) (one * one) one ones_pos one-held (le_trans (mul-le-mul_right one (square X one u)) (le_of_eq (mul_comm (one * one) one)))

  squared-small : squared X < too_large
  squared-small = lt_of_le_of_lt squared-le (lit< tt)

  -- above a half it is a quarter at least
  quarter : half < X → 2 ^ 147 ≤ squared X
  quarter h =
      at_least (X * X) (one * one) (2 ^ 147) ones_pos (power-held 147 (lit< tt))
      (le_trans (le_of_eq (mul_assoc (2 ^ 147) one one)) (mul-le-mul_right one (square half X (le_of_lt h)))) squared-small

square-is : (x : Float) (z : Size x) → HasValue (mul binary32 x x) false (squared z.size) one
square-is x z =
    valued (mul binary32 x x) false (z.size * z.size) (one * one)
    (mul-units x x z.minus z.minus z.size z.size z.has z.has ∙ ap (λ (s : Bool). round binary32 s (z.size * z.size) (one * one)) (like z.minus))
    (squared-small z.size z.most)

-- ---- the root

root-of-zero : (z : Float) → HasValue z false 0 one → sqrt_of z ≡ z
unfolding sqrt_of
root-of-zero nan v = absurd v
root-of-zero (inf s) v = absurd v
root-of-zero (fin s zero e) v = refl
root-of-zero (fin s (suc m) e) v = absurd (none (mul-pos (mul-pos (zero-lt-suc m) (up_pos e)) one-pos) (v.1 ∙ zero-mul (down e)))
  where
    none : {n : ℕ} → 0 < n → n ≡ 0 → ⊥
    none h e = omega arith

root-reaches : (z : Float) (S : ℕ) → T (fits binary32 z) → HasValue z false S one → Held S → Reaches (sqrt_of z) S
root-reaches z S f v h = go (eq-zero-or-pos S)
  where
    go : (S ≡ 0) ⊎ (0 < S) → Reaches (sqrt_of z) S
    go (inl e) =
        let w = subst (λ (n : ℕ). HasValue z false n one) e v in
        record {
          units = S;
          has = subst (λ (y : Float). HasValue y false S one) (sym (root-of-zero z w)) v;
          held = h;
          larger = λ X k a u l. absurd (lt_irrefl 0 (lt_of_lt_of_le (pow_pos 147) (le_trans (quarter X u a) (le_trans l (le_of_eq e)))));
        }
    go (inr p) =
        let i = nearest-root z f (positive_of_value z S one v p) in
        let e : S ≡ i.n = same_units z S i.n v i.of in
        record {
          units = i.ρ;
          has = i.is;
          held = held (sqrt_of z) false i.ρ i.format i.is;
          larger = λ X k a u l. root-above z (sqrt_of z) i X k a (subst (λ (n : ℕ). squared X ≤ n) e l) u;
        }

-- ---- the magnitude of sizes X and Y

pub record Magnitude (m : Float) (X Y : ℕ) : Type 0 where
  pub units : ℕ
  pub has : HasValue m false units one
  pub held : Held units
  pub most : units ≤ one
  pub first : half < X → X ≤ units
  pub second : half < Y → Y ≤ units

module _ (x y : Float) (a : Size x) (b : Size y) where
  abbrev A : ℕ
  A = squared a.size

  abbrev B : ℕ
  B = squared b.size

  abbrev S : ℕ
  S = rounded (A + B) one

  S-small : S < too_large
  S-small = lt_of_le_of_lt (at_most (A + B) one two one-pos two-held (mul-le-mul_right one (add-le-add (squared-le a.size a.most) (squared-le b.size b.most)))) (lit< tt)

  abbrev sum : Float
  sum = add binary32 (mul binary32 x x) (mul binary32 y y)

  sum_is : HasValue sum false S one
  sum_is = valued sum false (A + B) one (add-units (mul binary32 x x) (mul binary32 y y) A B (square-is x a) (square-is y b)) S-small

  summand : (X : ℕ) → X ≤ one → squared X ≤ A + B → squared X ≤ S
  summand X u l = at_least (A + B) one (squared X) one-pos (rounded-held (X * X) (one * one) (squared-small X u)) (mul-le-mul_right one l) S-small

  pub magnitude : Magnitude (magnitude_of x y) a.size b.size
  unfolding magnitude_of
  magnitude =
      let r = root-reaches sum S (add-fits binary32 (mul binary32 x x) (mul binary32 y y)) sum_is (rounded-held (A + B) one S-small) in
      let c = clamped (sqrt_of sum) r.units r.has r.held in
      record {
        units = c.units;
        has = c.has;
        held = c.held;
        most = c.most;
        first = λ h. c.keeps a.size (r.larger a.size a.held h a.most (summand a.size a.most (le-add_right A B))) a.most;
        second = λ h. c.keeps b.size (r.larger b.size b.held h b.most (summand b.size b.most (le-add_left B A))) b.most;
      }
