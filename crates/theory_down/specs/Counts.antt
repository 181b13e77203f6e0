-- How many of n places say true: two that agree count alike, where none says true it is 0, and one place that says otherwise counts one more, one less or the
-- same. So count_after, the law book's step of a count, gives the new count where a place begins or ceases to say true. By induction on n.
use Prim.Native.Nat.{ℕ, zero, suc, ◌+◌, ◌<◌, ◌≤◌}
use Rattle.std.specs.Prelude.{Bool, cond, ◌≡◌}
use Rattle.std.proofs.Math.Bool.{true, false}
use Rattle.std.proofs.Math.Path.{refl, sym}
use Rattle.std.proofs.Common.{ap₂, ◌∙◌}
use native.Mathlib.Omega.{arith}
use Rattle.std.proofs.Math.Dec.{eqb}
use borrow.Author.Tests.{eqb-true, eqb-false, lt-ltb}
use Rattle.rules.specs.Names.{places_per_pad}
use Rattle.rules.specs.Places.{one_if}
use Rattle.rules.specs.Down.{count_after, changes}

-- how many of the places 0 to n - 1 say true
unfoldable pub how_many : (ℕ → Bool) → ℕ → ℕ
how_many says zero = 0
how_many says (suc n) = how_many says n + one_if (says n)

one-most : (b : Bool) → one_if b ≤ 1
one-most true = omega arith
one-most false = omega arith

pub count_most : (says : ℕ → Bool) (n : ℕ) → how_many says n ≤ n
unfolding how_many
count_most says zero = omega arith
count_most says (suc n) =
    let rest = count_most says n in
    let last = one-most (says n) in
    omega arith

-- what agrees counts alike
pub count-alike : (one two : ℕ → Bool) (n : ℕ) → ((k : ℕ) → k < n → one k ≡ two k) → how_many one n ≡ how_many two n
unfolding how_many
count-alike one two zero same = refl
count-alike one two (suc n) same =
    ap₂ (λ (x : ℕ) (b : Bool). x + one_if b) (count-alike one two n (λ k short. same k (omega arith))) (same n (omega arith))

pub count_none : (says : ℕ → Bool) (n : ℕ) → ((k : ℕ) → k < n → says k ≡ false) → how_many says n ≡ 0
unfolding how_many
count_none says zero none = refl
count_none says (suc n) none = ap₂ (λ (x : ℕ) (b : Bool). x + one_if b) (count_none says n (λ k short. none k (omega arith))) (none n (omega arith))

-- ---- one place says otherwise

module _ (before now : ℕ → Bool) (at : ℕ) (others : (k : ℕ) → (k ≡ at → ⊥) → now k ≡ before k) where
  -- the two counts differ by what that place says
  moved : (n : ℕ) → at < n → how_many now n + one_if (before at) ≡ how_many before n + one_if (now at)
  unfolding how_many
  moved zero inside = absurd (omega arith)
  moved (suc n) inside = by (eqb at n) refl (λ less. moved n less)
    where
      by : (last : Bool) → eqb at n ≡ last → (at < n → how_many now n + one_if (before at) ≡ how_many before n + one_if (now at))
          → how_many now n + one_if (now n) + one_if (before at) ≡ how_many before n + one_if (before n) + one_if (now at)
      by true e earlier =
          let same = eqb-true at n e in
          let rest = count-alike now before n (λ k short. others k (λ i. omega arith)) in
          rw (same, rest) (omega arith)
      by false e earlier =
          let other = eqb-false at n e in
          let rest = earlier (omega arith) in
          rw (others n (λ i. other (sym i))) (omega arith)

  module _ (n : ℕ) (inside : at < n) where
    pub count-up : before at ≡ false → now at ≡ true → how_many now n ≡ how_many before n + 1
    count-up was is =
        let e = rw (was, is) at (moved n inside) in
        omega arith

    pub count_down : before at ≡ true → now at ≡ false → how_many before n ≡ how_many now n + 1
    count_down was is =
        let e = rw (was, is) at (moved n inside) in
        omega arith

    pub count-stays : before at ≡ now at → how_many now n ≡ how_many before n
    count-stays same =
        let e = rw same at (moved n inside) in
        omega arith

  -- the law book's count of a pad's places
  pub count-follows : at < places_per_pad → (was is : Bool) → before at ≡ was → now at ≡ is
      → cond (changes was is) (count_after (how_many before places_per_pad) is) (how_many before places_per_pad) ≡ how_many now places_per_pad
  unfolding count_after
  count-follows inside true true was is = sym (count-stays places_per_pad inside (was ∙ sym is))
  count-follows inside true false was is =
      let e = count_down places_per_pad inside was is in
      omega arith
  count-follows inside false true was is =
      let e = count-up places_per_pad inside was is in
      let most = count_most now places_per_pad in
      rw (lt-ltb (how_many before places_per_pad) places_per_pad (omega arith)) (sym e)
  count-follows inside false false was is = sym (count-stays places_per_pad inside (was ∙ sym is))

-- ---- one is counted exactly where some place says true

pub some-counts : (says : ℕ → Bool) (n k : ℕ) → k < n → says k ≡ true → 0 < how_many says n
unfolding how_many
some-counts says zero k inside up = absurd (omega arith)
some-counts says (suc n) k inside up = by (eqb k n) refl (λ less. some-counts says n k less up)
  where
    by : (last : Bool) → eqb k n ≡ last → (k < n → 0 < how_many says n) → 0 < how_many says n + one_if (says n)
    by true e earlier = rw (← eqb-true k n e, up) (omega arith)
    by false e earlier =
        let other = eqb-false k n e in
        let rest = earlier (omega arith) in
        omega arith

pub record Some (says : ℕ → Bool) (n : ℕ) : Type 0 where
  pub place : ℕ
  pub inside : place < n
  pub says_so : says place ≡ true

pub counted-some : (says : ℕ → Bool) (n : ℕ) → 0 < how_many says n → Some says n
unfolding how_many
counted-some says zero more = absurd (omega arith)
counted-some says (suc n) more = by (says n) refl more (λ rest. counted-some says n rest)
  where
    by : (last : Bool) → says n ≡ last → 0 < how_many says n + one_if last → (0 < how_many says n → Some says n) → Some says (suc n)
    by true e more earlier = record { place = n; inside = omega arith; says_so = e }
    by false e more earlier =
        let s = earlier (omega arith) in
        let inside = s.inside in
        record { place = s.place; inside = omega arith; says_so = s.says_so }
