-- A column of one value; and marks taken off: n of them from a place on, and no other, and none is set.
use Rattle.std.specs.Prelude.{ℕ, zero, suc, ◌+◌, ◌<◌, ◌≤◌, Bool, true, false, List, [], ◌∷◌, ◌≡◌, refl, eqb, length, get_or, set, replicate}
use Rattle.std.proofs.Common.{◌∙◌, length-set, get_or-set_same, get_or-set_other, arith, eqb-true}
use Rattle.std.proofs.lemmas.Bool.{eqb-false}
use Rattle.rules.specs.Places.{cleared_of}
use Rattle.theory_history.specs.Lemmas.Truth.{false-true}

pub all_same : {A : Type 0} (n k : ℕ) (a : A) → get_or (replicate n a) k a ≡ a
all_same zero k a = refl
all_same (suc n) zero a = refl
all_same (suc n) (suc k) a = all_same n k a

pub cleared-length : (n : ℕ) (marks : List Bool) (i : ℕ) → length (cleared_of marks i n) ≡ length marks
unfolding cleared_of
cleared-length zero marks i = refl
cleared-length (suc n) marks i = cleared-length n (set marks i false) (i + 1) ∙ simp length-set

pub cleared-before : (n : ℕ) (marks : List Bool) (i k : ℕ) → k < i → get_or (cleared_of marks i n) k false ≡ get_or marks k false
unfolding cleared_of
cleared-before zero marks i k l = refl
cleared-before (suc n) marks i k l =
    cleared-before n (set marks i false) (i + 1) k (omega arith) ∙ get_or-set_other marks i k false false (λ e. omega arith)

pub cleared-behind : (n : ℕ) (marks : List Bool) (i k : ℕ) → i + n ≤ k → get_or (cleared_of marks i n) k false ≡ get_or marks k false
unfolding cleared_of
cleared-behind zero marks i k l = refl
cleared-behind (suc n) marks i k l =
    cleared-behind n (set marks i false) (i + 1) k (omega arith) ∙ get_or-set_other marks i k false false (λ e. omega arith)

pub cleared-inside : (n : ℕ) (marks : List Bool) (i k : ℕ) → i ≤ k → k < i + n → k < length marks → get_or (cleared_of marks i n) k false ≡ false
unfolding cleared_of
cleared-inside zero marks i k from to short = absurd (omega arith)
cleared-inside (suc n) marks i k from to short =
    by (eqb k i) refl (λ past. cleared-inside n (set marks i false) (i + 1) k past (omega arith) (simp length-set short))
  where
    order : (a b : ℕ) → b ≤ a → (a ≡ b → ⊥) → b + 1 ≤ a
    order a b l other = omega arith

    by : (first : Bool) → eqb k i ≡ first → (i + 1 ≤ k → get_or (cleared_of (set marks i false) (i + 1) n) k false ≡ false)
        → get_or (cleared_of (set marks i false) (i + 1) n) k false ≡ false
    by true e rest =
        let same = eqb-true k i e in
        let inside : i < length marks = omega arith in
        rw same (cleared-before n (set marks i false) (i + 1) i (omega arith) ∙ get_or-set_same marks i false false inside)
    by false e rest = rest (order k i from (eqb-false k i e))

-- a mark that is still there was there
set_there : (marks : List Bool) (i k : ℕ) → get_or (set marks i false) k false ≡ true → get_or marks k false ≡ true
set_there [] i k up = up
set_there (mark ∷ marks) zero zero up = false-true up
set_there (mark ∷ marks) zero (suc k) up = up
set_there (mark ∷ marks) (suc i) zero up = up
set_there (mark ∷ marks) (suc i) (suc k) up = set_there marks i k up

pub still-there : (n : ℕ) (marks : List Bool) (i k : ℕ) → get_or (cleared_of marks i n) k false ≡ true → get_or marks k false ≡ true
unfolding cleared_of
still-there zero marks i k up = up
still-there (suc n) marks i k up = set_there marks i k (still-there n (set marks i false) (i + 1) k up)
