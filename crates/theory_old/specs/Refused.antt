-- W-212's refusal, "29 partial hats, after 4 and before 5": that the archived call is 01's and never answers it, and that a refused registration leaves the hub. By
-- the refusal's five tests, each true or false. (Exactly when `register` answers it: `proofs/Refused.antt`.)
use Prim.Native.Nat.{ℕ, zero, suc, ◌+◌}
use Rattle.std.specs.Prelude.{Bool, false, not, ◌&&◌, ◌||◌, List, ◌≡◌, eqb, ltb, Err, Result}
use Rattle.std.proofs.Math.Bool.{true, cond}
use Rattle.std.proofs.Common.{true≢false, ◌∙◌, arith}
use Rattle.std.proofs.Math.Path.{refl, sym, ap}
use Rattle.std.specs.Result.{is_ok}
use Rattle.rules.specs.declared.Hub.{Hub}
use Rattle.rules.specs.declared.Refusal.{Refusal}
use Rattle.rules.specs.Names.{pad_limit}
use Rattle.rules.specs.Sheets.{sheet_opening, element_size, name_offset, last_hats, hats_of, count_of, sheet_fits, elements_fit, occurs_twice, partial_of, sheet_refusal}
use Rattle.rules.specs.Refusals.{first, unless_fits, numbered}
use Rattle.rules.specs.Calls.{register_refusal, register_by, register_as}
use Rattle.rules.specs.Answers.{register_says}

-- ---- the archived call is 01's: "Sheet order: 2, 3, 4, 5"

pub archived-order : (s : List ℕ)
    → sheet_refusal true s
    ≡ cond (not (sheet_fits s)) 3
    (cond (ltb last_hats (hats_of s) || not (elements_fit s (count_of s) 0)) 4
    (cond (occurs_twice s (sheet_opening + name_offset) element_size (count_of s) 0) 5 0))
unfolding sheet_refusal
archived-order s = refl

-- ---- the refusal's number, by its tests

-- few: fewer than four pads stand
abbrev pub number_by : Bool → Bool → Bool → Bool → Bool → Bool → ℕ
number_by archived few fits breaks partial twice =
    first (unless_fits few 2) (cond (not fits) 3 (cond breaks 4 (cond (not archived && partial) 29 (cond twice 5 0))))

-- the archived call takes the sheet, or refuses it only for a name that stands twice
abbrev pub taken_but_names : ℕ → Bool
taken_but_names number = eqb number 0 || eqb number 5

pub tests-29 : (few fits breaks partial twice : Bool)
    → number_by false few fits breaks partial twice
    ≡ cond (partial && taken_but_names (number_by true few fits breaks partial twice)) 29 (number_by true few fits breaks partial twice)
tests-29 few fits breaks false twice = refl
tests-29 false fits breaks true twice = refl
tests-29 true false breaks true twice = refl
tests-29 true true true true twice = refl
tests-29 true true false true true = refl
tests-29 true true false true false = refl

never-29 : (few fits breaks partial twice : Bool) → number_by true few fits breaks partial twice ≡ 29 → ⊥
never-29 false fits breaks partial twice e = omega arith
never-29 true false breaks partial twice e = omega arith
never-29 true true true partial twice e = omega arith
never-29 true true false partial true e = omega arith
never-29 true true false partial false e = omega arith

pub archived-not-29 : (pads : ℕ) (s : List ℕ) → register_refusal true pads s ≡ 29 → ⊥
unfolding register_refusal sheet_refusal
archived-not-29 pads s e =
    never-29 (ltb pads pad_limit) (sheet_fits s) (ltb last_hats (hats_of s) || not (elements_fit s (count_of s) 0)) (partial_of (hats_of s))
    (occurs_twice s (sheet_opening + name_offset) element_size (count_of s) 0) e

-- ---- what a number answers, and an answer's number

answer-number : (number : ℕ) (h : Hub) (s : List ℕ) → (register_says (register_by number h s).answer).refusal ≡ number
answer-number zero h s = refl
answer-number (suc number) h s = refl

module _ (archived : Bool) (h : Hub) (s : List ℕ) where
  pub number_is : (a : Result ℕ Refusal) → (register_as archived h s).answer ≡ a → register_refusal archived h.pads s ≡ (register_says a).refusal
  unfolding register_as
  number_is a e = sym (answer-number (register_refusal archived h.pads s) h s) ∙ ap (λ (b : Result ℕ Refusal). (register_says b).refusal) e

  pub answers : (number : ℕ) → register_refusal archived h.pads s ≡ number → (register_as archived h s).answer ≡ (register_by number h s).answer
  unfolding register_as
  answers number e = ap (λ (n : ℕ). (register_by n h s).answer) e

  -- any refusal leaves the hub as it was
  pub refused-leaves : (number : ℕ) → (register_as archived h s).answer ≡ Err (numbered number) → (register_as archived h s).hub ≡ h
  unfolding register_as
  refused-leaves number e = by (register_refusal archived h.pads s) e
    where
      by : (n : ℕ) → (register_by n h s).answer ≡ Err (numbered number) → (register_by n h s).hub ≡ h
      by zero e = absurd (true≢false (ap is_ok e))
      by (suc n) e = refl

module _ (h : Hub) (s : List ℕ) where
  -- the archived call never answers 29
  pub archived-takes-partial : (register_as true h s).answer ≡ Err (numbered 29) → ⊥
  archived-takes-partial e = archived-not-29 h.pads s (number_is true h s (Err (numbered 29)) e)
