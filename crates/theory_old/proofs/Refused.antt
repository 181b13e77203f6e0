-- W-212's refusal, "29 partial hats, after 4 and before 5": exactly when `register` answers it, and that the two calls are one for whole hats. By what the five tests
-- come to (`tests-29` of `specs/Refused.antt`).
use Prim.Native.Nat.{ℕ, ◌+◌}
use Rattle.std.specs.Prelude.{Bool, false, not, ◌&&◌, ◌||◌, List, ◌⊎◌, ◌≡◌, eqb, ltb, Err, Ok}
use Rattle.std.proofs.Math.Bool.{true, cond}
use Rattle.std.proofs.Common.{inl, inr, ⊎_elim, ◌∙◌, arith, eqb-true}
use Rattle.std.proofs.Math.Path.{refl, sym, ap}
use Rattle.rules.specs.declared.Hub.{Hub}
use Rattle.rules.specs.Names.{pad_limit}
use Rattle.rules.specs.Sheets.{sheet_opening, element_size, name_offset, last_hats, hats_of, count_of, sheet_fits, elements_fit, occurs_twice, partial_of, sheet_refusal}
use Rattle.rules.specs.Calls.{register_refusal, register_by, register_as}
use Rattle.rules.specs.Refusals.{numbered}
use Rattle.theory_old.specs.Refused.{taken_but_names, tests-29, archived-not-29, number_is, answers}

-- the plain call's refusal: 29 where the hats are partial and the archived call's is none or 5, else the archived call's
pub register-refusal : (pads : ℕ) (s : List ℕ)
    → register_refusal false pads s
    ≡ cond (partial_of (hats_of s) && taken_but_names (register_refusal true pads s)) 29 (register_refusal true pads s)
unfolding register_refusal sheet_refusal
register-refusal pads s =
    tests-29 (ltb pads pad_limit) (sheet_fits s) (ltb last_hats (hats_of s) || not (elements_fit s (count_of s) 0)) (partial_of (hats_of s))
    (occurs_twice s (sheet_opening + name_offset) element_size (count_of s) 0)

-- where the plain call's number is 29 the hats are partial and the archived call's is 0 or 5
apart-29 : (partial none names : Bool) (number : ℕ) → eqb number 0 ≡ none → eqb number 5 ≡ names → cond (partial && (none || names)) 29 number ≡ 29
    → (number ≡ 29 → ⊥) → (partial ≡ true) × ((number ≡ 0) ⊎ (number ≡ 5))
apart-29 true true names number en em e never = (refl, inl (eqb-true number 0 en))
apart-29 true false true number en em e never = (refl, inr (eqb-true number 5 em))
apart-29 true false false number en em e never = absurd (never e)
apart-29 false none names number en em e never = absurd (never e)

module _ (h : Hub) (s : List ℕ) where
  -- where `register` answers 29 the hats are partial, and the archived call answers a pad or 5
  pub partial-refused : (register_as false h s).answer ≡ Err (numbered 29)
      → (partial_of (hats_of s) ≡ true) × (((register_as true h s).answer ≡ Ok h.pads) ⊎ ((register_as true h s).answer ≡ Err (numbered 5)))
  partial-refused e =
      let number = register_refusal true h.pads s in
      let told = sym (register-refusal h.pads s) ∙ number_is false h s (Err (numbered 29)) e in
      let parts = apart-29 (partial_of (hats_of s)) (eqb number 0) (eqb number 5) number refl refl told (archived-not-29 h.pads s) in
      (parts.0, ⊎_elim (λ none. inl (answers true h s 0 none)) (λ names. inr (answers true h s 5 names)) parts.1)

  -- and where they are and it does, `register` answers 29
  pub partial-refuses : partial_of (hats_of s) ≡ true → ((register_as true h s).answer ≡ Ok h.pads) ⊎ ((register_as true h s).answer ≡ Err (numbered 5))
      → (register_as false h s).answer ≡ Err (numbered 29)
  partial-refuses partial taken =
      answers false h s 29
      (register-refusal h.pads s
      ∙ ⊎_elim (λ pad. by 0 (number_is true h s (Ok h.pads) pad) refl) (λ names. by 5 (number_is true h s (Err (numbered 5)) names) refl) taken)
    where
      by : (n : ℕ) → register_refusal true h.pads s ≡ n → taken_but_names n ≡ true
          → cond (partial_of (hats_of s) && taken_but_names (register_refusal true h.pads s)) 29 (register_refusal true h.pads s) ≡ 29
      by n e takes = rw (partial, e, takes)

  -- "which takes 0 and 15 too": where the hats are not partial the two calls do and answer the same
  pub whole-alike : partial_of (hats_of s) ≡ false → register_as false h s ≡ register_as true h s
  unfolding register_as
  whole-alike whole =
      ap (λ (n : ℕ). register_by n h s)
      (register-refusal h.pads s
      ∙ ap (λ (partial : Bool). cond (partial && taken_but_names (register_refusal true h.pads s)) 29 (register_refusal true h.pads s)) whole)

-- a sheet that either call takes is partial only where the archived one took it
pub taken-partial : (archived : Bool) (pads : ℕ) (s : List ℕ) → register_refusal archived pads s ≡ 0 → partial_of (hats_of s) ≡ archived && partial_of (hats_of s)
taken-partial true pads s e = refl
taken-partial false pads s e = by (partial_of (hats_of s)) (register_refusal true pads s) (sym (register-refusal pads s) ∙ e)
  where
    by : (partial : Bool) (number : ℕ) → cond (partial && taken_but_names number) 29 number ≡ 0 → partial ≡ false
    by false number e = refl
    by true number e = more (taken_but_names number) refl e
      where
        more : (taken : Bool) → taken_but_names number ≡ taken → cond taken 29 number ≡ 0 → true ≡ false
        more true et e = absurd (omega arith)
        more false et e = sym (sym et ∙ ap taken_but_names e)
