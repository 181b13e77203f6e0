-- What an answer tells of the number that it is judged by: `Ok` that there is no refusal, `Err` which. By the number's two cases.
use Rattle.std.specs.Prelude.{ℕ, zero, suc, ◌≡◌, refl, Result, Ok, Err}
use Rattle.std.proofs.Common.{sym, ◌∙◌, ap}
use Rattle.rules.specs.declared.Refusal.{Refusal}
use Rattle.rules.specs.Refusals.{numbered, judged}

-- the number that an answer tells, 0 where the call is served
abbrev told : Result (Unit {0}) Refusal → ℕ
told (Ok _) = 0
told (Err refusal) = refusal.number

number-told : (number : ℕ) → told (judged number) ≡ number
number-told zero = refl
number-told (suc number) = refl

pub served : (number : ℕ) → Ok tt ≡ judged number → number ≡ 0
served number e = sym (ap told e ∙ number-told number)

-- a call by its refusal's number, which does the same with each that there is
module _ {A : Type 0} (call : ℕ → A) (refused : Refusal → A) (stops : (n : ℕ) → refused (numbered (suc n)) ≡ call (suc n)) where
  abbrev by : Result (Unit {0}) Refusal → A
  by (Ok _) = call 0
  by (Err refusal) = refused refusal

  by-number : (number : ℕ) → by (judged number) ≡ call number
  by-number zero = refl
  by-number (suc number) = stops number

  pub stopped : (number : ℕ) {refusal : Refusal} → Err refusal ≡ judged number → refused refusal ≡ call number
  stopped number e = ap by e ∙ by-number number
