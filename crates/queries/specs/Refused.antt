-- A number other than 0 is a refusal's, whatever was asked for. By the number's two cases. And the test for a name, as the law book writes it.
use Rattle.std.specs.Prelude.{ℕ, zero, suc, ◌≡◌, refl, Bool, true, false, cond, not, Err}
use Rattle.rules.specs.Queries.{found_by}
use Rattle.rules.specs.Refusals.{numbered, answer_by}

pub answer-refused : {A : Type 0} (n : ℕ) (x : A) → (n ≡ 0 → ⊥) → Err (numbered n) ≡ answer_by n x
answer-refused zero x some = absurd (some refl)
answer-refused (suc n) x some = refl

pub found-refused : {A : Type 0} (n : ℕ) (here : Bool) (x : A) → (n ≡ 0 → ⊥) → Err (numbered n) ≡ found_by n here x
found-refused zero here x some = absurd (some refl)
found-refused (suc n) here x some = refl

pub unless : (b : Bool) → not b ≡ cond b false true
unless true = refl
unless false = refl
