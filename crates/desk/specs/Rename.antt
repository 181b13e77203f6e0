-- `rename` on a hub that is lent: the call by its refusal, and the law book's renamed hub out of what its parts leave.
use Rattle.std.specs.Prelude.{ℕ, zero, suc, ◌*◌, ◌≤◌, ◌<◌, ◌≡◌, refl, Bool, List, Err, Ok}
use Rattle.std.proofs.Common.{arith}
use Rattle.std.proofs.Math.Path.{ap}
use Rattle.rules.specs.declared.Hub.{Hub}
use Rattle.rules.specs.declared.Answered.{Answered}
use Rattle.rules.specs.Names.{places_per_pad}
use Rattle.rules.specs.Places.{converts_of}
use Rattle.rules.specs.Calls.{renames_after, renames_of, renamed_at, rename_refusal, rename_by, rename_of}
use Rattle.hub.specs.declared.Head.{Head}
use Rattle.hub.specs.Lent.{Columns, listed, hub_of, answered}
use Rattle.desk.specs.Heads.{renamed_head}
use Rattle.rules.specs.declared.Refusal.{Refusal}
use Rattle.rules.specs.Refusals.{numbered, judged as answer_of}
use Rattle.refusals.specs.Judged.{served as no-refusal, stopped}

-- ---- by the refusal's number

refused :
    (number : ℕ) (h : Hub) (p : ℕ) (list : List ℕ) →
    0 < number →
    ◌≡◌ {A = Answered} (record { hub = h; answer = Err (numbered number) }) (rename_by number h p list)
refused zero h p list some = absurd (omega arith)
refused (suc number) h p list some = refl

served :
    (number : ℕ) (h : Hub) (p : ℕ) (list : List ℕ) →
    number ≤ 0 →
    ◌≡◌ {A = Answered} (record { hub = renamed_at h p (renames_of h p list); answer = Ok tt }) (rename_by number h p list)
served zero h p list none = refl
served (suc number) h p list none = absurd (omega arith)

-- ---- the call, on any hub, by how it is judged

module _ (h : Hub) (p : ℕ) (list : List ℕ) {number : ℕ} (e : number ≡ rename_refusal h p list) where
  judged : rename_by number h p list ≡ rename_of h p list
  unfolding rename_of
  judged = ap (λ (n : ℕ). rename_by n h p list) e

module _ (h : Hub) (p : ℕ) (list : List ℕ) where
  pub rename-refused : {refusal : Refusal} → Err refusal ≡ answer_of (rename_refusal h p list) → ◌≡◌ {A = Answered} (record { hub = h; answer = Err refusal }) (rename_of h p list)
  unfolding rename_of
  rename-refused e =
      stopped (λ (n : ℕ). rename_by n h p list) (λ (r : Refusal). record { hub = h; answer = Err r }) (λ (n : ℕ). refl) (rename_refusal h p list) e

  rename-served :
      {g : Hub} →
      Ok tt ≡ answer_of (rename_refusal h p list) →
      g ≡ renamed_at h p (renames_of h p list) →
      ◌≡◌ {A = Answered} (record { hub = g; answer = Ok tt }) (rename_of h p list)
  unfolding rename_of
  rename-served e renamed = rw (renamed, no-refusal (rename_refusal h p list) e)

-- ---- the call where nothing refuses it, whatever stands in the arrays that are not lent; primes mark what it leaves

pub rename-lent :
    (d : Head) (p : ℕ) (list codes kinds names renames : List ℕ) (t : Columns) {renames' : List ℕ} {converts : Bool}
    {d' : Head} →
    Ok tt ≡ answer_of (rename_refusal (hub_of d (listed codes kinds names renames) t) p list) →
    renames' ≡ renames_after renames kinds list places_per_pad (places_per_pad * p) 0 →
    converts ≡ converts_of 0 codes renames' p →
    d' ≡ renamed_head d p converts →
    answered d' (listed codes kinds names renames') t (Ok tt) ≡ rename_of (hub_of d (listed codes kinds names renames) t) p list
unfolding renames_of renamed_at renamed_head
rename-lent d p list codes kinds names renames t e er ec ed =
    rename-served (hub_of d (listed codes kinds names renames) t) p list e (rw (ed, ec, er))
