-- `new` on a hub that is lent: a fresh head and filled arrays are the law book's fresh hub, for each outcome of the call.
use Rattle.std.specs.Prelude.{ℕ, zero, suc, ◌≤◌, ◌<◌, ◌≡◌, refl, Bool, List, replicate, Float, Err, Ok}
use Rattle.std.proofs.Common.{arith}
use Rattle.std.proofs.Math.Bool.{false}
use Rattle.numbers.specs.Constants.{zero32, one32}
use Rattle.rules.specs.Names.{nowhere, no_name}
use Rattle.rules.specs.declared.Hub.{Hub}
use Rattle.rules.specs.declared.Answered.{Answered}
use Rattle.rules.specs.Refusals.{thresholds_refusal, numbered, judged}
use Rattle.rules.specs.Calls.{fresh_hub, idle_hub, new_by, new_of}
use Rattle.columns.specs.Blank.{Blank}
use Rattle.hub.specs.declared.Head.{Head}
use Rattle.hub.specs.Lent.{Listed, Columns, listed, columns, hub_of, answered}
use Rattle.hub.specs.Heads.{fresh_head}
use Rattle.rules.specs.declared.Refusal.{Refusal}
use Rattle.refusals.specs.Judged.{served as no-refusal, stopped}

-- ---- by the refusal's number

refused : (number : ℕ) (h : Hub) → 0 < number → ◌≡◌ {A = Answered} (record { hub = idle_hub; answer = Err (numbered number) }) (new_by number h)
refused zero h some = absurd (omega arith)
refused (suc number) h some = refl

served : (number : ℕ) (h : Hub) → number ≤ 0 → ◌≡◌ {A = Answered} (record { hub = h; answer = Ok tt }) (new_by number h)
served zero h none = refl
served (suc number) h none = absurd (omega arith)

-- ---- the arrays

abbrev pub fresh_listed : Listed
fresh_listed = listed (replicate nowhere 0) (replicate nowhere 0) (replicate nowhere no_name) (replicate nowhere no_name)

abbrev pub fresh_columns : List Float → List ℕ → List Bool → List ℕ → List ℕ → Columns
fresh_columns values times marks queuebytes queuecodes =
    columns (replicate nowhere false) (replicate nowhere false) values times marks queuebytes queuecodes

module _
    {values : List Float} {times : List ℕ} {marks : List Bool} {queuebytes queuecodes : List ℕ}
    (blank : Blank values times marks queuebytes queuecodes) where
  pub fresh-hub :
      (pressed released : Float) (reversed filters updates : Bool) →
      hub_of (fresh_head pressed released reversed filters updates) fresh_listed (fresh_columns values times marks queuebytes queuecodes)
      ≡ fresh_hub pressed released reversed filters updates
  unfolding fresh_head fresh_hub
  fresh-hub pressed released reversed filters updates = rw (blank.elements, blank.buttons, blank.axes, blank.slots)

  -- ---- the call: by how it is judged

  module _ (pressed released : Float) (reversed filters updates : Bool) {d : Head} where
    pub new-refused :
        {refusal : Refusal} →
        Err refusal ≡ judged (thresholds_refusal pressed released) →
        d ≡ fresh_head one32 zero32 false false false →
        answered d fresh_listed (fresh_columns values times marks queuebytes queuecodes) (Err refusal)
        ≡ new_of pressed released reversed filters updates
    unfolding new_of idle_hub
    new-refused e fresh =
        rw (fresh, fresh-hub one32 zero32 false false false)
        (stopped (λ (n : ℕ). new_by n (fresh_hub pressed released reversed filters updates))
        (λ (r : Refusal). record { hub = idle_hub; answer = Err r }) (λ (n : ℕ). refl) (thresholds_refusal pressed released) e)

    pub new-served :
        Ok tt ≡ judged (thresholds_refusal pressed released) →
        d ≡ fresh_head pressed released reversed filters updates →
        answered d fresh_listed (fresh_columns values times marks queuebytes queuecodes) (Ok tt) ≡ new_of pressed released reversed filters updates
    unfolding new_of
    new-served e fresh = rw (fresh, fresh-hub pressed released reversed filters updates, no-refusal _ e)
