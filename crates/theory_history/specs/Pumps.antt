-- What is said of a pump and its batch: which records it took, and that each hands out at most four events (`proofs/Pumps`: `pump-took`, `pump-counts`, `four-each`).
use Rattle.std.specs.Prelude.{ℕ, zero, suc, ◌+◌, ◌-◌, ◌*◌, ◌≤◌, List, ◌∷◌, ◌≡◌}
use Rattle.std.proofs.Common.{ap, ◌∙◌, arith}
use Rattle.rules.specs.declared.PumpAnswer.{PumpAnswer}
use Rattle.rules.specs.declared.RawRecord.{RawRecord}
use Rattle.rules.specs.Forms.{record_fields, record_size}
use Rattle.rules.specs.Pump.{Progress}
use Rattle.theory_calls.specs.Machines.{place_said, events_said, steps_said}
use Rattle.theory_history.specs.Rule.{records_from}
use Rattle.theory_history.specs.Played.{Played}
use Rattle.theory_history.specs.Lemmas.Handed.{Still}

-- ---- a pump

-- "at most four events"
abbrev pub most_handed : ℕ
most_handed = 4

-- where a pump stands that began at a place of a batch, after the records rs and where b events could be handed out: how many records it took, which, and
-- what can be handed out now
pub record Took (s : List ℕ) (from : ℕ) (rs : List RawRecord) (b : ℕ) (p : Progress) : Type 0 where
  pub count : ℕ
  pub place : p.at ≡ from + record_size * count
  pub played : Played p.hub (records_from count s from rs)
  pub bound : ℕ
  pub tail : Still p.hub bound
  pub events : p.events + bound ≤ b + most_handed * count
  pub steps : p.steps + bound ≤ b + most_handed * count

pub one_more : (n : ℕ) (s : List ℕ) (at : ℕ) (rs : List RawRecord) → records_from (suc n) s at rs ≡ record_fields s (at + record_size * n) ∷ records_from n s at rs
unfolding records_from
one_more zero s at rs =
    let a : at ≡ at + record_size * 0 = omega arith in
    ap (λ (k : ℕ). record_fields s k ∷ rs) a
one_more (suc n) s at rs =
    let a : at + record_size + record_size * n ≡ at + record_size * suc n = omega arith in
    one_more n s (at + record_size) (record_fields s at ∷ rs) ∙ ap (λ (k : ℕ). record_fields s k ∷ records_from (suc n) s at rs) a

-- for each record's 21 bytes at most four events and four steps, wherever the pump stopped
pub record FourEach (place : ℕ) (a : PumpAnswer) : Type 0 where
  pub events : record_size * events_said a ≤ most_handed * (place_said a - place)
  pub steps : record_size * steps_said a ≤ most_handed * (place_said a - place)
