-- What one pump call comes to: it writes no more events than the out buffer holds, makes no more steps than are allowed, keeps the buffer's length, and leaves
-- something undone only where the buffer is full or the allowance spent. By the steps of a run and how it ends.
use Rattle.std.specs.Prelude.{ℕ, suc, ◌+◌, ◌*◌, ◌≤◌, ◌<◌, ◌≡◌, List, ◌⊎◌, length}
use Rattle.std.proofs.Common.{inl, inr, arith}
use Rattle.rules.specs.declared.Hub.{Hub}
use Rattle.rules.specs.Forms.{event_size}
use Rattle.rules.specs.Pump.{Progress, Run, Verdict, going, stopping, refusing, stepped, stepped_by, ended_by, start_of, pump_of}
use Rattle.theory_calls.specs.Runs.{Goes, Stop, drains, fills, pauses, Stops, pump-ends}
use Rattle.theory_calls.specs.Room.{Stays, start-stays, step_stays}
use Rattle.padlog.specs.Log.{goes_on, tallied}

pub record Bounded (r : Run) (out : List ℕ) (allowed : ℕ) : Type 0 where
  pub held : event_size * (tallied r).events ≤ length out
  pub few : (tallied r).steps ≤ allowed
  pub long : length r.out ≡ length out
  pub undone : (tallied r).ends ≡ goes_on → (length out < event_size * (tallied r).events + event_size) ⊎ (allowed ≤ (tallied r).steps)

module _ (s : List ℕ) (place : ℕ) (out : List ℕ) (allowed : ℕ) where
  -- where a call stands
  record Within (left : ℕ) (p : Progress) : Type 0 where
    spent : p.steps + left ≡ allowed
    stays : Stays s place out p

  step-within : (left : ℕ) (p : Progress) → Goes (suc left) s p → Within (suc left) p → Within left (stepped s p)
  unfolding stepped stepped_by
  step-within left p goes w = record { spent = omega (arith, w.spent); stays = step_stays s place out left p goes w.stays }

  -- ---- how a call ends

  stop-bounded : (left : ℕ) (p : Progress) {why : ℕ} → Within left p → Stop left s p why → Bounded (ended_by (stopping why) p) out allowed
  stop-bounded left p w (drains none past) =
      record { held = w.stays.held; few = omega (arith, w.spent); long = w.stays.long; undone = λ e. absurd (omega arith) }
  stop-bounded left p w (fills short) =
      record { held = w.stays.held; few = omega (arith, w.spent); long = w.stays.long; undone = λ e. inl (omega (arith, w.stays.long)) }
  stop-bounded left p w (pauses none) =
      record { held = w.stays.held; few = omega (arith, w.spent); long = w.stays.long; undone = λ e. inr (omega (arith, w.spent)) }

  end-bounded : (v : Verdict) (left : ℕ) (p : Progress) → Within left p → Stops v left s p → Bounded (ended_by v p) out allowed
  end-bounded going left p w never = absurd never
  end-bounded (stopping why) left p w stop = stop-bounded left p w stop
  end-bounded (refusing number) left p w refused =
      record { held = w.stays.held; few = omega (arith, w.spent); long = w.stays.long; undone = λ e. absurd (omega arith) }

pub pump-bounded : (h : Hub) (s : List ℕ) (place : ℕ) (out : List ℕ) (allowance : ℕ) → Bounded (pump_of h s place out allowance) out allowance
pump-bounded h s place out allowance =
    let begins : Within s place out allowance allowance (start_of h place out) = record { spent = omega arith; stays = start-stays s place out h } in
    let e = pump-ends s (Within s place out allowance) (step-within s place out allowance) h place out allowance begins in
    rw e.ends (end-bounded s place out allowance e.verdict e.left e.stop e.holds e.stops)
