-- The hubs that the public calls lead to, whatever they are given; what every step keeps, a pump keeps. By induction on the steps. ("The queue holds 64. It
-- never overflows", of each such hub: `proofs/Reach.antt`.)
use Prim.Native.Nat.{ℕ, zero, suc}
use Rattle.std.specs.Prelude.{Bool, List, Float, length}
use Rattle.rules.specs.declared.Hub.{Hub}
use Rattle.rules.specs.declared.NextRecord.{NextRecord}
use Rattle.rules.specs.Refusals.{pump_refusal}
use Rattle.rules.specs.Step.{next_record_of, step_hub}
use Rattle.rules.specs.Pump.{Progress, Verdict, going, stopping, refusing, stepped_by, stepped, verdict_of, run_of, start_of, pump_by, pump_of}
use Rattle.rules.specs.Calls.{new_of, register_as, rename_of, update_of, insert_of, inc_of, reset_of}

-- a hub that the public calls lead to; register and register_archived are one case, with the word that tells them apart, and a pump makes steps, whatever
-- record it looks at
pub data Reached : Hub → Type 0 where
  new : (pressed released : Float) (reversed filters updates : Bool) → Reached (new_of pressed released reversed filters updates).hub
  register : {h : Hub} (archived : Bool) (sheet : List ℕ) → Reached h → Reached (register_as archived h sheet).hub
  rename : {h : Hub} (pad : ℕ) (list : List ℕ) → Reached h → Reached (rename_of h pad list).hub
  step : {h : Hub} (l : NextRecord) → Reached h → Reached (step_hub h l)
  update : {h : Hub} (event : List ℕ) → Reached h → Reached (update_of h event).hub
  insert : {h : Hub} (event : List ℕ) → Reached h → Reached (insert_of h event).hub
  inc : {h : Hub} → Reached h → Reached (inc_of h)
  reset : {h : Hub} → Reached h → Reached (reset_of h)

-- what every step keeps, a pump keeps
module _ (P : Hub → Type 0) (keeps : (h : Hub) (l : NextRecord) → P h → P (step_hub h l)) where
  run-keeps : (left : ℕ) (v : Verdict) (s : List ℕ) (p : Progress) → P p.hub → P (run_of left v s p).pumped.hub
  unfolding run_of stepped stepped_by
  run-keeps zero going s p w = w
  run-keeps zero (stopping why) s p w = w
  run-keeps zero (refusing number) s p w = w
  run-keeps (suc left) going s p w =
      run-keeps left (verdict_of left s (stepped s p)) s (stepped s p) (keeps p.hub (next_record_of p.hub.waiting s p.at) w)
  run-keeps (suc left) (stopping why) s p w = w
  run-keeps (suc left) (refusing number) s p w = w

  pump-by-keeps : (number : ℕ) (h : Hub) (s : List ℕ) (place : ℕ) (out : List ℕ) (allowance : ℕ) → P h → P (pump_by number h s place out allowance).pumped.hub
  pump-by-keeps zero h s place out allowance w = run-keeps allowance (verdict_of allowance s (start_of h place out)) s (start_of h place out) w
  pump-by-keeps (suc number) h s place out allowance w = w

  pub pump-keeps : (h : Hub) (s : List ℕ) (place : ℕ) (out : List ℕ) (allowance : ℕ) → P h → P (pump_of h s place out allowance).pumped.hub
  unfolding pump_of
  pump-keeps h s place out allowance w = pump-by-keeps (pump_refusal (length s) (length out) place) h s place out allowance w

-- so it leaves a hub that steps reach
pub pump-reached : (h : Hub) (s : List ℕ) (place : ℕ) (out : List ℕ) (allowance : ℕ) → Reached h → Reached (pump_of h s place out allowance).pumped.hub
pump-reached h s place out allowance w = pump-keeps Reached (λ g l x. step l x) h s place out allowance w
