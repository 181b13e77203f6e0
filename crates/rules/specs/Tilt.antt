-- 02's W-205: the pump's report, which of three the deadzone calculation was for the call's last axis event that met a threshold, or none. Definitions only.
-- It goes along the run of `Pump.antt`, which knows nothing of it: events and state are that run's.
use Rattle.std.specs.Prelude.{ℕ, zero, suc, Bool, cond, List, length, Float}
use Rattle.numbers.specs.Constants.{zero32}
use Rattle.numbers.specs.Tilt.{tilt_of}
use Rattle.numbers.specs.declared.Tilt.{Tilt}
use Rattle.numbers.specs.declared.Tilt.TheVariants.{Unmet, Inside, Between, Full}
use Rattle.rules.specs.declared.Hub.{Hub}
use Rattle.rules.specs.declared.Event.{Event}
use Rattle.rules.specs.declared.EventType.{EventType}
use Rattle.rules.specs.declared.EventType.TheVariants.{Pressed, Released, Repeated, Changed, Axis, Connected, Disconnected, Dropped}
use Rattle.rules.specs.declared.View.{View}
use Rattle.rules.specs.declared.NextRecord.{NextRecord}
use Rattle.rules.specs.Refusals.{pump_refusal}
use Rattle.rules.specs.Filters.{dpad_of, jittered_of}
use Rattle.rules.specs.Hub.{view_of}
use Rattle.rules.specs.Step.{next_record_of, marked_of, taken_of}
use Rattle.rules.specs.Pump.{Progress, Verdict, going, stopping, refusing, verdict_of, stepped, start_of}

-- ---- what an event meets

-- the calculation that `shrunk` makes: the partner read from the state, 0.0 beside an axis that has none
unfoldable pub tilted : View → Float → Tilt
unfolding tilt_of
tilted v x = tilt_of x (cond v.partner.stands v.partner.value zero32) v.threshold

-- an axis event of an axis element meets its threshold; a trigger's value does too, but is no axis event
abbrev pub tilt_type : EventType → View → Tilt
tilt_type (Axis n c x) v = cond v.dead (tilted v x) Unmet
tilt_type (Changed n c x) v = Unmet
tilt_type (Pressed n c) v = Unmet
tilt_type (Released n c) v = Unmet
tilt_type (Repeated n c) v = Unmet
tilt_type Connected v = Unmet
tilt_type Disconnected v = Unmet
tilt_type Dropped v = Unmet

-- at the deadzone
unfoldable pub zone_met : View → Event → Tilt
unfolding tilted
zone_met v e = tilt_type e.event v

-- what dpad converts or jitter drops is no axis event any more, and with the filters off none is met
unfoldable pub met_of : Bool → View → Event → Tilt
unfolding zone_met dpad_of jittered_of
met_of on v e = cond on (zone_met v (jittered_of v (dpad_of v e).event)) Unmet

unfoldable pub met_in : Hub → Event → Tilt
unfolding met_of view_of
met_in h e = met_of h.filters (view_of h e) e

-- what a step meets: its event counts whether the deadzone then drops it or not
unfoldable pub step_met : Hub → NextRecord → Tilt
unfolding met_in marked_of taken_of
step_met h l = met_in (marked_of h l.raw) (taken_of h l).event

-- ---- "its call's last"

abbrev pub latest : Tilt → Tilt → Tilt
latest Unmet before = before
latest Inside before = Inside
latest Between before = Between
latest Full before = Full

unfoldable pub noted : List ℕ → Progress → Tilt → Tilt
unfolding step_met next_record_of
noted s p before = latest (step_met p.hub (next_record_of p.hub.waiting s p.at)) before

-- along `run_of`, step by step
unfoldable pub tilt_run : ℕ → Verdict → List ℕ → Progress → Tilt → Tilt
unfolding verdict_of stepped noted
tilt_run zero v s p before = before
tilt_run (suc left) going s p before = tilt_run left (verdict_of left s (stepped s p)) s (stepped s p) (noted s p before)
tilt_run (suc left) (stopping why) s p before = before
tilt_run (suc left) (refusing number) s p before = before

-- each call begins with none; a call that is refused as a whole has none
abbrev pub pump_tilt_by : ℕ → Hub → List ℕ → ℕ → List ℕ → ℕ → Tilt
pump_tilt_by zero h s place out allowance = tilt_run allowance (verdict_of allowance s (start_of h place out)) s (start_of h place out) Unmet
pump_tilt_by (suc number) h s place out allowance = Unmet

unfoldable pub pump_tilt : Hub → List ℕ → ℕ → List ℕ → ℕ → Tilt
unfolding tilt_run verdict_of pump_refusal
pump_tilt h s place out allowance = pump_tilt_by (pump_refusal (length s) (length out) place) h s place out allowance
