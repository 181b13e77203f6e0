-- What the filters queue behind an event weighs at most what the event weighed, and what a step queues at most what was brought. By the event's cases.
use Rattle.std.specs.Prelude.{ℕ, ◌+◌, ◌≤◌, Bool, ◌&&◌, List, ◌++◌, ◌≡◌, refl, Float}
use Rattle.std.proofs.Math.Bool.{true, false, cond}
use Rattle.std.specs.Float.Ieee.{eq}
use native.Mathlib.Omega.{arith}
use Rattle.numbers.specs.Constants.{zero32, one32, minus_one32}
use Rattle.numbers.specs.Jitter.{jitter_of}
use Rattle.numbers.specs.Deadzone.{deadzone_of}
use Rattle.rules.specs.declared.Event.{Event}
use Rattle.rules.specs.declared.EventType.{EventType}
use Rattle.rules.specs.declared.EventType.TheVariants.{Pressed, Released, Repeated, Changed, Axis, Connected, Disconnected, Dropped}
use Rattle.rules.specs.declared.View.{View}
use Rattle.rules.specs.declared.Dispatched.{Dispatched}
use Rattle.rules.specs.Names.{is_hat, partner_of, positive_name, negative_name, positive_code, negative_code}
use Rattle.rules.specs.Events.{WithQueued, event_if, alone, dropped}
use Rattle.rules.specs.Filters.{Direction, hat_by, hat_gives, dpad_type, dpad_of, jittered_of, deadzoned_of, clears_partner, stick_zoned, button_zoned, shrunk, joined, filtered_of}
use Rattle.rules.specs.Step.{pushes_of}
use Rattle.theory_calls.specs.Weight.{hat_weight, weight_type, weight_of, weigh, partner-hat, brought}

-- what waits behind an event once the filters that follow the dpad are through
abbrev behind : View → WithQueued → List Event
behind v g = (joined g (deadzoned_of v (jittered_of v g.event))).gives.queued

-- what the dpad makes of a hat's axis event weighs at most 3, and the other filters add nothing
hat-light : (o m p q : Bool) (v : View) (e : Event) (plus minus : Direction) → weigh (behind v (hat_by o m p q e plus minus)) ≤ 3
unfolding hat_by joined deadzoned_of jittered_of weigh weight_of
hat-light true m p false v e plus minus = omega arith
hat-light true m p true v e plus minus = omega arith
hat-light false true false q v e plus minus = omega arith
hat-light false true true q v e plus minus = omega arith
hat-light false false false false v e plus minus = omega arith
hat-light false false true false v e plus minus = omega arith
hat-light false false false true v e plus minus = omega arith
hat-light false false true true v e plus minus = omega arith

is-hat : (converts hat : Bool) → (converts && hat) ≡ true → hat ≡ true
is-hat true hat e = e
is-hat false hat e = let z : ◌≡◌ {A = ℕ} 0 1 = cc in absurd (omega arith)

module _ (v : View) (pad time n c : ℕ) (x : Float) where
  abbrev hasaxis : Event
  hasaxis = record { pad = pad; time = time; event = Axis n c x }

  -- an axis event that the dpad leaves alone: at most the clearing event, which weighs as much
  stick-light : weigh (behind v (alone hasaxis)) ≤ cond (is_hat n) hat_weight 1
  unfolding joined deadzoned_of jittered_of stick_zoned weigh weight_of
  stick-light = by-jitter (v.stored && jitter_of x v.stick)
    where
      by-clears : (clears : Bool)
          → weigh (event_if clears (record { pad = pad; time = time; event = Axis (partner_of n) v.partner.code zero32 }))
          ≤ cond (is_hat n) hat_weight 1
      by-clears true = rw (partner-hat n) (omega arith)
      by-clears false = omega arith

      by-dead : (dead : Bool)
          → weigh (joined (alone hasaxis) (cond dead (stick_zoned v hasaxis n c (shrunk v x)) (record { event = hasaxis; clears = false; clearing = hasaxis; flags = v.flags }))).gives.queued
          ≤ cond (is_hat n) hat_weight 1
      by-dead true = by-clears (clears_partner v (shrunk v x))
      by-dead false = omega arith

      by-jitter : (jitters : Bool) → weigh (joined (alone hasaxis) (deadzoned_of v (cond jitters (dropped hasaxis) hasaxis))).gives.queued ≤ cond (is_hat n) hat_weight 1
      by-jitter true = omega arith
      by-jitter false = by-dead v.dead

  axis-light : (hat : Bool) → (v.converts && is_hat n) ≡ hat → weigh (behind v (cond hat (hat_gives v hasaxis n x) (alone hasaxis))) ≤ cond (is_hat n) hat_weight 1
  unfolding hat_gives
  axis-light true e =
      let few = hat-light (eq x one32) (eq x minus_one32) v.positive v.negative v hasaxis (record { name = positive_name n; code = positive_code n }) (record { name = negative_name n; code = negative_code n }) in
      rw (is-hat v.converts (is_hat n) e) (omega arith)
  axis-light false e = stick-light

-- a button's value: the deadzone has nothing to clear
value-light : (v : View) (pad time n c : ℕ) (x : Float) → weigh (behind v (alone (record { pad = pad; time = time; event = Changed n c x }))) ≤ 1
unfolding joined deadzoned_of jittered_of button_zoned weigh
value-light v pad time n c x = by v.dead
  where
    e : Event
    e = record { pad = pad; time = time; event = Changed n c x }

    by : (dead : Bool)
        → weigh (joined (alone e) (cond dead (button_zoned v e n c (deadzone_of x zero32 v.threshold).x) (record { event = e; clears = false; clearing = e; flags = v.flags }))).gives.queued
        ≤ 1
    by true = omega arith
    by false = omega arith

type-light : (v : View) (pad time : ℕ) (t : EventType) → weigh (behind v (dpad_type t v (record { pad = pad; time = time; event = t }))) ≤ weight_type t
unfolding joined deadzoned_of jittered_of weigh
type-light v pad time (Axis n c x) = axis-light v pad time n c x (v.converts && is_hat n) refl
type-light v pad time (Changed n c x) = value-light v pad time n c x
type-light v pad time (Pressed n c) = omega arith
type-light v pad time (Released n c) = omega arith
type-light v pad time (Repeated n c) = omega arith
type-light v pad time Connected = omega arith
type-light v pad time Disconnected = omega arith
type-light v pad time Dropped = omega arith

-- what the filters queue weighs at most what the event weighed
pub filters-light : (on : Bool) (v : View) (e : Event) → weigh (filtered_of on v e).gives.queued ≤ weight_of e
unfolding filtered_of dpad_of weight_of
filters-light true v e = type-light v e.pad e.time e.event
filters-light false v e = unfold weigh in omega arith

-- what a step queues weighs at most what was brought
pub pushes-light : (d : Dispatched) (on : Bool) (v : View) → weigh (pushes_of d (filtered_of on v d.event).gives) ≤ brought d
unfolding pushes_of brought
pushes-light d on v =
    by d.follows
  where
    by : (follows : Bool)
        → weigh (event_if follows d.next ++ (filtered_of on v d.event).gives.queued)
        ≤ weight_of d.event + cond follows (weight_of d.next) 0
    by true = unfold weigh in omega (arith, filters-light on v d.event)
    by false = omega (arith, filters-light on v d.event)
