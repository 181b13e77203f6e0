-- What an event meets at the deadzone (W-205), beside what the filter makes of it; and by what an event is, what it meets on its way through the three: no event
-- meets a threshold but an axis that is no hat of a converting pad, and that asks for no direction.
use Rattle.std.specs.Prelude.{ℕ, ◌≡◌, Bool, cond, ◌&&◌, Float}
use Rattle.std.proofs.Math.Path.{refl}
use Rattle.std.proofs.Common.{arith}
use Rattle.std.proofs.Math.Bool.{true, false}
use Rattle.std.specs.Float.Ieee.{eq}
use Rattle.numbers.specs.Constants.{zero32, one32, minus_one32}
use Rattle.numbers.specs.Tilt.{tilted_of}
use Rattle.numbers.specs.Jitter.{jitter_of}
use Rattle.numbers.specs.declared.Tilt.{Tilt}
use Rattle.numbers.specs.declared.Tilt.TheVariants.{Unmet}
use Rattle.rules.specs.declared.Event.{Event}
use Rattle.rules.specs.declared.EventType.{EventType}
use Rattle.rules.specs.declared.EventType.TheVariants.{Pressed, Released, Repeated, Changed, Axis, Connected, Disconnected, Dropped}
use Rattle.rules.specs.declared.View.{View}
use Rattle.rules.specs.declared.Zoned.{Zoned}
use Rattle.rules.specs.Names.{is_hat}
use Rattle.rules.specs.Events.{dropped}
use Rattle.rules.specs.Filters.{Direction, hat_by, hat_gives, dpad_of, jittered_of, shrunk, stick_zoned, deadzoned_of}
use Rattle.rules.specs.Tilt.{tilted, zone_met, met_of}
use Rattle.filters.specs.declared.Met.{Met}
use Rattle.filters.specs.Converted.{plus, minus}
use Rattle.filters.specs.Lanes.{axis_lane, value_lane, lane_type, lane_of, undirected, made}

-- ---- what the deadzone answers

abbrev pub without : Zoned → Met
without z = record { zoned = z; tilt = Unmet }

abbrev pub zone_meets : View → Event → Met
zone_meets v e = record { zoned = deadzoned_of v e; tilt = zone_met v e }

-- a stick's event, by the calculation's answer
pub stick-meets :
    (v : View) (e : Event) {n c : ℕ} {x : Float} →
    e.event ≡ Axis n c x →
    v.dead ≡ true →
    let f = tilted_of x (cond v.partner.stands v.partner.value zero32) v.threshold in
    record { zoned = stick_zoned v e n c f.pair; tilt = f.tilt } ≡ zone_meets v e
unfolding deadzoned_of zone_met tilted shrunk tilted_of
stick-meets v e axis dead = rw (axis, dead)

-- ---- by an event's kind

module _ (p k : ℕ) (v : View) where
  -- a hat's presses and releases are no axis events
  hat-meets :
      (a b positive negative : Bool) (e : Event) (i j : Direction) →
      zone_met v (jittered_of v (hat_by a b positive negative e i j).event) ≡ Unmet
  unfolding hat_by jittered_of zone_met
  hat-meets true b p false e i j = refl
  hat-meets true b p true e i j = refl
  hat-meets false true false q e i j = refl
  hat-meets false true true q e i j = refl
  hat-meets false false false false e i j = refl
  hat-meets false false true false e i j = refl
  hat-meets false false false true e i j = refl
  hat-meets false false true true e i j = refl

  hat-unmet : (n c : ℕ) (x : Float) → v.converts && is_hat n ≡ true → met_of true v (made p k (Axis n c x)) ≡ Unmet
  unfolding met_of dpad_of hat_gives
  hat-unmet n c x on =
      rw on (hat-meets (eq x one32) (eq x minus_one32) v.positive v.negative (made p k (Axis n c x)) (plus n) (minus n))

  axis-unmet :
      (n c : ℕ) (x : Float) (hat converts : Bool) →
      is_hat n ≡ hat →
      v.converts ≡ converts →
      (axis_lane hat converts ≡ 3 → ⊥) →
      met_of true v (made p k (Axis n c x)) ≡ Unmet
  axis-unmet n c x true true en ec other = hat-unmet n c x (rw (ec, en))
  axis-unmet n c x true false en ec other = absurd (other refl)
  axis-unmet n c x false converts en ec other = absurd (other refl)

  unmet-type : (t : EventType) → (lane_type t v.converts v.dead ≡ 3 → ⊥) → met_of true v (made p k t) ≡ Unmet
  unfolding met_of dpad_of jittered_of zone_met
  unmet-type (Axis n c x) other = axis-unmet n c x (is_hat n) v.converts refl refl other
  unmet-type (Changed n c x) other = refl
  unmet-type (Pressed n c) other = refl
  unmet-type (Released n c) other = refl
  unmet-type (Repeated n c) other = refl
  unmet-type Connected other = refl
  unmet-type Disconnected other = refl
  unmet-type Dropped other = refl

  -- ---- a stick asks for no direction

  stick_met : EventType → Tilt
  stick_met t = zone_met (undirected v) (jittered_of (undirected v) (made p k t))

  dropped-met :
      (n c : ℕ) (x : Float) (b : Bool) →
      let e = made p k (Axis n c x) in zone_met v (cond b (dropped e) e) ≡ zone_met (undirected v) (cond b (dropped e) e)
  unfolding zone_met tilted
  dropped-met n c x true = refl
  dropped-met n c x false = refl

  stick-passes : (n c : ℕ) (x : Float) → v.converts && is_hat n ≡ false → met_of true v (made p k (Axis n c x)) ≡ stick_met (Axis n c x)
  unfolding met_of dpad_of jittered_of stick_met
  stick-passes n c x off = rw off (dropped-met n c x (v.stored && jitter_of x v.stick))

  stick-axis :
      (n c : ℕ) (x : Float) (hat converts : Bool) →
      is_hat n ≡ hat →
      v.converts ≡ converts →
      axis_lane hat converts ≡ 3 →
      met_of true v (made p k (Axis n c x)) ≡ stick_met (Axis n c x)
  stick-axis n c x true true en ec h = absurd (omega arith)
  stick-axis n c x true false en ec h = stick-passes n c x (rw ec)
  stick-axis n c x false true en ec h = stick-passes n c x (rw (ec, en))
  stick-axis n c x false false en ec h = stick-passes n c x (rw ec)

  no_value : (n c : ℕ) (x : Float) (dead : Bool) → value_lane dead ≡ 3 → met_of true v (made p k (Changed n c x)) ≡ stick_met (Changed n c x)
  no_value n c x true h = absurd (omega arith)
  no_value n c x false h = absurd (omega arith)

  stick-type : (t : EventType) → lane_type t v.converts v.dead ≡ 3 → met_of true v (made p k t) ≡ stick_met t
  stick-type (Axis n c x) h = stick-axis n c x (is_hat n) v.converts refl refl h
  stick-type (Changed n c x) h = no_value n c x v.dead h
  stick-type (Pressed n c) h = absurd (omega arith)
  stick-type (Released n c) h = absurd (omega arith)
  stick-type (Repeated n c) h = absurd (omega arith)
  stick-type Connected h = absurd (omega arith)
  stick-type Disconnected h = absurd (omega arith)
  stick-type Dropped h = absurd (omega arith)

-- ---- for every event

-- outside a stick's lane no threshold is met
pub unmet-else : (on : Bool) (v : View) (e : Event) → (lane_of on v.converts v.dead e ≡ 3 → ⊥) → met_of on v e ≡ Unmet
unfolding lane_of met_of
unmet-else true v e other = unmet-type e.pad e.time v e.event other
unmet-else false v e other = refl

abbrev pub stick_met_of : View → Event → Tilt
stick_met_of v e = zone_met (undirected v) (jittered_of (undirected v) e)

pub met-stick : (on : Bool) (v : View) (e : Event) → lane_of on v.converts v.dead e ≡ 3 → met_of on v e ≡ stick_met_of v e
unfolding lane_of stick_met
met-stick true v e h = stick-type e.pad e.time v e.event h
met-stick false v e h = absurd (omega arith)
