-- The filters in their order, dpad, jitter, deadzone, on what each sees of the hub: gilrs's `axis_dpad_to_button`, `Jitter` and `deadzone`.
-- Definitions only.
use Rattle.std.specs.Prelude.{ℕ, Bool, true, false, cond, not, ◌&&◌, ◌++◌, Float}
use Rattle.std.specs.Float.Ieee.{eq, ne}
use Rattle.numbers.specs.Constants.{zero32, one32, minus_one32}
use Rattle.numbers.specs.Deadzone.{deadzone_of}
use Rattle.numbers.specs.Jitter.{jitter_of}
use Rattle.numbers.specs.declared.Pair.{Pair}
use Rattle.rules.specs.declared.Event.{Event}
use Rattle.rules.specs.declared.EventType.{EventType}
use Rattle.rules.specs.declared.EventType.TheVariants.{Pressed, Released, Repeated, Changed, Axis, Connected, Disconnected, Dropped}
use Rattle.rules.specs.declared.View.{View}
use Rattle.rules.specs.declared.Flags.{Flags}
use Rattle.rules.specs.declared.Zoned.{Zoned}
use Rattle.rules.specs.Names.{is_hat, positive_name, negative_name, positive_code, negative_code, partner_of}
use Rattle.rules.specs.Events.{WithQueued, event_if, alone, followed, followed_by_three, with, dropped, is_dropped}

-- ---- dpad

-- a press, a release and the two values of a direction: name and code
pub record Direction : Type 0 where
  pub name : ℕ
  pub code : ℕ

abbrev pub presses : Direction → EventType
presses d = Pressed d.name d.code

abbrev pub releases : Direction → EventType
releases d = Released d.name d.code

abbrev pub reads : Direction → Float → EventType
reads d v = Changed d.name d.code v

-- "Only exactly 1.0 and -1.0 press." The four tests: the value is 1.0, it is -1.0, the positive direction is pressed, the negative one is.
-- An opposite that is still pressed is released before the new direction is pressed; in the middle both are released.
unfoldable pub hat_by : Bool → Bool → Bool → Bool → Event → Direction → Direction → WithQueued
hat_by true m p false e plus minus = followed (with e (presses plus)) (with e (reads plus one32))
hat_by true m p true e plus minus =
    followed_by_three (with e (releases minus)) (with e (reads plus one32)) (with e (presses plus)) (with e (reads minus zero32))
hat_by false true false q e plus minus = followed (with e (presses minus)) (with e (reads minus one32))
hat_by false true true q e plus minus =
    followed_by_three (with e (releases plus)) (with e (reads minus one32)) (with e (presses minus)) (with e (reads plus zero32))
hat_by false false false false e plus minus = alone (dropped e)
hat_by false false true false e plus minus = followed (with e (releases plus)) (with e (reads plus zero32))
hat_by false false false true e plus minus = followed (with e (releases minus)) (with e (reads minus zero32))
hat_by false false true true e plus minus =
    followed_by_three (with e (releases minus)) (with e (reads plus zero32)) (with e (releases plus)) (with e (reads minus zero32))

-- Right and Left for DPadX, Up and Down for DPadY
unfoldable pub hat_gives : View → Event → ℕ → Float → WithQueued
unfolding hat_by positive_name negative_name positive_code negative_code
hat_gives v e n x =
    hat_by (eq x one32) (eq x minus_one32) v.positive v.negative e (record { name = positive_name n; code = positive_code n })
    (record { name = negative_name n; code = negative_code n })

abbrev pub dpad_type : EventType → View → Event → WithQueued
dpad_type (Axis n c x) v e = cond (v.converts && is_hat n) (hat_gives v e n x) (alone e)
dpad_type (Pressed n c) v e = alone e
dpad_type (Released n c) v e = alone e
dpad_type (Repeated n c) v e = alone e
dpad_type (Changed n c x) v e = alone e
dpad_type Connected v e = alone e
dpad_type Disconnected v e = alone e
dpad_type Dropped v e = alone e

unfoldable pub dpad_of : View → Event → WithQueued
unfolding hat_gives is_hat
dpad_of v e = dpad_type e.event v e

-- ---- jitter: "An axis event, value not 0, closer than 0.01 to a stored axis value, is dropped"

abbrev pub jitter_type : EventType → View → Event → Event
jitter_type (Axis n c x) v e = cond (v.stored && jitter_of x v.stick) (dropped e) e
jitter_type (Pressed n c) v e = e
jitter_type (Released n c) v e = e
jitter_type (Repeated n c) v e = e
jitter_type (Changed n c x) v e = e
jitter_type Connected v e = e
jitter_type Disconnected v e = e
jitter_type Dropped v e = e

unfoldable pub jittered_of : View → Event → Event
unfolding jitter_of
jittered_of v e = jitter_type e.event v e

-- ---- deadzone

-- the filter passes an event as it is
abbrev pub passes : View → Event → Zoned
passes v e = record { event = e; clears = false; clearing = e; flags = v.flags }

-- "the partner read from the state"; an axis with no partner has 0.0 beside it
unfoldable pub shrunk : View → Float → Pair
unfolding deadzone_of
shrunk v x = deadzone_of x (cond v.partner.stands v.partner.value zero32) v.threshold

-- the partner is cleared: both fell into the dead zone, the partner had sent a value other than 0, and the state still has one
unfoldable pub clears_partner : View → Pair → Bool
clears_partner v pair =
    v.partner.stands && (eq pair.x zero32 && (eq pair.y zero32 && (v.flags.partner && ne v.partner.value zero32)))

-- dropped where the state has the value already
abbrev pub unless : Bool → Event → EventType → Event
unless true e t = dropped e
unless false e t = with e t

-- the axis's own flag says whether what was sent is 0; a partner that was cleared has its flag taken off
unfoldable pub flags_after : View → Pair → Flags
unfolding clears_partner
flags_after v pair =
    record {
      own = cond (eq v.own pair.x) v.flags.own (ne pair.x zero32);
      partner = v.flags.partner && not (clears_partner v pair);
    }

unfoldable pub stick_zoned : View → Event → ℕ → ℕ → Pair → Zoned
unfolding clears_partner flags_after partner_of
stick_zoned v e n c pair =
    record {
      event = unless (eq v.own pair.x) e (Axis n c pair.x);
      clears = clears_partner v pair;
      clearing = with e (Axis (partner_of n) v.partner.code zero32);
      flags = flags_after v pair;
    }

-- a button's value has no partner and no flag
unfoldable pub button_zoned : View → Event → ℕ → ℕ → Float → Zoned
button_zoned v e n c y = passes v (unless (eq v.own y) e (Changed n c y))

abbrev pub deadzone_type : EventType → View → Event → Zoned
deadzone_type (Axis n c x) v e = cond v.dead (stick_zoned v e n c (shrunk v x)) (passes v e)
deadzone_type (Changed n c x) v e = cond v.dead (button_zoned v e n c (deadzone_of x zero32 v.threshold).x) (passes v e)
deadzone_type (Pressed n c) v e = passes v e
deadzone_type (Released n c) v e = passes v e
deadzone_type (Repeated n c) v e = passes v e
deadzone_type Connected v e = passes v e
deadzone_type Disconnected v e = passes v e
deadzone_type Dropped v e = passes v e

unfoldable pub deadzoned_of : View → Event → Zoned
unfolding stick_zoned button_zoned shrunk deadzone_of
deadzoned_of v e = deadzone_type e.event v e

-- ---- "The event then passes the filters, if on, in the order dpad, jitter, deadzone"

-- what the filters make of an event: the event or Dropped, the events to queue, and the two flags after
pub record Filtered : Type 0 where
  pub gives : WithQueued
  pub flags : Flags

-- what dpad queued, then the clearing event
unfoldable pub joined : WithQueued → Zoned → Filtered
joined g z = record { gives = record { event = z.event; queued = g.queued ++ event_if z.clears z.clearing }; flags = z.flags }

-- with the filters off an event passes as it is
abbrev pub unfiltered : View → Event → Filtered
unfiltered v e = record { gives = alone e; flags = v.flags }

unfoldable pub filtered_of : Bool → View → Event → Filtered
unfolding dpad_of jittered_of deadzoned_of joined
filtered_of on v e = cond on (joined (dpad_of v e) (deadzoned_of v (jittered_of v (dpad_of v e).event))) (unfiltered v e)

-- "a dropped one is skipped (filters on)"
unfoldable pub kept_of : Bool → Event → Bool
unfolding is_dropped
kept_of on e = not (on && is_dropped e)
