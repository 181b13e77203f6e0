-- dpad queues three events at most: a law of the definition, so that what a function is gives how many it queues.
use Rattle.std.specs.Prelude.{◌≡◌, Bool, true, false, cond, ◌&&◌, ℕ, ◌≤◌, Float, length}
use Rattle.std.specs.Float.Ieee.{eq}
use Rattle.std.proofs.Common.{arith}
use Rattle.numbers.specs.Constants.{one32, minus_one32}
use Rattle.rules.specs.Names.{is_hat}
use Rattle.rules.specs.declared.Event.{Event}
use Rattle.rules.specs.declared.EventType.{EventType}
use Rattle.rules.specs.declared.EventType.TheVariants.{Pressed, Released, Repeated, Changed, Axis, Connected, Disconnected, Dropped}
use Rattle.rules.specs.declared.View.{View}
use Rattle.rules.specs.Events.{WithQueued, alone}
use Rattle.rules.specs.Filters.{Direction, hat_by, hat_gives, dpad_type, dpad_of}
use Rattle.filters.specs.declared.dpad.Converted.{Converted}
use Rattle.filters.specs.Converted.{ConvertedIs, counted, plus, minus}

hat-few : (a b p q : Bool) (e : Event) (i j : Direction) → length (hat_by a b p q e i j).queued ≤ 3
unfolding hat_by
hat-few true b p false e i j = omega arith
hat-few true b p true e i j = omega arith
hat-few false true false q e i j = omega arith
hat-few false true true q e i j = omega arith
hat-few false false false false e i j = omega arith
hat-few false false true false e i j = omega arith
hat-few false false false true e i j = omega arith
hat-few false false true true e i j = omega arith

gives-few : (v : View) (e : Event) (n : ℕ) (x : Float) → length (hat_gives v e n x).queued ≤ 3
unfolding hat_gives
gives-few v e n x = hat-few (eq x one32) (eq x minus_one32) v.positive v.negative e (plus n) (minus n)

either-few : (on : Bool) (g h : WithQueued) → length g.queued ≤ 3 → length h.queued ≤ 3 → length (cond on g h).queued ≤ 3
either-few true g h few few' = few
either-few false g h few few' = few'

type-few : (t : EventType) (v : View) (e : Event) → length (dpad_type t v e).queued ≤ 3
type-few (Axis n c x) v e = either-few (v.converts && is_hat n) (hat_gives v e n x) (alone e) (gives-few v e n x) (omega arith)
type-few (Pressed n c) v e = omega arith
type-few (Released n c) v e = omega arith
type-few (Repeated n c) v e = omega arith
type-few (Changed n c x) v e = omega arith
type-few Connected v e = omega arith
type-few Disconnected v e = omega arith
type-few Dropped v e = omega arith

pub dpad-few : (v : View) (e : Event) → length (dpad_of v e).queued ≤ 3
unfolding dpad_of
dpad-few v e = type-few e.event v e

pub converted : {v : View} {e : Event} {r : Converted} → r ≡ counted (dpad_of v e) → ConvertedIs v e r
converted {v} {e} is = record { is = is; small = rw is (dpad-few v e) }
