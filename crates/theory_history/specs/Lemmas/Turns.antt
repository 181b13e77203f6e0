-- What the filters make of one event, by its case: a press or a release passes; a button's value passes the deadzone; an axis event stays one, or is dropped,
-- and may clear its partner; on a converting pad a hat's axis event becomes the events of its directions.
use Rattle.std.specs.Prelude.{ℕ, Bool, cond, ◌&&◌, ◌≡◌, Float}
use Rattle.std.proofs.Math.Bool.{true, false}
use mathlib.Core.List.{List, [], ◌∷◌}
use Rattle.std.proofs.Math.Path.{refl}
use Rattle.std.specs.Float.Ieee.{eq}
use Rattle.numbers.specs.Constants.{zero32, one32, minus_one32}
use Rattle.numbers.specs.Deadzone.{deadzone_of}
use Rattle.numbers.specs.Jitter.{jitter_of}
use Rattle.rules.specs.declared.Event.{Event}
use Rattle.rules.specs.declared.EventType.{EventType}
use Rattle.rules.specs.declared.EventType.TheVariants.{Pressed, Released, Repeated, Changed, Axis, Connected, Disconnected, Dropped}
use Rattle.rules.specs.declared.View.{View}
use Rattle.rules.specs.declared.Zoned.{Zoned}
use Rattle.rules.specs.Names.{is_hat, partner_of, positive_name, negative_name, positive_code, negative_code}
use Rattle.rules.specs.Events.{event_if, dropped}
use Rattle.rules.specs.Filters.{Direction, hat_by, hat_gives, dpad_of, jittered_of, deadzoned_of, stick_zoned, button_zoned, shrunk, clears_partner, unless, joined, filtered_of}
use Rattle.theory_history.specs.Lemmas.Truth.{false-true}

abbrev pub ev : ℕ → ℕ → EventType → Event
ev pad time t = record { pad = pad; time = time; event = t }

-- what goes out, and what is queued behind it
unfoldable pub out_of : View → Event → Event
unfolding filtered_of
out_of v e = (filtered_of true v e).gives.event

unfoldable pub more_of : View → Event → List Event
unfolding filtered_of
more_of v e = (filtered_of true v e).gives.queued

-- ---- what no filter looks at

abbrev pub plain_type : EventType → Bool
plain_type (Pressed n c) = true
plain_type (Released n c) = true
plain_type (Repeated n c) = true
plain_type (Changed n c v) = false
plain_type (Axis n c v) = false
plain_type Connected = true
plain_type Disconnected = true
plain_type Dropped = true

pub plain_out : (v : View) (pad time : ℕ) (t : EventType) → plain_type t ≡ true → out_of v (ev pad time t) ≡ ev pad time t
unfolding out_of filtered_of joined dpad_of jittered_of deadzoned_of
plain_out v pad time (Pressed n c) e = refl
plain_out v pad time (Released n c) e = refl
plain_out v pad time (Repeated n c) e = refl
plain_out v pad time (Changed n c x) e = false-true e
plain_out v pad time (Axis n c x) e = false-true e
plain_out v pad time Connected e = refl
plain_out v pad time Disconnected e = refl
plain_out v pad time Dropped e = refl

pub plain_more : (v : View) (pad time : ℕ) (t : EventType) → plain_type t ≡ true → more_of v (ev pad time t) ≡ []
unfolding more_of filtered_of joined dpad_of jittered_of deadzoned_of
plain_more v pad time (Pressed n c) e = refl
plain_more v pad time (Released n c) e = refl
plain_more v pad time (Repeated n c) e = refl
plain_more v pad time (Changed n c x) e = false-true e
plain_more v pad time (Axis n c x) e = false-true e
plain_more v pad time Connected e = refl
plain_more v pad time Disconnected e = refl
plain_more v pad time Dropped e = refl

-- ---- a button's value

module _ (v : View) (pad time n c : ℕ) (x : Float) where
  abbrev changed : Event
  changed = ev pad time (Changed n c x)

  -- a listed axis's value is cut by its deadzone, and dropped where the state has it already
  pub zoned-out : v.dead ≡ true
      → out_of v changed ≡ unless (eq v.own (deadzone_of x zero32 v.threshold).x) changed (Changed n c (deadzone_of x zero32 v.threshold).x)
  unfolding out_of filtered_of joined dpad_of jittered_of deadzoned_of button_zoned
  zoned-out dead = rw dead

  pub unzoned-out : v.dead ≡ false → out_of v changed ≡ changed
  unfolding out_of filtered_of joined dpad_of jittered_of deadzoned_of
  unzoned-out dead = rw dead

  pub changed-more : more_of v changed ≡ []
  unfolding more_of filtered_of joined dpad_of jittered_of deadzoned_of button_zoned
  changed-more = by v.dead refl
    where
      by : (dead : Bool) → v.dead ≡ dead → more_of v changed ≡ []
      by true dead = rw dead
      by false dead = rw dead

-- ---- an axis event that no conversion takes

-- it stays an axis event of its code, or is dropped
pub data Moves (pad time n c : ℕ) : Event → Type 0 where
  sent : {y : Float} → Moves pad time n c (ev pad time (Axis n c y))
  lost : Moves pad time n c (ev pad time Dropped)

-- nothing is queued, or an axis event of its partner
pub data Clears (v : View) (pad time n : ℕ) : List Event → Type 0 where
  none : Clears v pad time n []
  one : v.partner.stands ≡ true → Clears v pad time n (ev pad time (Axis (partner_of n) v.partner.code zero32) ∷ [])

module _ (v : View) (pad time n c : ℕ) (x : Float) where
  abbrev hasaxis : Event
  hasaxis = ev pad time (Axis n c x)

  -- what the deadzone makes of it
  abbrev zone : Bool → Zoned
  zone dead = cond dead (stick_zoned v hasaxis n c (shrunk v x)) (record { event = hasaxis; clears = false; clearing = hasaxis; flags = v.flags })

  unless-moves : (same : Bool) (t : Float) → Moves pad time n c (unless same hasaxis (Axis n c t))
  unless-moves true t = lost
  unless-moves false t = sent

  zone-moves : (dead : Bool) → Moves pad time n c (zone dead).event
  unfolding stick_zoned
  zone-moves true = unless-moves (eq v.own (shrunk v x).x) (shrunk v x).x
  zone-moves false = sent

  jitter-moves : (jitters : Bool) → Moves pad time n c (deadzoned_of v (cond jitters (dropped hasaxis) hasaxis)).event
  unfolding deadzoned_of
  jitter-moves true = lost
  jitter-moves false = zone-moves v.dead

  stands : (a b : Bool) → (a && b) ≡ true → a ≡ true
  stands true b e = refl
  stands false b e = e

  clears-by : (clears : Bool) → clears_partner v (shrunk v x) ≡ clears
      → Clears v pad time n (event_if clears (ev pad time (Axis (partner_of n) v.partner.code zero32)))
  unfolding clears_partner
  clears-by true e = one (stands v.partner.stands _ e)
  clears-by false e = none

  zone-clears : (dead : Bool) → Clears v pad time n (event_if (zone dead).clears (zone dead).clearing)
  unfolding stick_zoned
  zone-clears true = clears-by (clears_partner v (shrunk v x)) refl
  zone-clears false = none

  jitter-clears : (jitters : Bool)
      → Clears v pad time n (event_if (deadzoned_of v (cond jitters (dropped hasaxis) hasaxis)).clears (deadzoned_of v (cond jitters (dropped hasaxis) hasaxis)).clearing)
  unfolding deadzoned_of
  jitter-clears true = none
  jitter-clears false = zone-clears v.dead

  pub stick-out : (v.converts && is_hat n) ≡ false → Moves pad time n c (out_of v hasaxis)
  unfolding out_of filtered_of joined dpad_of jittered_of
  stick-out free = rw (out_of, free) (jitter-moves (v.stored && jitter_of x v.stick))

  pub stick-more : (v.converts && is_hat n) ≡ false → Clears v pad time n (more_of v hasaxis)
  unfolding more_of filtered_of joined dpad_of jittered_of
  stick-more free = rw free (jitter-clears (v.stored && jitter_of x v.stick))

  -- ---- a hat's axis event on a converting pad

  hat-passes : (o m p q : Bool) (plus minus : Direction)
      → (joined (hat_by o m p q hasaxis plus minus) (deadzoned_of v (jittered_of v (hat_by o m p q hasaxis plus minus).event))).gives.event
      ≡ (hat_by o m p q hasaxis plus minus).event
  unfolding joined hat_by deadzoned_of jittered_of
  hat-passes true m p false plus minus = refl
  hat-passes true m p true plus minus = refl
  hat-passes false true false q plus minus = refl
  hat-passes false true true q plus minus = refl
  hat-passes false false false false plus minus = refl
  hat-passes false false true false plus minus = refl
  hat-passes false false false true plus minus = refl
  hat-passes false false true true plus minus = refl

  hat-queues : (o m p q : Bool) (plus minus : Direction)
      → (joined (hat_by o m p q hasaxis plus minus) (deadzoned_of v (jittered_of v (hat_by o m p q hasaxis plus minus).event))).gives.queued
      ≡ (hat_by o m p q hasaxis plus minus).queued
  unfolding joined hat_by deadzoned_of jittered_of
  hat-queues true m p false plus minus = refl
  hat-queues true m p true plus minus = refl
  hat-queues false true false q plus minus = refl
  hat-queues false true true q plus minus = refl
  hat-queues false false false false plus minus = refl
  hat-queues false false true false plus minus = refl
  hat-queues false false false true plus minus = refl
  hat-queues false false true true plus minus = refl

  pub hat-out : (v.converts && is_hat n) ≡ true → out_of v hasaxis ≡ (hat_gives v hasaxis n x).event
  unfolding out_of filtered_of dpad_of hat_gives
  hat-out taken =
      rw (out_of, taken)
      (hat-passes (eq x one32) (eq x minus_one32) v.positive v.negative (record { name = positive_name n; code = positive_code n })
      (record { name = negative_name n; code = negative_code n }))

  pub hat-more : (v.converts && is_hat n) ≡ true → more_of v hasaxis ≡ (hat_gives v hasaxis n x).queued
  unfolding more_of filtered_of dpad_of hat_gives
  hat-more taken =
      rw taken
      (hat-queues (eq x one32) (eq x minus_one32) v.positive v.negative (record { name = positive_name n; code = positive_code n })
      (record { name = negative_name n; code = negative_code n }))
