-- The filters by what an event is: which of them look at it, what it then becomes, what they leave of the flags, and what they queue. An event at which none
-- looks passes as it is; a button's value meets the deadzone alone; a hat that turns into its directions is asked for those alone; every other axis meets
-- jitter and deadzone, which ask for no direction.
use Rattle.std.specs.Prelude.{ℕ, ◌≤◌, ◌≡◌, Bool, cond, ◌&&◌, List, [], Float}
use Rattle.std.proofs.Math.Path.{refl, ap}
use Rattle.std.proofs.Common.{sym, ◌∙◌, arith}
use Rattle.std.proofs.Math.Bool.{true, false}
use Rattle.std.specs.Float.Ieee.{eq}
use Rattle.numbers.specs.Constants.{zero32, one32, minus_one32}
use Rattle.numbers.specs.Deadzone.{deadzone_of}
use Rattle.numbers.specs.Jitter.{jitter_of}
use Rattle.rules.specs.declared.Event.{Event}
use Rattle.rules.specs.declared.EventType.{EventType}
use Rattle.rules.specs.declared.EventType.TheVariants.{Pressed, Released, Repeated, Changed, Axis, Connected, Disconnected, Dropped}
use Rattle.rules.specs.declared.Flags.{Flags}
use Rattle.rules.specs.declared.View.{View}
use Rattle.rules.specs.declared.Zoned.{Zoned}
use Rattle.rules.specs.Names.{is_hat}
use Rattle.rules.specs.Events.{WithQueued, dropped, alone, event_if}
use Rattle.rules.specs.Filters.{Filtered, Direction, hat_by, hat_gives, unless, shrunk, clears_partner, flags_after, stick_zoned, button_zoned, dpad_of, jittered_of, deadzoned_of, joined, filtered_of}
use Rattle.filters.specs.Converted.{plus, minus}

-- ---- the lanes

abbrev pub axis_lane : Bool → Bool → ℕ
axis_lane hat converts = cond hat (cond converts 2 3) 3

abbrev pub value_lane : Bool → ℕ
value_lane dead = cond dead 1 0

-- which filters look at an event: 0 none, 1 those of a button's value, 2 those of a hat that turns, 3 those of a stick
abbrev pub lane_type : EventType → Bool → Bool → ℕ
lane_type (Axis n c x) converts dead = axis_lane (is_hat n) converts
lane_type (Changed n c x) converts dead = value_lane dead
lane_type (Pressed n c) converts dead = 0
lane_type (Released n c) converts dead = 0
lane_type (Repeated n c) converts dead = 0
lane_type Connected converts dead = 0
lane_type Disconnected converts dead = 0
lane_type Dropped converts dead = 0

unfoldable pub lane_of : Bool → Bool → Bool → Event → ℕ
unfolding is_hat
lane_of on converts dead e = cond on (lane_type e.event converts dead) 0

axis-few : (hat converts : Bool) → axis_lane hat converts ≤ 3
axis-few true true = omega arith
axis-few true false = omega arith
axis-few false converts = omega arith

value-few : (dead : Bool) → value_lane dead ≤ 3
value-few true = omega arith
value-few false = omega arith

type-few : (t : EventType) (converts dead : Bool) → lane_type t converts dead ≤ 3
type-few (Axis n c x) converts dead = axis-few (is_hat n) converts
type-few (Changed n c x) converts dead = value-few dead
type-few (Pressed n c) converts dead = omega arith
type-few (Released n c) converts dead = omega arith
type-few (Repeated n c) converts dead = omega arith
type-few Connected converts dead = omega arith
type-few Disconnected converts dead = omega arith
type-few Dropped converts dead = omega arith

pub lane-few : (on converts dead : Bool) (e : Event) → lane_of on converts dead e ≤ 3
unfolding lane_of
lane-few true converts dead e = type-few e.event converts dead
lane-few false converts dead e = omega arith

-- what the filters make of an event: what passes, the flags after, and what is queued behind it
pub record Sends (on : Bool) (v : View) (e : Event) (u : Event) (f : Flags) (es : List Event) : Type 0 where
  pub event : (filtered_of on v e).gives.event ≡ u
  pub flags : (filtered_of on v e).flags ≡ f
  pub queued : (filtered_of on v e).gives.queued ≡ es

-- a button's value after the deadzone
abbrev pub zoned_type : EventType → Float → Float → Event → Event
zoned_type (Changed n c x) own threshold e =
    unless (eq own (deadzone_of x zero32 threshold).x) e (Changed n c (deadzone_of x zero32 threshold).x)
zoned_type (Axis n c x) own threshold e = e
zoned_type (Pressed n c) own threshold e = e
zoned_type (Released n c) own threshold e = e
zoned_type (Repeated n c) own threshold e = e
zoned_type Connected own threshold e = e
zoned_type Disconnected own threshold e = e
zoned_type Dropped own threshold e = e

unfoldable pub zoned_value : Float → Float → Event → Event
unfolding deadzone_of
zoned_value own threshold e = zoned_type e.event own threshold e

-- what a hat that turns sees: whether its directions are held, and nothing else
abbrev pub directed : Bool → Bool → View
directed positive negative =
    record {
      converts = true;
      positive = positive;
      negative = negative;
      stored = false;
      stick = zero32;
      dead = false;
      threshold = zero32;
      own = zero32;
      partner = record { stands = false; code = 0; value = zero32 };
      flags = record { own = false; partner = false };
    }

-- what a stick sees: all but the directions
abbrev pub undirected : View → View
undirected v =
    record {
      converts = false;
      positive = false;
      negative = false;
      stored = v.stored;
      stick = v.stick;
      dead = v.dead;
      threshold = v.threshold;
      own = v.own;
      partner = v.partner;
      flags = v.flags;
    }

abbrev pub stick_zoned_of : View → Event → Zoned
stick_zoned_of v e = deadzoned_of (undirected v) (jittered_of (undirected v) e)

abbrev pub clearing_of : Zoned → List Event
clearing_of z = event_if z.clears z.clearing

-- ---- the laws, by an event's kind

abbrev pub made : ℕ → ℕ → EventType → Event
made p k t = record { pad = p; time = k; event = t }

module _ (p k : ℕ) (v : View) where
  abbrev None : EventType → Type 0
  None t = Sends true v (made p k t) (made p k t) v.flags []

  abbrev Value : EventType → Type 0
  Value t = Sends true v (made p k t) (zoned_value v.own v.threshold (made p k t)) v.flags []

  abbrev turns : EventType → WithQueued
  turns t = dpad_of (directed v.positive v.negative) (made p k t)

  abbrev Hat : EventType → Type 0
  Hat t = Sends true v (made p k t) (turns t).event v.flags (turns t).queued

  abbrev zoned : EventType → Zoned
  zoned t = stick_zoned_of v (made p k t)

  abbrev Stick : EventType → Type 0
  Stick t = Sends true v (made p k t) (zoned t).event (zoned t).flags (clearing_of (zoned t))

  none-axis : (n c : ℕ) (x : Float) (hat converts : Bool) → axis_lane hat converts ≡ 0 → None (Axis n c x)
  none-axis n c x true true h = absurd (omega arith)
  none-axis n c x true false h = absurd (omega arith)
  none-axis n c x false converts h = absurd (omega arith)

  none-changed : (n c : ℕ) (x : Float) (dead : Bool) → v.dead ≡ dead → value_lane dead ≡ 0 → None (Changed n c x)
  unfolding filtered_of dpad_of jittered_of deadzoned_of joined
  none-changed n c x true ed h = absurd (omega arith)
  none-changed n c x false ed h = record { event = rw ed; flags = rw ed; queued = rw ed }

  none-type : (t : EventType) → lane_type t v.converts v.dead ≡ 0 → None t
  unfolding filtered_of dpad_of jittered_of deadzoned_of joined
  none-type (Axis n c x) h = none-axis n c x (is_hat n) v.converts h
  none-type (Changed n c x) h = none-changed n c x v.dead refl h
  none-type (Pressed n c) h = record { event = refl; flags = refl; queued = refl }
  none-type (Released n c) h = record { event = refl; flags = refl; queued = refl }
  none-type (Repeated n c) h = record { event = refl; flags = refl; queued = refl }
  none-type Connected h = record { event = refl; flags = refl; queued = refl }
  none-type Disconnected h = record { event = refl; flags = refl; queued = refl }
  none-type Dropped h = record { event = refl; flags = refl; queued = refl }

  value-axis : (n c : ℕ) (x : Float) (hat converts : Bool) → axis_lane hat converts ≡ 1 → Value (Axis n c x)
  value-axis n c x true true h = absurd (omega arith)
  value-axis n c x true false h = absurd (omega arith)
  value-axis n c x false converts h = absurd (omega arith)

  value-changed : (n c : ℕ) (x : Float) (dead : Bool) → v.dead ≡ dead → value_lane dead ≡ 1 → Value (Changed n c x)
  unfolding filtered_of dpad_of jittered_of deadzoned_of button_zoned joined zoned_value
  value-changed n c x true ed h = record { event = rw ed; flags = rw ed; queued = rw ed }
  value-changed n c x false ed h = absurd (omega arith)

  value-type : (t : EventType) → lane_type t v.converts v.dead ≡ 1 → Value t
  value-type (Axis n c x) h = value-axis n c x (is_hat n) v.converts h
  value-type (Changed n c x) h = value-changed n c x v.dead refl h
  value-type (Pressed n c) h = absurd (omega arith)
  value-type (Released n c) h = absurd (omega arith)
  value-type (Repeated n c) h = absurd (omega arith)
  value-type Connected h = absurd (omega arith)
  value-type Disconnected h = absurd (omega arith)
  value-type Dropped h = absurd (omega arith)

  -- a hat's presses and releases pass the other filters, and nothing is cleared behind them
  hat-passes :
      (a b positive negative : Bool) (e : Event) (i j : Direction) →
      let g = hat_by a b positive negative e i j in
      let f = joined g (deadzoned_of v (jittered_of v g.event)) in
      (f.gives.event ≡ g.event) × (f.flags ≡ v.flags) × (f.gives.queued ≡ g.queued)
  unfolding hat_by jittered_of deadzoned_of joined
  hat-passes true b p false e i j = (refl, refl, refl)
  hat-passes true b p true e i j = (refl, refl, refl)
  hat-passes false true false q e i j = (refl, refl, refl)
  hat-passes false true true q e i j = (refl, refl, refl)
  hat-passes false false false false e i j = (refl, refl, refl)
  hat-passes false false true false e i j = (refl, refl, refl)
  hat-passes false false false true e i j = (refl, refl, refl)
  hat-passes false false true true e i j = (refl, refl, refl)

  abbrev hatted : ℕ → ℕ → Float → WithQueued
  hatted n c x = hat_by (eq x one32) (eq x minus_one32) v.positive v.negative (made p k (Axis n c x)) (plus n) (minus n)

  hat-given : (n c : ℕ) (x : Float) → v.converts && is_hat n ≡ true → dpad_of v (made p k (Axis n c x)) ≡ hatted n c x
  unfolding dpad_of hat_gives
  hat-given n c x on = rw on

  hat-turned : (n c : ℕ) (x : Float) → is_hat n ≡ true → turns (Axis n c x) ≡ hatted n c x
  unfolding dpad_of hat_gives
  hat-turned n c x on = rw on

  hat-filtered :
      (n c : ℕ) (x : Float) →
      v.converts && is_hat n ≡ true →
      filtered_of true v (made p k (Axis n c x)) ≡ joined (hatted n c x) (deadzoned_of v (jittered_of v (hatted n c x).event))
  unfolding filtered_of
  hat-filtered n c x on = ap (λ (g : WithQueued). joined g (deadzoned_of v (jittered_of v g.event))) (hat-given n c x on)

  hat-axis :
      (n c : ℕ) (x : Float) (hat converts : Bool) → is_hat n ≡ hat → v.converts ≡ converts → axis_lane hat converts ≡ 2 → Hat (Axis n c x)
  hat-axis n c x true true en ec h =
      let from = hat-filtered n c x (rw (ec, en)) in
      let to = sym (hat-turned n c x en) in
      let is = hat-passes (eq x one32) (eq x minus_one32) v.positive v.negative (made p k (Axis n c x)) (plus n) (minus n) in
      record {
        event = ap (λ (f : Filtered). f.gives.event) from ∙ is.0 ∙ ap (λ (g : WithQueued). g.event) to;
        flags = ap (λ (f : Filtered). f.flags) from ∙ is.1;
        queued = ap (λ (f : Filtered). f.gives.queued) from ∙ is.2 ∙ ap (λ (g : WithQueued). g.queued) to;
      }
  hat-axis n c x true false en ec h = absurd (omega arith)
  hat-axis n c x false converts en ec h = absurd (omega arith)

  hat-changed : (n c : ℕ) (x : Float) (dead : Bool) → value_lane dead ≡ 2 → Hat (Changed n c x)
  hat-changed n c x true h = absurd (omega arith)
  hat-changed n c x false h = absurd (omega arith)

  hat-type : (t : EventType) → lane_type t v.converts v.dead ≡ 2 → Hat t
  hat-type (Axis n c x) h = hat-axis n c x (is_hat n) v.converts refl refl h
  hat-type (Changed n c x) h = hat-changed n c x v.dead h
  hat-type (Pressed n c) h = absurd (omega arith)
  hat-type (Released n c) h = absurd (omega arith)
  hat-type (Repeated n c) h = absurd (omega arith)
  hat-type Connected h = absurd (omega arith)
  hat-type Disconnected h = absurd (omega arith)
  hat-type Dropped h = absurd (omega arith)

  -- jitter and deadzone ask for no direction
  dropped-same : (n c : ℕ) (x : Float) (b : Bool) → let e = made p k (Axis n c x) in deadzoned_of v (cond b (dropped e) e) ≡ deadzoned_of (undirected v) (cond b (dropped e) e)
  unfolding deadzoned_of stick_zoned shrunk clears_partner flags_after
  dropped-same n c x true = refl
  dropped-same n c x false = refl

  zoned-same : (n c : ℕ) (x : Float) → let e = made p k (Axis n c x) in deadzoned_of v (jittered_of v e) ≡ zoned (Axis n c x)
  unfolding jittered_of
  zoned-same n c x = dropped-same n c x (v.stored && jitter_of x v.stick)

  stick-passes :
      (n c : ℕ) (x : Float) → v.converts && is_hat n ≡ false → filtered_of true v (made p k (Axis n c x)) ≡ joined (alone (made p k (Axis n c x))) (zoned (Axis n c x))
  unfolding filtered_of dpad_of
  stick-passes n c x off = rw off (ap (joined (alone (made p k (Axis n c x)))) (zoned-same n c x))

  stick-joined : (n c : ℕ) (x : Float) → v.converts && is_hat n ≡ false → Stick (Axis n c x)
  unfolding joined
  stick-joined n c x off =
      let is = stick-passes n c x off in
      let e = made p k (Axis n c x) in
      let z = zoned (Axis n c x) in
      record {
        event = ap (λ (f : Filtered). f.gives.event) is;
        flags = ap (λ (f : Filtered). f.flags) is;
        queued = ap (λ (f : Filtered). f.gives.queued) is;
      }

  stick-axis :
      (n c : ℕ) (x : Float) (hat converts : Bool) → is_hat n ≡ hat → v.converts ≡ converts → axis_lane hat converts ≡ 3 → Stick (Axis n c x)
  stick-axis n c x true true en ec h = absurd (omega arith)
  stick-axis n c x true false en ec h = stick-joined n c x (rw ec)
  stick-axis n c x false true en ec h = stick-joined n c x (rw (ec, en))
  stick-axis n c x false false en ec h = stick-joined n c x (rw ec)

  stick-changed : (n c : ℕ) (x : Float) (dead : Bool) → value_lane dead ≡ 3 → Stick (Changed n c x)
  stick-changed n c x true h = absurd (omega arith)
  stick-changed n c x false h = absurd (omega arith)

  stick-type : (t : EventType) → lane_type t v.converts v.dead ≡ 3 → Stick t
  stick-type (Axis n c x) h = stick-axis n c x (is_hat n) v.converts refl refl h
  stick-type (Changed n c x) h = stick-changed n c x v.dead h
  stick-type (Pressed n c) h = absurd (omega arith)
  stick-type (Released n c) h = absurd (omega arith)
  stick-type (Repeated n c) h = absurd (omega arith)
  stick-type Connected h = absurd (omega arith)
  stick-type Disconnected h = absurd (omega arith)
  stick-type Dropped h = absurd (omega arith)

-- ---- the laws, for every event

off-sends : (v : View) (e : Event) → Sends false v e e v.flags []
unfolding filtered_of
off-sends v e = record { event = refl; flags = refl; queued = refl }

pub none-sends : (on : Bool) (v : View) (e : Event) → lane_of on v.converts v.dead e ≡ 0 → Sends on v e e v.flags []
unfolding lane_of
none-sends true v e h = none-type e.pad e.time v e.event h
none-sends false v e h = off-sends v e

pub value-sends : (on : Bool) (v : View) (e : Event) → lane_of on v.converts v.dead e ≡ 1 → Sends on v e (zoned_value v.own v.threshold e) v.flags []
unfolding lane_of
value-sends true v e h = value-type e.pad e.time v e.event h
value-sends false v e h = absurd (omega arith)

pub hat-sends :
    (on : Bool) (v : View) (e : Event) →
    lane_of on v.converts v.dead e ≡ 2 →
    let g = dpad_of (directed v.positive v.negative) e in
    Sends on v e g.event v.flags g.queued
unfolding lane_of
hat-sends true v e h = hat-type e.pad e.time v e.event h
hat-sends false v e h = absurd (omega arith)

pub stick-sends :
    (on : Bool) (v : View) (e : Event) →
    lane_of on v.converts v.dead e ≡ 3 →
    let z = stick_zoned_of v e in
    Sends on v e z.event z.flags (clearing_of z)
unfolding lane_of
stick-sends true v e h = stick-type e.pad e.time v e.event h
stick-sends false v e h = absurd (omega arith)
