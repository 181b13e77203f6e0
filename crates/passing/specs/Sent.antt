-- The place that goes with an event that is handed on: that of its code, unless it is dropped. A filter that hands an event on leaves its pad and code, but for
-- a hat that turns, which hands on an event of one of its two directions.
use Rattle.std.specs.Prelude.{ℕ, ◌≤◌, ◌≡◌, Bool, cond, ◌&&◌, List, eqb, Float}
use Rattle.std.proofs.Math.Path.{refl}
use Rattle.std.proofs.Common.{sym, ◌∙◌, ap, arith, eq-eqb, eqb-true}
use Rattle.std.proofs.Math.Bool.{true, false}
use Rattle.std.proofs.lemmas.Bool.{false≢true}
use Rattle.std.specs.Float.Ieee.{eq}
use Rattle.numbers.specs.Constants.{zero32, one32, minus_one32}
use Rattle.numbers.specs.Deadzone.{deadzone_of}
use Rattle.numbers.specs.Jitter.{jitter_of}
use Rattle.rules.specs.declared.Event.{Event}
use Rattle.rules.specs.declared.EventType.{EventType}
use Rattle.rules.specs.declared.EventType.TheVariants.{Pressed, Released, Repeated, Changed, Axis, Connected, Disconnected, Dropped}
use Rattle.rules.specs.declared.View.{View}
use Rattle.rules.specs.Names.{nowhere, is_hat, positive_code, negative_code}
use Rattle.rules.specs.Places.{place_of}
use Rattle.rules.specs.Events.{name_of, code_of, is_dropped, dropped}
use Rattle.rules.specs.Filters.{Direction, hat_by, hat_gives, unless, shrunk, stick_zoned, dpad_of, jittered_of, deadzoned_of, kept_of}
use Rattle.filters.specs.Converted.{plus, minus}
use Rattle.filters.specs.Lanes.{lane_of, axis_lane, zoned_value, directed}
use Rattle.passing.specs.declared.Served.{Served}

-- r is handed on by filters that are on or off: its place can be indexed by, and is its code's where it is kept
pub record SentIs (codes : List ℕ) (on : Bool) (r : Served) : Type 0 where
  pub small : r.place ≤ nowhere
  pub is : kept_of on r.event ≡ true → r.place ≡ place_of codes r.event.pad (code_of r.event)

-- ---- what a lane says of the event

lane-on : (on converts dead : Bool) (e : Event) (k : ℕ) → lane_of on converts dead e ≡ k → ¬ (k ≡ 0) → on ≡ true
unfolding lane_of
lane-on true converts dead e k is some = refl
lane-on false converts dead e k is some = absurd (some (sym is))

hat-axis : (hat converts : Bool) → axis_lane hat converts ≡ 2 → hat ≡ true
hat-axis true converts is = refl
hat-axis false converts is = absurd (omega arith)

abbrev made : ℕ → ℕ → EventType → Event
made p k t = record { pad = p; time = k; event = t }

-- a hat that turns has a hat's name
hat-typed : (t : EventType) (converts dead : Bool) (p k : ℕ) → lane_of true converts dead (made p k t) ≡ 2 → is_hat (name_of (made p k t)) ≡ true
unfolding lane_of name_of
hat-typed (Axis n c x) converts dead p k is = hat-axis (is_hat n) converts is
hat-typed (Changed n c x) converts true p k is = absurd (omega arith)
hat-typed (Changed n c x) converts false p k is = absurd (omega arith)
hat-typed (Pressed n c) converts dead p k is = absurd (omega arith)
hat-typed (Released n c) converts dead p k is = absurd (omega arith)
hat-typed (Repeated n c) converts dead p k is = absurd (omega arith)
hat-typed Connected converts dead p k is = absurd (omega arith)
hat-typed Disconnected converts dead p k is = absurd (omega arith)
hat-typed Dropped converts dead p k is = absurd (omega arith)

pub hat-named : (on converts dead : Bool) (e : Event) → lane_of on converts dead e ≡ 2 → is_hat (name_of e) ≡ true
unfolding lane_of
hat-named true converts dead e is = hat-typed e.event converts dead e.pad e.time is
hat-named false converts dead e is = absurd (omega arith)

-- ---- a filter that leaves pad and code

-- u is dropped, or has the pad and the code of e
pub record Same (e u : Event) : Type 0 where
  pub pad : u.pad ≡ e.pad
  pub code : is_dropped u ≡ false → code_of u ≡ code_of e

value-unless : (same : Bool) (p k n c : ℕ) (x y : Float) → Same (made p k (Changed n c x)) (unless same (made p k (Changed n c x)) (Changed n c y))
unfolding is_dropped code_of
value-unless true p k n c x y = record { pad = refl; code = λ h. cc }
value-unless false p k n c x y = record { pad = refl; code = λ h. refl }

value-typed : (t : EventType) (own threshold : Float) (p k : ℕ) → Same (made p k t) (zoned_value own threshold (made p k t))
unfolding zoned_value
value-typed (Changed n c x) own threshold p k = value-unless (eq own (deadzone_of x zero32 threshold).x) p k n c x (deadzone_of x zero32 threshold).x
value-typed (Axis n c x) own threshold p k = record { pad = refl; code = λ h. refl }
value-typed (Pressed n c) own threshold p k = record { pad = refl; code = λ h. refl }
value-typed (Released n c) own threshold p k = record { pad = refl; code = λ h. refl }
value-typed (Repeated n c) own threshold p k = record { pad = refl; code = λ h. refl }
value-typed Connected own threshold p k = record { pad = refl; code = λ h. refl }
value-typed Disconnected own threshold p k = record { pad = refl; code = λ h. refl }
value-typed Dropped own threshold p k = record { pad = refl; code = λ h. refl }

pub value_same : (own threshold : Float) (e : Event) → Same e (zoned_value own threshold e)
value_same own threshold e = value-typed e.event own threshold e.pad e.time

-- jitter and deadzone, whose view is w
module _ (w : View) (p k : ℕ) where
  abbrev own : EventType → Event
  own t = made p k t

  stick-unless : (same : Bool) (n c : ℕ) (x y : Float) → Same (own (Axis n c x)) (unless same (own (Axis n c x)) (Axis n c y))
  unfolding is_dropped code_of
  stick-unless true n c x y = record { pad = refl; code = λ h. cc }
  stick-unless false n c x y = record { pad = refl; code = λ h. refl }

  stick-zoned : (dead : Bool) (n c : ℕ) (x : Float) → w.dead ≡ dead → Same (own (Axis n c x)) (deadzoned_of w (own (Axis n c x))).event
  unfolding deadzoned_of stick_zoned
  stick-zoned true n c x e = rw e (stick-unless (eq w.own (shrunk w x).x) n c x (shrunk w x).x)
  stick-zoned false n c x e = rw e (record { pad = refl; code = λ h. refl })

  stick-jittered : (drops : Bool) (n c : ℕ) (x : Float) → let e = own (Axis n c x) in Same e (deadzoned_of w (cond drops (dropped e) e)).event
  unfolding is_dropped deadzoned_of
  stick-jittered true n c x = record { pad = refl; code = λ h. cc }
  stick-jittered false n c x = stick-zoned w.dead n c x refl

  value-zoned : (dead : Bool) (n c : ℕ) (x : Float) → w.dead ≡ dead → Same (own (Changed n c x)) (deadzoned_of w (own (Changed n c x))).event
  unfolding deadzoned_of
  value-zoned true n c x e = rw e (value-unless (eq w.own (deadzone_of x zero32 w.threshold).x) p k n c x (deadzone_of x zero32 w.threshold).x)
  value-zoned false n c x e = rw e (record { pad = refl; code = λ h. refl })

  stick-typed : (t : EventType) → Same (own t) (deadzoned_of w (jittered_of w (own t))).event
  unfolding deadzoned_of jittered_of
  stick-typed (Axis n c x) = stick-jittered (w.stored && jitter_of x w.stick) n c x
  stick-typed (Changed n c x) = value-zoned w.dead n c x refl
  stick-typed (Pressed n c) = record { pad = refl; code = λ h. refl }
  stick-typed (Released n c) = record { pad = refl; code = λ h. refl }
  stick-typed (Repeated n c) = record { pad = refl; code = λ h. refl }
  stick-typed Connected = record { pad = refl; code = λ h. refl }
  stick-typed Disconnected = record { pad = refl; code = λ h. refl }
  stick-typed Dropped = record { pad = refl; code = λ h. refl }

pub stick-same : (w : View) (e : Event) → Same e (deadzoned_of w (jittered_of w e)).event
stick-same w e = stick-typed w e.pad e.time e.event

-- ---- a hat that turns

-- the place of the direction that an event of it is of
abbrev pub turned_place : List ℕ → Event → Event → ℕ
turned_place codes e u =
    cond (eqb (code_of u) (positive_code (name_of e))) (place_of codes e.pad (positive_code (name_of e))) (place_of codes e.pad (negative_code (name_of e)))

module _ (codes : List ℕ) (q : ℕ) where
  -- the code is the first one's, or the second one's
  first-picked : (c other : ℕ) → cond (eqb c c) (place_of codes q c) (place_of codes q other) ≡ place_of codes q c
  first-picked c other = rw (eq-eqb c c refl)

  second-by : (b : Bool) (c first : ℕ) → eqb c first ≡ b → cond b (place_of codes q first) (place_of codes q c) ≡ place_of codes q c
  second-by true c first e = ap (place_of codes q) (sym (eqb-true c first e))
  second-by false c first e = refl

  second-picked : (c first : ℕ) → cond (eqb c first) (place_of codes q first) (place_of codes q c) ≡ place_of codes q c
  second-picked c first = second-by (eqb c first) c first refl

  hat-by :
      (up down positive negative : Bool) (time name code : ℕ) (x : Float) (i j : Direction) →
      let e = made q time (Axis name code x) in
      let u = (hat_by up down positive negative e i j).event in
      is_dropped u ≡ false →
      cond (eqb (code_of u) i.code) (place_of codes q i.code) (place_of codes q j.code) ≡ place_of codes u.pad (code_of u)
  unfolding hat_by is_dropped code_of
  hat-by true d p false time name code x i j h = first-picked i.code j.code
  hat-by true d p true time name code x i j h = second-picked j.code i.code
  hat-by false true false n time name code x i j h = second-picked j.code i.code
  hat-by false true true n time name code x i j h = first-picked i.code j.code
  hat-by false false false false time name code x i j h = cc
  hat-by false false true false time name code x i j h = first-picked i.code j.code
  hat-by false false false true time name code x i j h = second-picked j.code i.code
  hat-by false false true true time name code x i j h = second-picked j.code i.code

  hat-axis-placed :
      (hat converts positive negative : Bool) (time n c : ℕ) (x : Float) →
      let e = made q time (Axis n c x) in
      let u = (dpad_of (directed positive negative) e).event in
      is_hat n ≡ hat →
      axis_lane hat converts ≡ 2 →
      is_dropped u ≡ false →
      turned_place codes e u ≡ place_of codes u.pad (code_of u)
  unfolding dpad_of hat_gives name_of
  hat-axis-placed true converts positive negative time n c x en is h =
      rw en (hat-by (eq x one32) (eq x minus_one32) positive negative time n c x (plus n) (minus n) (rw en at h))
  hat-axis-placed false converts positive negative time n c x en is h = absurd (omega arith)

  hat-placed :
      (t : EventType) (converts dead positive negative : Bool) (time : ℕ) →
      let e = made q time t in
      let u = (dpad_of (directed positive negative) e).event in
      lane_of true converts dead e ≡ 2 →
      is_dropped u ≡ false →
      turned_place codes e u ≡ place_of codes u.pad (code_of u)
  unfolding lane_of
  hat-placed (Axis n c x) converts dead positive negative time is h =
      hat-axis-placed (is_hat n) converts positive negative time n c x refl is h
  hat-placed (Changed n c x) converts true positive negative time is h = absurd (omega arith)
  hat-placed (Changed n c x) converts false positive negative time is h = absurd (omega arith)
  hat-placed (Pressed n c) converts dead positive negative time is h = absurd (omega arith)
  hat-placed (Released n c) converts dead positive negative time is h = absurd (omega arith)
  hat-placed (Repeated n c) converts dead positive negative time is h = absurd (omega arith)
  hat-placed Connected converts dead positive negative time is h = absurd (omega arith)
  hat-placed Disconnected converts dead positive negative time is h = absurd (omega arith)
  hat-placed Dropped converts dead positive negative time is h = absurd (omega arith)

-- ---- what is handed on by each lane

-- what is kept where the filters are on is not dropped
not-dropped : (on drops : Bool) (u : Event) → on ≡ true → is_dropped u ≡ drops → kept_of on u ≡ true → is_dropped u ≡ false
unfolding kept_of
not-dropped on true u eon ed kept = absurd (false≢true (rw (eon, ed) at kept))
not-dropped on false u eon ed kept = ed

module _ (codes : List ℕ) (on : Bool) (e : Event) {place : ℕ} (small : place ≤ nowhere) (ep : place ≡ place_of codes e.pad (code_of e)) where
  -- an event at which no filter looks
  pub sent-none : {waiting : ℕ} → SentIs codes on (record { event = e; waiting = waiting; place = place })
  sent-none = record { small = small; is = λ kept. ep }

  -- one whose pad and code a filter left
  pub sent-same :
      (converts dead : Bool) (k : ℕ) {r : Served} {u : Event} →
      lane_of on converts dead e ≡ k →
      ¬ (k ≡ 0) →
      r.event ≡ u →
      Same e u →
      r.place ≡ place →
      SentIs codes on r
  sent-same converts dead k {r} {u} lane some er same eplace =
      record {
        small = rw eplace small;
        is =
            λ kept.
            let stays = not-dropped on (is_dropped u) u (lane-on on converts dead e k lane some) refl (rw er at kept) in
            eplace ∙ ep ∙ ap (λ (q : ℕ). place_of codes q (code_of e)) (sym same.pad) ∙ ap (place_of codes u.pad) (sym (same.code stays))
            ∙ ap (λ (x : Event). place_of codes x.pad (code_of x)) (sym er);
      }

pub either-small : (b : Bool) {x y : ℕ} → x ≤ nowhere → y ≤ nowhere → cond b x y ≤ nowhere
either-small true hx hy = hx
either-small false hx hy = hy

-- one of a hat's directions
pub sent-hat :
    (codes : List ℕ) (on converts dead : Bool) (e : Event) (positive negative : Bool) {r : Served} →
    lane_of on converts dead e ≡ 2 →
    r.event ≡ (dpad_of (directed positive negative) e).event →
    r.place ≡ turned_place codes e r.event →
    r.place ≤ nowhere →
    SentIs codes on r
unfolding lane_of
sent-hat codes true converts dead e positive negative lane er eplace small =
    record {
      small = small;
      is =
          λ kept.
          let u = (dpad_of (directed positive negative) e).event in
          let stays = not-dropped true (is_dropped u) u refl refl (rw er at kept) in
          eplace ∙ rw er (hat-placed codes e.pad e.event converts dead positive negative e.time lane stays);
    }
sent-hat codes false converts dead e positive negative lane er eplace small = absurd (omega arith)
