-- What a hat's move makes of its directions: after all its events are written a direction shows pressed exactly where the value presses it, whatever the
-- opposite one was; and on the way the two are never pressed together. By the cases of the conversion.
use Rattle.std.specs.Prelude.{ℕ, Bool, cond, not, ◌&&◌, ◌||◌, ◌≡◌, eqb, Float}
use Rattle.std.proofs.Math.Bool.{true, false, and-false}
use Rattle.std.proofs.Math.Path.{refl}
use Rattle.std.proofs.Common.{◌∙◌, ap}
use Rattle.rules.specs.declared.Event.{Event}
use Rattle.rules.specs.declared.EventType.TheVariants.{Axis}
use Rattle.rules.specs.Places.{place_of}
use Rattle.rules.specs.Events.{WithQueued, code_of, dropped}
use Rattle.rules.specs.State.{writes_axis_type}
use Rattle.rules.specs.Dispatch.{amount}
use Rattle.rules.specs.Filters.{hat_by}
use Rattle.theory_history.specs.Lemmas.Cells.{Cell, cell_pressed, hits}
use Rattle.theory_history.specs.Lemmas.Turns.{ev}
use Rattle.theory_history.specs.Lemmas.Waits.{Sheet}
use Rattle.theory_history.specs.Lemmas.Exact.{put_at, same-either, down-either}
use Rattle.theory_history.specs.Lemmas.Written.{writes, Never}
use Rattle.theory_history.specs.Lemmas.Sides.{Shows, Turn}

module _ (s : Sheet) (pad time n c : ℕ) (z : Float) (pn pc mn mc : ℕ) where
  abbrev e : Event
  e = ev pad time (Axis n c z)

  -- o: the value is 1.0; m: it is -1.0; a and b: what the positive and the negative direction read
  abbrev by : Bool → Bool → Bool → Bool → WithQueued
  by o m a b = hat_by o m a b e (record { name = pn; code = pc }) (record { name = mn; code = mc })

  -- where an event of a direction is of a place
  abbrev On : ℕ → ℕ → Bool → Type 0
  On code k hit = eqb (place_of s.codes pad code) k ≡ hit

  -- a press, a release and a dropped event are no axis events
  no-axis : (o m a b : Bool) → writes_axis_type (by o m a b).event.event ≡ false
  unfolding hat_by
  no-axis true m a false = refl
  no-axis true m a true = refl
  no-axis false true false b = refl
  no-axis false true true b = refl
  no-axis false false false false = refl
  no-axis false false true false = refl
  no-axis false false false true = refl
  no-axis false false true true = refl

  -- ---- one direction

  shown : (b : Bool) → Shows (record { known = true; pressed = b; value = amount b }) b
  shown b = record { pressed = refl; value = refl }

  -- up: the place is the positive direction's, else the negative one's
  hat-shows : (k : ℕ) (up : Bool) → On pc k up → On mc k (not up) → (o m a b : Bool) (x : Cell) → Shows x (cond up a b)
      → Shows (writes s k (by o m a b).queued (put_at s k (by o m a b).event x)) (cond up o (not o && m))
  unfolding hat_by writes hits code_of
  hat-shows k true p q true m a false x t = rw p (shown true)
  hat-shows k true p q true m a true x t = rw (p, q) (shown true)
  hat-shows k true p q false true false b x t = rw q t
  hat-shows k true p q false true true b x t = rw (p, q) (shown false)
  hat-shows k true p q false false false false x t = rw (same-either (hits s.codes k (dropped e)) x) t
  hat-shows k true p q false false true false x t = rw p (shown false)
  hat-shows k true p q false false false true x t = rw q t
  hat-shows k true p q false false true true x t = rw (p, q) (shown false)
  hat-shows k false p q true m a false x t = rw p t
  hat-shows k false p q true m a true x t = rw (p, q) (shown false)
  hat-shows k false p q false true false b x t = rw q (shown true)
  hat-shows k false p q false true true b x t = rw (p, q) (shown true)
  hat-shows k false p q false false false false x t = rw (same-either (hits s.codes k (dropped e)) x) t
  hat-shows k false p q false false true false x t = rw p t
  hat-shows k false p q false false false true x t = rw q (shown false)
  hat-shows k false p q false false true true x t = rw (p, q) (shown false)

  pub hat-turn : (k : ℕ) (up : Bool) → On pc k up → On mc k (not up) → (o m a b : Bool) (x : Cell) → Shows x (cond up a b)
      → Turn s k (by o m a b).event (by o m a b).queued x (cond up o (not o && m))
  hat-turn k up p q o m a b x t =
      let hit = hits s.codes k (by o m a b).event in
      record {
        shows = hat-shows k up p q o m a b x t;
        still = ap (λ (axis : Bool). cond hit (false || axis) false) (no-axis o m a b) ∙ down-either hit;
      }

  -- ---- both, behind the event that goes out and behind those that it queues

  pub hat-never : (j k : ℕ) → On pc j true → On mc j false → On pc k false → On mc k true → (o m a b : Bool) (x y : Cell) → cell_pressed x ≡ a → cell_pressed y ≡ b
      → Never s j k (by o m a b).queued (put_at s j (by o m a b).event x) (put_at s k (by o m a b).event y)
  unfolding hat_by Never hits code_of
  hat-never j k jp jm kp km true m a false x y p q = rw (jp, kp, q) (refl, refl)
  hat-never j k jp jm kp km true m a true x y p q = rw (jp, jm, kp, km) (and-false (cell_pressed x), (and-false (cell_pressed x), (refl, refl)))
  hat-never j k jp jm kp km false true false b x y p q = rw (jm, km, p) (refl, refl)
  hat-never j k jp jm kp km false true true b x y p q = rw (jp, jm) (refl, (refl, (refl, refl)))
  hat-never j k jp jm kp km false false false false x y p q = rw (same-either (hits s.codes j (dropped e)) x, p)
  hat-never j k jp jm kp km false false true false x y p q = rw jp (refl, refl)
  hat-never j k jp jm kp km false false false true x y p q = rw (jm, km, p) (refl, refl)
  hat-never j k jp jm kp km false false true true x y p q =
      rw (jp, jm, kp, km) (and-false (cell_pressed x), (and-false (cell_pressed x), (refl, refl)))
