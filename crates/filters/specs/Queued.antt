-- The events that dpad queues, one by one: what a place of its queue holds, without the queue. The law `queued-is`: below its length it is what the law book's
-- queue has there.
use Rattle.std.specs.Prelude.{ℕ, zero, suc, ◌<◌, ◌≡◌, refl, Bool, true, false, cond, ◌&&◌, [], ◌∷◌, eqb, Float, length, get_or}
use Rattle.std.specs.Float.Ieee.{eq}
use Rattle.std.proofs.Common.{arith}
use Rattle.numbers.specs.Constants.{zero32, one32, minus_one32}
use Rattle.rules.specs.Names.{is_hat}
use Rattle.rules.specs.declared.Event.{Event}
use Rattle.rules.specs.declared.EventType.{EventType}
use Rattle.rules.specs.declared.EventType.TheVariants.{Pressed, Released, Repeated, Changed, Axis, Connected, Disconnected, Dropped}
use Rattle.rules.specs.declared.View.{View}
use Rattle.rules.specs.Events.{WithQueued, alone, with}
use Rattle.rules.specs.Filters.{Direction, presses, releases, reads, hat_by, hat_gives, dpad_type, dpad_of}
use Rattle.filters.specs.Converted.{plus, minus}

-- ---- what stands at a place

abbrev pub one_of : Event → Event → Event → ℕ → Event
one_of a b c at = cond (eqb at 0) a (cond (eqb at 1) b c)

-- toward a direction: its value, its press, the opposite's value
unfoldable pub toward_at : Event → Direction → Direction → ℕ → Event
toward_at e plus minus at = one_of (with e (reads plus one32)) (with e (presses plus)) (with e (reads minus zero32)) at

-- at rest: the positive direction's value, where it is held, its release, the negative one's value
unfoldable pub centred_at : Bool → Event → Direction → Direction → ℕ → Event
centred_at p e plus minus at =
    one_of (cond p (with e (reads plus zero32)) (with e (reads minus zero32))) (with e (releases plus)) (with e (reads minus zero32)) at

-- the three tests: the value is 1.0, it is -1.0, the positive direction is pressed
unfoldable pub hat_at : Bool → Bool → Bool → Event → Direction → Direction → ℕ → Event
unfolding toward_at centred_at
hat_at true m p e plus minus at = toward_at e plus minus at
hat_at false true p e plus minus at = toward_at e minus plus at
hat_at false false p e plus minus at = centred_at p e plus minus at

abbrev pub type_at : EventType → View → Event → ℕ → Event
type_at (Axis n c x) v e at = hat_at (eq x one32) (eq x minus_one32) v.positive e (plus n) (minus n) at
type_at (Pressed n c) v e at = e
type_at (Released n c) v e at = e
type_at (Repeated n c) v e at = e
type_at (Changed n c x) v e at = e
type_at Connected v e at = e
type_at Disconnected v e at = e
type_at Dropped v e at = e

unfoldable pub queued_at : View → Event → ℕ → Event
unfolding hat_at
queued_at v e at = type_at e.event v e at

-- ---- it is what the queue has there

of_one : (past a b c : Event) (at : ℕ) → at < 1 → one_of a b c at ≡ get_or (a ∷ []) at past
of_one past a b c zero h = refl
of_one past a b c (suc n) h = absurd (omega arith)

of_three : (past a b c : Event) (at : ℕ) → at < 3 → one_of a b c at ≡ get_or (a ∷ b ∷ c ∷ []) at past
of_three past a b c zero h = refl
of_three past a b c (suc zero) h = refl
of_three past a b c (suc (suc zero)) h = refl
of_three past a b c (suc (suc (suc n))) h = absurd (omega arith)

hat-queued : (past : Event) (a b p q : Bool) (e : Event) (i j : Direction) (at : ℕ) → at < length (hat_by a b p q e i j).queued → hat_at a b p e i j at ≡ get_or (hat_by a b p q e i j).queued at past
unfolding hat_by hat_at toward_at centred_at
hat-queued past true b p false e i j at h = of_one past _ _ _ at h
hat-queued past true b p true e i j at h = of_three past _ _ _ at h
hat-queued past false true false q e i j at h = of_one past _ _ _ at h
hat-queued past false true true q e i j at h = of_three past _ _ _ at h
hat-queued past false false false false e i j at h = absurd (omega arith)
hat-queued past false false true false e i j at h = of_one past _ _ _ at h
hat-queued past false false false true e i j at h = of_one past _ _ _ at h
hat-queued past false false true true e i j at h = of_three past _ _ _ at h

gives-queued : (past : Event) (v : View) (e : Event) (n : ℕ) (x : Float) (at : ℕ) → at < length (hat_gives v e n x).queued → hat_at (eq x one32) (eq x minus_one32) v.positive e (plus n) (minus n) at ≡ get_or (hat_gives v e n x).queued at past
unfolding hat_gives
gives-queued past v e n x at h = hat-queued past (eq x one32) (eq x minus_one32) v.positive v.negative e (plus n) (minus n) at h

either-queued : (past : Event) (on : Bool) (g : WithQueued) (e u : Event) (at : ℕ) → (at < length g.queued → u ≡ get_or g.queued at past) → at < length (cond on g (alone e)).queued → u ≡ get_or (cond on g (alone e)).queued at past
either-queued past true g e u at is h = is h
either-queued past false g e u at is h = absurd (omega arith)

type-queued : (past : Event) (t : EventType) (v : View) (e : Event) (at : ℕ) → at < length (dpad_type t v e).queued → type_at t v e at ≡ get_or (dpad_type t v e).queued at past
type-queued past (Axis n c x) v e at h = either-queued past (v.converts && is_hat n) (hat_gives v e n x) e _ at (gives-queued past v e n x at) h
type-queued past (Pressed n c) v e at h = absurd (omega arith)
type-queued past (Released n c) v e at h = absurd (omega arith)
type-queued past (Repeated n c) v e at h = absurd (omega arith)
type-queued past (Changed n c x) v e at h = absurd (omega arith)
type-queued past Connected v e at h = absurd (omega arith)
type-queued past Disconnected v e at h = absurd (omega arith)
type-queued past Dropped v e at h = absurd (omega arith)

pub queued-is : (past : Event) (v : View) (e : Event) (at : ℕ) → at < length (dpad_of v e).queued → queued_at v e at ≡ get_or (dpad_of v e).queued at past
unfolding dpad_of queued_at
queued-is past v e at h = type-queued past e.event v e at h
