-- An event that is dropped updates nothing.
use Rattle.std.specs.Prelude.{ℕ, ◌≡◌, refl, Bool, true, false, not, ◌&&◌}
use Rattle.std.proofs.Common.{sym}
use Rattle.std.proofs.Math.Bool.{or-false}
use Rattle.std.proofs.lemmas.List.{set-get_or}
use Rattle.rules.specs.declared.Hub.{Hub}
use Rattle.rules.specs.declared.Event.{Event}
use Rattle.rules.specs.declared.EventType.{EventType}
use Rattle.rules.specs.declared.EventType.TheVariants.{Pressed, Released, Repeated, Changed, Axis, Connected, Disconnected, Dropped}
use Rattle.rules.specs.Events.{dropped_type, is_dropped}
use Rattle.rules.specs.Filters.{kept_of}
use Rattle.rules.specs.State.{button_after, axis_after, writes_button, writes_axis, read_pressed}
use Rattle.rules.specs.Down.{bits_after, counts_after}
use Rattle.rules.specs.Hub.{pressed_at}
use Rattle.rules.specs.Step.{followed_at, updated_at, updated_of}
use Rattle.down.specs.Down.{unmoved}

-- ---- a dropped event

only-dropped : (t : EventType) → dropped_type t ≡ true → t ≡ Dropped
only-dropped Dropped e = refl
only-dropped (Pressed n c) e = cc
only-dropped (Released n c) e = cc
only-dropped (Repeated n c) e = cc
only-dropped (Changed n c v) e = cc
only-dropped (Axis n c v) e = cc
only-dropped Connected e = cc
only-dropped Disconnected e = cc

was-dropped : (on d : Bool) → not (on && d) ≡ false → d ≡ true
was-dropped true true e = refl
was-dropped true false e = sym e
was-dropped false d e = cc

same_by : (on : Bool) (h : Hub) (e : Event) (k : ℕ) → e.event ≡ Dropped → updated_at on h e k ≡ h
unfolding updated_at button_after axis_after writes_button writes_axis read_pressed pressed_at followed_at bits_after counts_after
same_by true h e k d = rw (d, or-false, or-false, set-get_or, set-get_or, set-get_or, set-get_or, unmoved, unmoved)
same_by false h e k d = rw (or-false, or-false, set-get_or, set-get_or, set-get_or, set-get_or, unmoved, unmoved)

pub dropped-same : (filters on : Bool) (h : Hub) (e : Event) → kept_of filters e ≡ false → updated_of on h e ≡ h
unfolding kept_of is_dropped updated_of
dropped-same filters on h e k = same_by on h e _ (only-dropped e.event (was-dropped filters (dropped_type e.event) k))
