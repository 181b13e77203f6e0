-- An event that waits comes back as it was: what a slot keeps of an event is all of it. By the event's cases.
use Rattle.std.specs.Prelude.{◌≡◌, refl}
use Rattle.std.proofs.Common.{ap}
use Rattle.rules.specs.declared.Event.{Event}
use Rattle.rules.specs.declared.EventType.{EventType}
use Rattle.rules.specs.declared.EventType.TheVariants.{Pressed, Released, Repeated, Changed, Axis, Connected, Disconnected, Dropped}
use Rattle.rules.specs.Events.{kind_type, name_type, code_type, value_type, kind_of, name_of, code_of, value_of, type_of, slot_of, event_of}

type-back : (t : EventType) → type_of (kind_type t) (name_type t) (code_type t) (value_type t) ≡ t
unfolding type_of
type-back (Pressed n c) = refl
type-back (Released n c) = refl
type-back (Repeated n c) = refl
type-back (Changed n c v) = refl
type-back (Axis n c v) = refl
type-back Connected = refl
type-back Disconnected = refl
type-back Dropped = refl

pub event-back : (e : Event) → event_of (slot_of e) ≡ e
unfolding event_of slot_of kind_of name_of code_of value_of
event-back e = ap (λ (t : EventType). record { pad = e.pad; time = e.time; event = t }) (type-back e.event)
