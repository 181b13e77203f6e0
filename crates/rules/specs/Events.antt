-- Events: their numbers, how one waits in the queue and comes back, its bytes, and what an event with others queued behind it is.
-- Definitions only.
use Rattle.std.specs.Prelude.{ℕ, Bool, true, false, cond, List, [], ◌∷◌, eqb, Float}
use Rattle.std.specs.Float.{binary32}
use Rattle.std.specs.Float.Ieee.{of_bits, to_bits}
use Rattle.numbers.specs.Constants.{zero32}
use Rattle.rules.specs.declared.Event.{Event}
use Rattle.rules.specs.declared.EventType.{EventType}
use Rattle.rules.specs.declared.EventType.TheVariants.{Pressed, Released, Repeated, Changed, Axis, Connected, Disconnected, Dropped}
use Rattle.rules.specs.declared.EventForm.{EventForm}
use Rattle.rules.specs.declared.Slot.{Slot}
use Rattle.rules.specs.Names.{no_name}
use Rattle.rules.specs.Forms.{form_bytes, event_pressed, event_released, event_repeated, event_changed, event_axis, event_connected, event_disconnected, event_dropped}

-- ---- what an event holds, by its cases

abbrev pub kind_type : EventType → ℕ
kind_type (Pressed n c) = event_pressed
kind_type (Released n c) = event_released
kind_type (Repeated n c) = event_repeated
kind_type (Changed n c v) = event_changed
kind_type (Axis n c v) = event_axis
kind_type Connected = event_connected
kind_type Disconnected = event_disconnected
kind_type Dropped = event_dropped

abbrev pub name_type : EventType → ℕ
name_type (Pressed n c) = n
name_type (Released n c) = n
name_type (Repeated n c) = n
name_type (Changed n c v) = n
name_type (Axis n c v) = n
name_type Connected = no_name
name_type Disconnected = no_name
name_type Dropped = no_name

abbrev pub code_type : EventType → ℕ
code_type (Pressed n c) = c
code_type (Released n c) = c
code_type (Repeated n c) = c
code_type (Changed n c v) = c
code_type (Axis n c v) = c
code_type Connected = 0
code_type Disconnected = 0
code_type Dropped = 0

-- "Value only in 4 and 5, else 0"
abbrev pub value_type : EventType → Float
value_type (Pressed n c) = zero32
value_type (Released n c) = zero32
value_type (Repeated n c) = zero32
value_type (Changed n c v) = v
value_type (Axis n c v) = v
value_type Connected = zero32
value_type Disconnected = zero32
value_type Dropped = zero32

unfoldable pub kind_of : Event → ℕ
kind_of e = kind_type e.event

unfoldable pub name_of : Event → ℕ
name_of e = name_type e.event

unfoldable pub code_of : Event → ℕ
code_of e = code_type e.event

unfoldable pub value_of : Event → Float
value_of e = value_type e.event

-- the event of a kind, its name, code and value
unfoldable pub type_of : ℕ → ℕ → ℕ → Float → EventType
type_of kind n c v =
    cond (eqb kind event_pressed) (Pressed n c)
    (cond (eqb kind event_released) (Released n c)
    (cond (eqb kind event_repeated) (Repeated n c)
    (cond (eqb kind event_changed) (Changed n c v)
    (cond (eqb kind event_axis) (Axis n c v)
    (cond (eqb kind event_connected) Connected
    (cond (eqb kind event_disconnected) Disconnected Dropped))))))

-- ---- an event as it waits

unfoldable pub slot_of : Event → Slot
unfolding kind_of name_of code_of value_of
slot_of e = record { kind = kind_of e; pad = e.pad; name = name_of e; code = code_of e; value = value_of e; time = e.time }

unfoldable pub event_of : Slot → Event
unfolding type_of
event_of s = record { pad = s.pad; time = s.time; event = type_of s.kind s.name s.code s.value }

-- ---- an event's 22 bytes

unfoldable pub form_of : Event → EventForm
unfolding kind_of name_of code_of value_of
form_of e =
    record { kind = kind_of e; pad = e.pad; name = name_of e; code = code_of e; bits = to_bits binary32 (value_of e); time = e.time }

unfoldable pub event_bytes : Event → List ℕ
unfolding form_of form_bytes
event_bytes e = form_bytes (form_of e)

-- the event of a form whose value is in limits
unfoldable pub form_event : EventForm → Event
unfolding type_of
form_event f = record { pad = f.pad; time = f.time; event = type_of f.kind f.name f.code (of_bits binary32 f.bits) }

-- ---- Dropped

abbrev pub dropped_type : EventType → Bool
dropped_type (Pressed n c) = false
dropped_type (Released n c) = false
dropped_type (Repeated n c) = false
dropped_type (Changed n c v) = false
dropped_type (Axis n c v) = false
dropped_type Connected = false
dropped_type Disconnected = false
dropped_type Dropped = true

unfoldable pub is_dropped : Event → Bool
is_dropped e = dropped_type e.event

-- `Event::drop`
abbrev pub dropped : Event → Event
dropped e = record { pad = e.pad; time = e.time; event = Dropped }

-- another event of the same pad and time: gilrs's `..ev`
abbrev pub with : Event → EventType → Event
with e t = record { pad = e.pad; time = e.time; event = t }

-- ---- an event and what is queued behind it, in order

pub record WithQueued : Type 0 where
  pub event : Event
  pub queued : List Event

-- an event to queue, where there is one
abbrev pub event_if : Bool → Event → List Event
event_if there e = cond there (e ∷ []) []

abbrev pub alone : Event → WithQueued
alone e = record { event = e; queued = [] }

abbrev pub followed : Event → Event → WithQueued
followed e a = record { event = e; queued = a ∷ [] }

abbrev pub followed_by_three : Event → Event → Event → Event → WithQueued
followed_by_three e a b c = record { event = e; queued = a ∷ b ∷ c ∷ [] }
