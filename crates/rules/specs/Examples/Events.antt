-- Events: the numbers of the eight kinds, how one waits and comes back, and its bytes.
use Rattle.std.specs.Prelude.{ℕ, ◌≡◌, refl, true, false, List, [], ◌∷◌, map}
use Rattle.std.specs.Float.Ieee as Ieee
use Rattle.std.specs.Float.Ieee.{of_bits}
use Rattle.numbers.specs.Constants.{one32, minus_one32}
use Rattle.rules.specs.declared.Event.{Event}
use Rattle.rules.specs.declared.EventType.TheVariants.{Pressed, Released, Repeated, Changed, Axis, Connected, Disconnected, Dropped}
use Rattle.rules.specs.declared.EventForm.{EventForm}
use Rattle.rules.specs.Events.{kind_of, name_of, code_of, slot_of, event_of, form_of, form_event, event_bytes, is_dropped, event_if, alone, followed, followed_by_three}
use Rattle.rules.specs.Examples.Table.{◌is◌, Right, event}

-- one event of each kind, in 01's order
eight : List Event
eight =
    map (event 7)
    (Pressed 1 11
    ∷ Released 2 12
    ∷ Repeated 3 13
    ∷ Changed 4 14 one32
    ∷ Axis 33 15 minus_one32
    ∷ Connected
    ∷ Disconnected
    ∷ Dropped
    ∷ [])

-- "kind (1 pressed, 2 released, 3 repeated, 4 changed, 5 axis, 6 connected, 7 disconnected, 8 dropped)"
kinds : map kind_of eight ≡ (1 ∷ 2 ∷ 3 ∷ 4 ∷ 5 ∷ 6 ∷ 7 ∷ 8 ∷ [])
unfolding eight kind_of
kinds = refl

-- "kinds 6 to 8 have name 255 and code 0"
names : map name_of eight ≡ (1 ∷ 2 ∷ 3 ∷ 4 ∷ 33 ∷ 255 ∷ 255 ∷ 255 ∷ [])
unfolding eight name_of
names = refl

codes : map code_of eight ≡ (11 ∷ 12 ∷ 13 ∷ 14 ∷ 15 ∷ 0 ∷ 0 ∷ 0 ∷ [])
unfolding eight code_of
codes = refl

-- "Value only in 4 and 5, else 0"
bits : EventForm → ℕ
bits f = f.bits

values : map (λ (e : Event). bits (form_of e)) eight ≡ (0 ∷ 0 ∷ 0 ∷ 0x3f800000 ∷ 0xbf800000 ∷ 0 ∷ 0 ∷ 0 ∷ [])
unfolding eight bits form_of Ieee.of_bits Ieee.to_bits
values = refl

-- an event that waited is the event that was queued, and one read from its form is the event that was written
back-from-waiting : map (λ (e : Event). event_of (slot_of e)) eight ≡ eight
unfolding eight event_of slot_of
back-from-waiting = refl

back-from-form : map (λ (e : Event). form_event (form_of e)) eight ≡ eight
unfolding eight form_event form_of Ieee.of_bits Ieee.to_bits
back-from-form = refl

-- the bytes of Changed 4, code 14, 1.0, pad 0, at 7
changed-bytes :
    event_bytes (event 7 (Changed 4 14 one32))
    ≡ (0 ∷ 20 ∷ 1 ∷ 4 ∷ 0 ∷ 4 ∷ 0 ∷ 0 ∷ 0 ∷ 14 ∷ 0x3f ∷ 0x80 ∷ 0 ∷ 0 ∷ 0 ∷ 0 ∷ 0 ∷ 0 ∷ 0 ∷ 0 ∷ 0 ∷ 7 ∷ [])
unfolding event_bytes Ieee.of_bits Ieee.to_bits
changed-bytes = refl

-- Dropped alone is dropped
drops : map is_dropped eight ≡ (false ∷ false ∷ false ∷ false ∷ false ∷ false ∷ false ∷ true ∷ [])
unfolding eight is_dropped
drops = refl

-- what is queued behind an event, in order
queued :
    Right (
    event_if true (event 7 Connected) is (event 7 Connected ∷ [])
    ∷ event_if false (event 7 Connected) is []
    ∷ (alone (event 7 Connected)).queued is []
    ∷ (followed (event 7 Connected) (event 8 Dropped)).queued is (event 8 Dropped ∷ [])
    ∷ (followed_by_three (event 7 Connected) (event 1 Dropped) (event 2 Dropped) (event 3 Dropped)).queued
    is (event 1 Dropped ∷ event 2 Dropped ∷ event 3 Dropped ∷ [])
    ∷ [])
queued = refl
