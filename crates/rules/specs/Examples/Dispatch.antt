-- Dispatch: every arm of `next_event_priv`.
use Rattle.std.specs.Prelude.{ℕ, ◌≡◌, refl, Bool, true, false, [], ◌∷◌, map, ℤ, pos, negsuc}
use Rattle.std.specs.Float.Ieee as Ieee
use Rattle.std.specs.Float.{binary32}
use Rattle.std.specs.Float.Ieee.{of_bits}
use Rattle.numbers.specs.Constants.{zero32, one32, minus_one32}
use Rattle.rules.specs.declared.EventType.{EventType}
use Rattle.rules.specs.declared.EventType.TheVariants.{Pressed, Released, Changed, Axis, Connected, Disconnected}
use Rattle.rules.specs.declared.RawRecord.{RawRecord}
use Rattle.rules.specs.declared.Element.{Element}
use Rattle.rules.specs.declared.Dispatched.{Dispatched}
use Rattle.rules.specs.Places.{no_element, axis_element}
use Rattle.rules.specs.Dispatch.{dispatch_of, single, double}
use Rattle.rules.specs.Examples.Table.{◌is◌, Right, axis, event, half32, three_quarters32}

-- a record of pad 0 and code 11, at 7
raw : ℕ → ℤ → RawRecord
raw kind value = record { kind = kind; pad = 0; code = 11; value = value; time = 7 }

-- an event of the record's pad and time, alone or with another queued
one : EventType → Dispatched
one t = single (event 7 t)

two : EventType → EventType → Dispatched
two t u = double (event 7 t) (event 7 u)

-- dispatch with thresholds 0.75 and 0.5, its arithmetic open: the record, the element's name and what is kept of it, whether its code reads pressed, and
-- whether Y is reversed
dispatched : RawRecord → ℕ → Element → Bool → Bool → Dispatched
unfolding dispatch_of axis_element Ieee.of_bits Ieee.of_int Ieee.add Ieee.sub Ieee.mul Ieee.div Ieee.lt Ieee.le Ieee.ne Ieee.neg
dispatched r name element held reversed = dispatch_of r name element held three_quarters32 half32 reversed

-- ---- button elements

-- what a record of a kind gives, for a button element of a name, Y reversed
from_button : ℕ → ℕ → Dispatched
from_button kind name = dispatched (raw kind (pos 0)) name no_element false true

-- "Press of a button element: Pressed out, Changed 1.0 queued; release the same with 0.0; unnamed elements are Unknown; an element named as an axis gives
-- that axis 1.0 or 0.0", never negated
presses :
    Right (
    from_button 1 2 is two (Pressed 2 11) (Changed 2 11 one32)
    ∷ from_button 2 2 is two (Released 2 11) (Changed 2 11 zero32)
    ∷ from_button 1 255 is two (Pressed 0 11) (Changed 0 11 one32)
    ∷ from_button 2 255 is two (Released 0 11) (Changed 0 11 zero32)
    ∷ from_button 1 40 is one (Axis 40 11 one32)
    ∷ from_button 2 40 is one (Axis 40 11 zero32)
    ∷ [])
unfolding from_button one two raw dispatched
presses = refl

-- ---- "Connected", "Disconnected"

joins : Right (from_button 4 255 is one Connected ∷ from_button 5 255 is one Disconnected ∷ [])
unfolding from_button one raw dispatched
joins = refl

-- ---- axis elements named as an axis, or unnamed

-- what a raw value gives, for an axis element of a name and range
from_axis : ℕ → ℤ → ℤ → Bool → ℤ → Dispatched
from_axis name min max reversed value =
    dispatched (raw 3 value) name (axis_element (axis 11 name min max 0xffffffff)) false reversed

-- "names 34, 37, 40 are negated if the hub says Y reversed and the value is not 0"; an odd range is scaled by the odd rule: 127 of 0..255 is 0.0
moves :
    Right (
    from_axis 33 (negsuc 0) (pos 1) true (pos 1) is one (Axis 33 11 one32)
    ∷ from_axis 34 (negsuc 0) (pos 1) false (pos 1) is one (Axis 34 11 one32)
    ∷ from_axis 34 (negsuc 0) (pos 1) true (pos 1) is one (Axis 34 11 minus_one32)
    ∷ from_axis 34 (negsuc 0) (pos 1) true (pos 0) is one (Axis 34 11 zero32)
    ∷ from_axis 255 (negsuc 0) (pos 1) true (pos 1) is one (Axis 32 11 one32)
    ∷ from_axis 33 (pos 0) (pos 255) false (pos 127) is one (Axis 33 11 zero32)
    ∷ [])
unfolding from_axis one raw dispatched
moves = refl

-- ---- axis elements named as a button: "at or above the pressed threshold and not pressed, Pressed out and Changed queued; at or below released and
-- pressed, Released and Changed; else Changed"

-- a trigger of 0..4 named East, with thresholds 0.75 and 0.5
pulled : Bool → ℤ → Dispatched
pulled held value = dispatched (raw 3 value) 2 (axis_element (axis 11 2 (pos 0) (pos 4) 0xffffffff)) held true

triggers :
    Right (
    pulled false (pos 4) is two (Pressed 2 11) (Changed 2 11 one32)
    ∷ pulled false (pos 3) is two (Pressed 2 11) (Changed 2 11 three_quarters32)
    ∷ pulled true (pos 3) is one (Changed 2 11 three_quarters32)
    ∷ pulled true (pos 2) is two (Released 2 11) (Changed 2 11 half32)
    ∷ pulled false (pos 2) is one (Changed 2 11 half32)
    ∷ pulled true (pos 0) is two (Released 2 11) (Changed 2 11 zero32)
    ∷ [])
unfolding pulled one two raw dispatched
triggers = refl

-- between the thresholds Changed alone, held or not: 5/8 of 0..8
between :
    map
    (λ (held : Bool). dispatched (raw 3 (pos 5)) 2 (axis_element (axis 11 2 (pos 0) (pos 8) 0xffffffff)) held false)
    (false ∷ true ∷ [])
    ≡ (one (Changed 2 11 (of_bits binary32 0x3f200000)) ∷ one (Changed 2 11 (of_bits binary32 0x3f200000)) ∷ [])
unfolding one raw dispatched
between = refl

-- "with no odd rule": a trigger of odd range 0..255 rests at 0.0, and its end is 1.0
no-odd-rule :
    Right (
    from_axis 8 (pos 0) (pos 255) false (pos 0) is one (Changed 8 11 zero32)
    ∷ from_axis 8 (pos 0) (pos 255) false (pos 255) is two (Pressed 8 11) (Changed 8 11 one32)
    ∷ [])
unfolding from_axis one two raw dispatched
no-odd-rule = refl
