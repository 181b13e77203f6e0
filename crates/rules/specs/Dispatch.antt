-- Dispatch: what a raw record gives, gilrs's `next_event_priv`. Definitions only.
use Rattle.std.specs.Prelude.{ℕ, Bool, true, false, cond, not, ◌&&◌, eqb, Float}
use Rattle.std.specs.Float.Ieee.{le}
use Rattle.numbers.specs.Constants.{zero32, one32}
use Rattle.numbers.specs.Scale.{axis_scaled_of, button_scaled_of}
use Rattle.rules.specs.declared.Event.{Event}
use Rattle.rules.specs.declared.EventType.{EventType}
use Rattle.rules.specs.declared.EventType.TheVariants.{Pressed, Released, Changed, Axis, Connected, Disconnected}
use Rattle.rules.specs.declared.RawRecord.{RawRecord}
use Rattle.rules.specs.declared.Element.{Element}
use Rattle.rules.specs.declared.Dispatched.{Dispatched}
use Rattle.rules.specs.Names.{is_button, is_axis, is_y, unknown_button, unknown_axis}
use Rattle.rules.specs.Forms.{kind_pressed, kind_released, kind_axis, kind_connected}

-- ---- a record's kind, read once

pub data Move : Type 0 where
  pressing : Bool → Move
  moving : Move
  joining : Move
  leaving : Move

unfoldable pub move_of : ℕ → Move
move_of kind =
    cond (eqb kind kind_pressed) (pressing true)
    (cond (eqb kind kind_released) (pressing false)
    (cond (eqb kind kind_axis) moving
    (cond (eqb kind kind_connected) joining leaving)))

-- ---- names: "unnamed elements are Unknown"

unfoldable pub button_name : ℕ → ℕ
unfolding is_button
button_name n = cond (is_button n) n unknown_button

unfoldable pub axis_name : ℕ → ℕ
unfolding is_axis
axis_name n = cond (is_axis n) n unknown_axis

-- ---- a button element

abbrev pub press_type : Bool → ℕ → ℕ → EventType
press_type true n c = Pressed n c
press_type false n c = Released n c

abbrev pub amount : Bool → Float
amount true = one32
amount false = zero32

-- an event of the record's pad and time
abbrev pub from : RawRecord → EventType → Event
from r t = record { pad = r.pad; time = r.time; event = t }

-- an event with nothing queued, and one with another queued
abbrev pub single : Event → Dispatched
single e = record { event = e; follows = false; next = e }

abbrev pub double : Event → Event → Dispatched
double e a = record { event = e; follows = true; next = a }

-- "Press of a button element: Pressed out, Changed 1.0 queued; release the same with 0.0; .. an element named as an axis gives that axis 1.0 or 0.0"
unfoldable pub press_gives : RawRecord → ℕ → Bool → Dispatched
unfolding is_axis button_name
press_gives r n on =
    cond (is_axis n) (single (from r (Axis n r.code (amount on))))
    (double (from r (press_type on (button_name n) r.code)) (from r (Changed (button_name n) r.code (amount on))))

-- ---- an axis element

-- "at or above the pressed threshold and not pressed, Pressed out and Changed queued; at or below released and pressed, Released and Changed;
-- else Changed"
abbrev pub trigger_by : Bool → Bool → RawRecord → ℕ → Float → Dispatched
trigger_by true down r n v = double (from r (Pressed n r.code)) (from r (Changed n r.code v))
trigger_by false true r n v = double (from r (Released n r.code)) (from r (Changed n r.code v))
trigger_by false false r n v = single (from r (Changed n r.code v))

unfoldable pub trigger_gives : RawRecord → ℕ → Float → Bool → Float → Float → Dispatched
trigger_gives r n v held pressed released = trigger_by (le pressed v && not held) (le v released && held) r n v

unfoldable pub move_gives : RawRecord → ℕ → Element → Bool → Float → Float → Bool → Dispatched
unfolding is_button is_y axis_name axis_scaled_of button_scaled_of trigger_gives
move_gives r n e held pressed released reversed =
    cond (is_button n) (trigger_gives r n (button_scaled_of e.low e.range r.value) held pressed released)
    (single
    (from r
    (Axis (axis_name n) r.code (axis_scaled_of e.low e.range e.odd (reversed && is_y (axis_name n)) r.value))))

-- ---- every kind

abbrev pub dispatch_by : Move → RawRecord → ℕ → Element → Bool → Float → Float → Bool → Dispatched
dispatch_by (pressing on) r n e held pressed released reversed = press_gives r n on
dispatch_by moving r n e held pressed released reversed = move_gives r n e held pressed released reversed
dispatch_by joining r n e held pressed released reversed = single (from r Connected)
dispatch_by leaving r n e held pressed released reversed = single (from r Disconnected)

-- n: the element's present name; e: what the hub keeps of it; held: whether its code reads pressed
unfoldable pub dispatch_of : RawRecord → ℕ → Element → Bool → Float → Float → Bool → Dispatched
unfolding move_of press_gives move_gives
dispatch_of r n e held pressed released reversed = dispatch_by (move_of r.kind) r n e held pressed released reversed
