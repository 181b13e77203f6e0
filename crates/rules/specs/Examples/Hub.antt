-- What is read of the hub, and the ring of waiting events.
use Rattle.std.specs.Prelude.{◌≡◌, refl, true, false, List, [], ◌∷◌, set, replicate, pos}
use Rattle.numbers.specs.Constants.{zero32, one32}
use Rattle.rules.specs.declared.Hub.{Hub}
use Rattle.rules.specs.declared.Slot.{Slot}
use Rattle.rules.specs.declared.Event.{Event}
use Rattle.rules.specs.declared.EventType.TheVariants.{Pressed, Axis, Dropped}
use Rattle.rules.specs.Names.{code_right}
use Rattle.rules.specs.Events.{slot_of}
use Rattle.rules.specs.Hub.{flag_place, view_of, front_of, queue_after, waiting_after}
use Rattle.rules.specs.Calls.{blank_slot, insert_of}
use Rattle.rules.specs.Examples.Table.{◌is◌, Right, event, half32}
use Rattle.rules.specs.Examples.Desk.{desk, raw, move, after, stick_x, stick_y, hat_x, south, given, events_bytes}

-- ---- a pad's six deadzone flags; past the 24 for an axis that has none, and for a pad that is none

flags : Right (flag_place 0 39 is 0 ∷ flag_place 1 33 is 8 ∷ flag_place 3 37 is 23 ∷ flag_place 0 35 is 24 ∷ flag_place 0 19 is 24 ∷ flag_place 4 33 is 24 ∷ [])
unfolding flag_place
flags = refl

-- ---- what the filters see

-- LeftStickY stands at 1.0: "the partner read from the state"
tilted : Hub
tilted = given (desk true true) (event 5 (Axis 34 stick_y one32) ∷ [])

stick-seen :
    view_of tilted (event 7 (Axis 33 stick_x one32))
    ≡ record {
      converts = true;
      positive = false;
      negative = false;
      stored = false;
      stick = zero32;
      dead = true;
      threshold = half32;
      own = zero32;
      partner = record { stands = true; code = stick_y; value = one32 };
      flags = record { own = false; partner = false };
    }
unfolding tilted given desk view_of
stick-seen = refl

-- what jitter compares with: the axis record of the event's own code
other-seen : (view_of tilted (event 7 (Axis 34 stick_y half32))).stick ≡ one32
unfolding tilted given desk view_of
other-seen = refl

-- a move out of the dead zone puts the axis's flag up: of the stick, LeftStickX's own and LeftStickY's partner
flags-seen :
    Right (
    (view_of (after (desk true true) (move stick_x (pos 4) 5)) (event 7 (Axis 33 stick_x one32))).flags is record { own = true; partner = false }
    ∷ (view_of (after (desk true true) (move stick_x (pos 4) 5)) (event 7 (Axis 34 stick_y one32))).flags is record { own = false; partner = true }
    ∷ [])
unfolding after desk raw view_of
flags-seen = refl

-- Right is pressed; DPadY has no element, so DPadX has no partner
hat-seen :
    view_of (given (desk true true) (event 5 (Pressed 19 code_right) ∷ [])) (event 7 (Axis 39 hat_x one32))
    ≡ record {
      converts = true;
      positive = true;
      negative = false;
      stored = false;
      stick = zero32;
      dead = true;
      threshold = zero32;
      own = zero32;
      partner = record { stands = false; code = 0; value = zero32 };
      flags = record { own = false; partner = false };
    }
unfolding given desk view_of
hat-seen = refl

-- a button's code has no threshold, and what it reads is its button record
button-seen :
    view_of (given (desk true true) (event 5 (Pressed 1 south) ∷ [])) (event 7 (Pressed 1 south))
    ≡ record {
      converts = true;
      positive = false;
      negative = false;
      stored = false;
      stick = zero32;
      dead = false;
      threshold = zero32;
      own = one32;
      partner = record { stands = false; code = 0; value = zero32 };
      flags = record { own = false; partner = false };
    }
unfolding given desk view_of
button-seen = refl

-- ---- the ring

a : Event
a = event 1 (Pressed 1 11)

b : Event
b = event 2 (Pressed 2 12)

ring : List Slot
ring = replicate 64 blank_slot

-- with one waiting at 62, two more go to 63 and, around the end, to 0
around : queue_after ring 62 1 (a ∷ b ∷ []) ≡ set (set ring 63 (slot_of a)) 0 (slot_of b)
unfolding queue_after slot_of ring a b
around = refl

-- "The queue holds 64"
waits : Right (waiting_after 0 (a ∷ b ∷ []) is 2 ∷ waiting_after 62 (a ∷ b ∷ []) is 64 ∷ waiting_after 64 (a ∷ []) is 64 ∷ [])
unfolding waiting_after
waits = refl

-- the front is the event that was queued first
front : front_of (insert_of (insert_of (desk true true) (events_bytes (event 1 (Pressed 1 south) ∷ []))).hub (events_bytes (event 2 Dropped ∷ []))).hub
    ≡ event 1 (Pressed 1 south)
unfolding front_of insert_of desk events_bytes
front = refl
