-- The filters: the hat's cases, jitter at its limit, every arm of the deadzone, and the order of the three.
use Rattle.std.specs.Prelude.{ℕ, ◌≡◌, refl, Bool, true, false, List, [], ◌∷◌, map, Float}
use Rattle.std.specs.Float.Ieee as Ieee
use Rattle.std.specs.Float.{binary32}
use Rattle.std.specs.Float.Ieee.{of_bits}
use Rattle.numbers.specs.Constants.{zero32, one32, minus_one32}
use Rattle.rules.specs.declared.Event.{Event}
use Rattle.rules.specs.declared.EventType.{EventType}
use Rattle.rules.specs.declared.EventType.TheVariants.{Pressed, Released, Repeated, Changed, Axis, Connected, Dropped}
use Rattle.rules.specs.declared.View.{View}
use Rattle.rules.specs.declared.Flags.{Flags}
use Rattle.rules.specs.declared.Partner.{Partner}
use Rattle.rules.specs.Names.{code_up, code_down, code_left, code_right, dpad_up, dpad_down, dpad_left, dpad_right, dpad_x, dpad_y, left_stick_x, left_stick_y}
use Rattle.rules.specs.Events.{WithQueued}
use Rattle.rules.specs.Filters.{Filtered, dpad_of, jittered_of, filtered_of, kept_of}
use Rattle.rules.specs.Examples.Table.{◌is◌, Right, event, half32, three_quarters32}

-- ---- what a filter may see

apart : Partner
apart = record { stands = false; code = 0; value = zero32 }

flagged : Bool → Bool → Flags
flagged own partner = record { own = own; partner = partner }

-- a pad that converts or not, with the positive and the negative direction pressed or not
hat_view : Bool → Bool → Bool → View
hat_view converts positive negative =
    record {
      converts = converts;
      positive = positive;
      negative = negative;
      stored = false;
      stick = zero32;
      dead = false;
      threshold = zero32;
      own = zero32;
      partner = apart;
      flags = flagged false false;
    }

-- a stored axis value
stored_view : Bool → Bool → Float → View
stored_view converts stored stick =
    record {
      converts = converts;
      positive = false;
      negative = false;
      stored = stored;
      stick = stick;
      dead = true;
      threshold = half32;
      own = stick;
      partner = apart;
      flags = flagged false false;
    }

-- an axis with a threshold of 0.5, or with none; the value that the state has for it; its partner, and the flags
dead_view : Bool → Float → Partner → Flags → View
dead_view dead own partner flags =
    record {
      converts = false;
      positive = false;
      negative = false;
      stored = false;
      stick = zero32;
      dead = dead;
      threshold = half32;
      own = own;
      partner = partner;
      flags = flags;
    }

-- an event and what is queued behind it
sent : WithQueued → List Event
sent g = g.event ∷ g.queued

events : List EventType → List Event
events ts = map (event 7) ts

-- the filters, their arithmetic open
filtered : Bool → View → EventType → Filtered
unfolding filtered_of Ieee.of_bits Ieee.add Ieee.sub Ieee.mul Ieee.div Ieee.lt Ieee.le Ieee.eq Ieee.ne Ieee.neg
filtered on v t = filtered_of on v (event 7 t)

-- ---- dpad: "Only exactly 1.0 and -1.0 press"

hat : ℕ → Float → Bool → Bool → List Event
hat n x positive negative = sent (dpad_of (hat_view true positive negative) (event 7 (Axis n 11 x)))

-- DPadX: an opposite that is still pressed is released before the new direction is pressed
hat-x :
    Right (
    hat dpad_x one32 false false is events (Pressed dpad_right code_right ∷ Changed dpad_right code_right one32 ∷ [])
    ∷ hat dpad_x one32 true false is events (Pressed dpad_right code_right ∷ Changed dpad_right code_right one32 ∷ [])
    ∷ hat dpad_x one32 false true
    is events
    (Released dpad_left code_left
    ∷ Changed dpad_right code_right one32
    ∷ Pressed dpad_right code_right
    ∷ Changed dpad_left code_left zero32
    ∷ [])
    ∷ hat dpad_x minus_one32 false false is events (Pressed dpad_left code_left ∷ Changed dpad_left code_left one32 ∷ [])
    ∷ hat dpad_x minus_one32 true false
    is events
    (Released dpad_right code_right
    ∷ Changed dpad_left code_left one32
    ∷ Pressed dpad_left code_left
    ∷ Changed dpad_right code_right zero32
    ∷ [])
    ∷ hat dpad_x zero32 false false is events (Dropped ∷ [])
    ∷ hat dpad_x zero32 true false is events (Released dpad_right code_right ∷ Changed dpad_right code_right zero32 ∷ [])
    ∷ hat dpad_x zero32 false true is events (Released dpad_left code_left ∷ Changed dpad_left code_left zero32 ∷ [])
    ∷ hat dpad_x zero32 true true
    is events
    (Released dpad_left code_left
    ∷ Changed dpad_right code_right zero32
    ∷ Released dpad_right code_right
    ∷ Changed dpad_left code_left zero32
    ∷ [])
    ∷ [])
unfolding hat hat_view apart flagged sent events dpad_of Ieee.of_bits Ieee.eq
hat-x = refl

-- DPadY: 1.0 is Up
hat-y :
    Right (
    hat dpad_y one32 false true
    is events (Released dpad_down code_down ∷ Changed dpad_up code_up one32 ∷ Pressed dpad_up code_up ∷ Changed dpad_down code_down zero32 ∷ [])
    ∷ hat dpad_y minus_one32 false false is events (Pressed dpad_down code_down ∷ Changed dpad_down code_down one32 ∷ [])
    ∷ hat dpad_y zero32 true true
    is events (Released dpad_down code_down ∷ Changed dpad_up code_up zero32 ∷ Released dpad_up code_up ∷ Changed dpad_down code_down zero32 ∷ [])
    ∷ [])
unfolding hat hat_view apart flagged sent events dpad_of Ieee.of_bits Ieee.eq
hat-y = refl

-- the value next below 1.0 releases
nearly : hat dpad_x (of_bits binary32 0x3f7fffff) true false ≡ events (Released dpad_right code_right ∷ Changed dpad_right code_right zero32 ∷ [])
unfolding hat hat_view apart flagged sent events dpad_of Ieee.of_bits Ieee.eq
nearly = refl

-- a pad that does not convert, a stick, and an event of no axis pass
unconverted :
    Right (
    sent (dpad_of (hat_view false false false) (event 7 (Axis dpad_x 11 one32))) is events (Axis dpad_x 11 one32 ∷ [])
    ∷ sent (dpad_of (hat_view true false false) (event 7 (Axis left_stick_x 11 one32))) is events (Axis left_stick_x 11 one32 ∷ [])
    ∷ sent (dpad_of (hat_view true false false) (event 7 (Changed dpad_left code_left one32))) is events (Changed dpad_left code_left one32 ∷ [])
    ∷ [])
unfolding hat_view apart flagged sent events dpad_of Ieee.of_bits Ieee.eq
unconverted = refl

-- ---- jitter: "An axis event, value not 0, closer than 0.01 to a stored axis value, is dropped"

jitter : Bool → Float → EventType → Event
jitter stored stick t = jittered_of (stored_view false stored stick) (event 7 t)

small : Float
small = of_bits binary32 0x3ba3d70a

-- a first 0.005 is kept, since nothing is stored; 0.0 passes; 0.01 itself is not closer than 0.01; a button's value is no axis event
jitters :
    Right (
    jitter false zero32 (Axis left_stick_x 11 small) is event 7 (Axis left_stick_x 11 small)
    ∷ jitter true zero32 (Axis left_stick_x 11 small) is event 7 Dropped
    ∷ jitter true small (Axis left_stick_x 11 zero32) is event 7 (Axis left_stick_x 11 zero32)
    ∷ jitter true zero32 (Axis left_stick_x 11 (of_bits binary32 0x3c23d709)) is event 7 Dropped
    ∷ jitter true zero32 (Axis left_stick_x 11 (of_bits binary32 0x3c23d70a)) is event 7 (Axis left_stick_x 11 (of_bits binary32 0x3c23d70a))
    ∷ jitter true zero32 (Axis left_stick_x 11 (of_bits binary32 0xbc23d709)) is event 7 Dropped
    ∷ jitter true zero32 (Axis left_stick_x 11 (of_bits binary32 0xbc23d70a)) is event 7 (Axis left_stick_x 11 (of_bits binary32 0xbc23d70a))
    ∷ jitter true zero32 (Changed 2 11 small) is event 7 (Changed 2 11 small)
    ∷ [])
unfolding jitter small stored_view apart flagged jittered_of Ieee.of_bits Ieee.sub Ieee.lt Ieee.ne Ieee.neg
jitters = refl

-- ---- deadzone

-- what the filters send, and the two flags after
record Outcome : Type 0 where
  events : List Event
  own : Bool
  partner : Bool

out : List EventType → Bool → Bool → Outcome
out ts own partner = record { events = map (event 7) ts; own = own; partner = partner }

outcome : Filtered → Outcome
outcome f = record { events = sent f.gives; own = f.flags.own; partner = f.flags.partner }

-- an event at threshold 0.5, from the value that the state has, the partner and the flags
zone : Float → Partner → Flags → EventType → Outcome
zone own partner flags t = outcome (filtered true (dead_view true own partner flags) t)

-- the partner LeftStickY, code 22, at a value
beside : Float → Partner
beside value = record { stands = true; code = 22; value = value }

quarter : Float
quarter = of_bits binary32 0x3e800000

-- "at or below the threshold (0, 0); else both times ((m - t) / (1 - t)) / m"; an event whose value the state has already is dropped; the flag says
-- whether the value sent last was other than 0
zones :
    Right (
    zone one32 (beside zero32) (flagged true false) (Axis left_stick_x 11 half32) is out (Axis left_stick_x 11 zero32 ∷ []) false false
    ∷ zone zero32 (beside zero32) (flagged false false) (Axis left_stick_x 11 quarter) is out (Dropped ∷ []) false false
    ∷ zone zero32 (beside zero32) (flagged false false) (Axis left_stick_x 11 three_quarters32)
    is out (Axis left_stick_x 11 half32 ∷ []) true false
    ∷ zone half32 (beside zero32) (flagged false true) (Axis left_stick_x 11 three_quarters32) is out (Dropped ∷ []) false true
    ∷ zone zero32 (beside one32) (flagged false true) (Axis left_stick_x 11 one32) is out (Axis left_stick_x 11 one32 ∷ []) true true
    ∷ [])
unfolding zone out outcome sent dead_view beside quarter flagged filtered
zones = refl

-- the clearing event: both in the dead zone, the partner's flag up and its value not 0; queued also behind a dropped event; once, since the flag falls
clears :
    Right (
    zone half32 (beside quarter) (flagged true true) (Axis left_stick_x 11 quarter)
    is out (Axis left_stick_x 11 zero32 ∷ Axis left_stick_y 22 zero32 ∷ []) false false
    ∷ zone zero32 (beside quarter) (flagged false true) (Axis left_stick_x 11 quarter) is out (Dropped ∷ Axis left_stick_y 22 zero32 ∷ []) false false
    ∷ zone half32 (beside quarter) (flagged true false) (Axis left_stick_x 11 quarter) is out (Axis left_stick_x 11 zero32 ∷ []) false false
    ∷ zone half32 (beside zero32) (flagged true true) (Axis left_stick_x 11 quarter) is out (Axis left_stick_x 11 zero32 ∷ []) false true
    ∷ zone half32 (beside half32) (flagged true true) (Axis left_stick_x 11 half32)
    is out (Axis left_stick_x 11 (of_bits binary32 0x3e95f619) ∷ []) true true
    ∷ [])
unfolding zone out outcome sent dead_view beside quarter flagged filtered
clears = refl

-- an axis whose partner no element has, LeftZ, which has none, and a trigger's value, whose flag and partner are not looked at
partnerless :
    Right (
    zone zero32 apart (flagged false false) (Axis left_stick_x 11 three_quarters32) is out (Axis left_stick_x 11 half32 ∷ []) true false
    ∷ zone half32 apart (flagged true true) (Axis left_stick_x 11 quarter) is out (Axis left_stick_x 11 zero32 ∷ []) false true
    ∷ zone zero32 apart (flagged false false) (Axis 35 11 three_quarters32) is out (Axis 35 11 half32 ∷ []) true false
    ∷ zone zero32 (beside one32) (flagged false true) (Changed 8 11 three_quarters32) is out (Changed 8 11 half32 ∷ []) false true
    ∷ zone half32 (beside quarter) (flagged true true) (Changed 8 11 three_quarters32) is out (Dropped ∷ []) true true
    ∷ zone half32 (beside quarter) (flagged true true) (Changed 8 11 quarter) is out (Changed 8 11 zero32 ∷ []) true true
    ∷ [])
unfolding zone out outcome sent dead_view beside apart quarter flagged filtered
partnerless = refl

-- "Elements without one pass", and so does an event of another kind
undeadened : EventType → Outcome
undeadened t = outcome (filtered true (dead_view false half32 (beside quarter) (flagged true true)) t)

passing :
    Right (
    undeadened (Axis left_stick_x 11 quarter) is out (Axis left_stick_x 11 quarter ∷ []) true true
    ∷ undeadened (Changed 8 11 half32) is out (Changed 8 11 half32 ∷ []) true true
    ∷ zone zero32 (beside quarter) (flagged true true) (Pressed 8 11) is out (Pressed 8 11 ∷ []) true true
    ∷ zone zero32 (beside quarter) (flagged true true) (Released 8 11) is out (Released 8 11 ∷ []) true true
    ∷ zone zero32 (beside quarter) (flagged true true) (Repeated 8 11) is out (Repeated 8 11 ∷ []) true true
    ∷ zone zero32 (beside quarter) (flagged true true) Connected is out (Connected ∷ []) true true
    ∷ [])
unfolding undeadened zone out outcome sent dead_view beside apart quarter flagged filtered
passing = refl

-- ---- "in the order dpad, jitter, deadzone", "if on"

-- 0.755 beside a stored 0.75: jitter drops it before the deadzone would make it 0.51
close : Float
close = of_bits binary32 0x3f4147ae

filter : Bool → Bool → Float → EventType → List Event
filter on converts stick t = sent (filtered on (stored_view converts true stick) t).gives

order :
    Right (
    filter true false three_quarters32 (Axis left_stick_x 11 close) is events (Dropped ∷ [])
    ∷ filter true true one32 (Axis dpad_x 11 one32) is events (Pressed dpad_right code_right ∷ Changed dpad_right code_right one32 ∷ [])
    ∷ filter true false zero32 (Axis left_stick_x 11 three_quarters32) is events (Axis left_stick_x 11 half32 ∷ [])
    ∷ filter false true three_quarters32 (Axis dpad_x 11 three_quarters32) is events (Axis dpad_x 11 three_quarters32 ∷ [])
    ∷ [])
unfolding filter close stored_view events apart flagged sent filtered
order = refl

-- "a dropped one is skipped (filters on)"
kept :
    Right (
    kept_of true (event 7 Dropped) is false
    ∷ kept_of false (event 7 Dropped) is true
    ∷ kept_of true (event 7 (Pressed 1 11)) is true
    ∷ kept_of false (event 7 (Pressed 1 11)) is true
    ∷ [])
unfolding kept_of
kept = refl
