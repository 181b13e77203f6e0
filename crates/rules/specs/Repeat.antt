-- Repeat: gilrs's `Repeat`, with the clock as input and the order fixed: connected pads by number, codes rising. Definitions only.
use Rattle.std.specs.Prelude.{ℕ, zero, suc, ◌+◌, ◌-◌, ◌/◌, Bool, true, false, cond, ◌&&◌, List, get_or, ltb, leb, Err, None, Ok, Option, Result, Some}
use Rattle.rules.specs.declared.Hub.{Hub}
use Rattle.rules.specs.declared.Event.{Event}
use Rattle.rules.specs.declared.EventType.TheVariants.{Repeated}
use Rattle.rules.specs.declared.ButtonData.{ButtonData}
use Rattle.rules.specs.declared.Refusal.{Refusal}
use Rattle.rules.specs.Names.{places_per_pad, nowhere}
use Rattle.rules.specs.Refusals.{repeat_refusal, numbered}
use Rattle.rules.specs.Places.{present_names}
use Rattle.rules.specs.Dispatch.{button_name}
use Rattle.rules.specs.Hub.{name_in, button_at, past_button}

-- how long a record waits: `after` for the first repeat, `every` from then on
unfoldable pub wait_of : ButtonData → ℕ → ℕ → ℕ
wait_of b after every = cond b.repeating every after

-- "A stamp later than now is not due"
unfoldable pub due_of : Bool → ButtonData → ℕ → ℕ → ℕ → Bool
unfolding wait_of
due_of known b after every now = known && (b.pressed && (leb b.stamp now && leb (wait_of b after every) (now - b.stamp)))

-- the first due of the n places from k on; place order is pads by number and codes rising
unfoldable pub first_due : List Bool → List Bool → List ButtonData → ℕ → ℕ → ℕ → ℕ → ℕ → ℕ
unfolding due_of
first_due connected hasbutton buttons after every now zero k = nowhere
first_due connected hasbutton buttons after every now (suc n) k =
    cond (get_or connected (k / places_per_pad) false && due_of (get_or hasbutton k false) (get_or buttons k past_button) after every now)
    k
    (first_due connected hasbutton buttons after every now n (k + 1))

-- "The time is its stamp plus after or every"; "The name is the code's present button name, else Unknown"
unfoldable pub repeated_of : ℕ → ℕ → ℕ → ButtonData → ℕ → ℕ → Event
unfolding wait_of button_name
repeated_of p name code b after every = record { pad = p; time = b.stamp + wait_of b after every; event = Repeated (button_name name) code }

unfoldable pub repeated_at : Hub → ℕ → ℕ → ℕ → Event
unfolding repeated_of present_names
repeated_at h k after every =
    repeated_of (k / places_per_pad) (name_in h (k / places_per_pad) k) (get_or h.codes k 0) (button_at h k) after every

unfoldable pub due_place : Hub → ℕ → ℕ → ℕ → ℕ
unfolding first_due
due_place h after every now = first_due h.connected h.hasbutton h.buttons after every now nowhere 0

abbrev pub repeat_by : ℕ → Bool → Event → Result (Option Event) Refusal
repeat_by zero true e = Ok (Some e)
repeat_by zero false e = Ok None
repeat_by (suc number) found e = Err (numbered (suc number))

unfoldable pub repeat_of : Hub → ℕ → ℕ → ℕ → Result (Option Event) Refusal
unfolding repeat_refusal due_place repeated_at
repeat_of h after every now =
    repeat_by (repeat_refusal after every now) (ltb (due_place h after every now) nowhere) (repeated_at h (due_place h after every now) after every)
