-- What is read of the hub, and the queue of waiting events: a ring of 64 places, taken from the front without moving the others.
-- Everything is defined on any hub, whatever its fields hold; past an array's end stands what the lists below say. Definitions only.
use Rattle.std.specs.Prelude.{ℕ, ◌+◌, ◌*◌, ◌%◌, Bool, false, cond, ◌&&◌, List, [], ◌∷◌, get_or, set, eqb, ltb, Float}
use Rattle.std.specs.Float.{nan}
use Rattle.rules.specs.declared.Hub.{Hub}
use Rattle.rules.specs.declared.Event.{Event}
use Rattle.rules.specs.declared.Slot.{Slot}
use Rattle.rules.specs.declared.Element.{Element}
use Rattle.rules.specs.declared.ButtonData.{ButtonData}
use Rattle.rules.specs.declared.AxisData.{AxisData}
use Rattle.rules.specs.declared.View.{View}
use Rattle.rules.specs.Names.{pad_limit, nowhere, no_name, queue_room, flags_per_pad, flag_of, partner_of, is_hat, positive_code, negative_code}
use Rattle.rules.specs.Sheets.{element_axis, zoned_of}
use Rattle.rules.specs.Places.{place_of, named_of, present_names}
use Rattle.rules.specs.Events.{name_of, code_of, slot_of, event_of}
use Rattle.rules.specs.State.{read_pressed, read_value}

-- ---- what an array has past its end

abbrev pub past_button : ButtonData
past_button = record { value = nan; stamp = 0; counter = 0; pressed = false; repeating = false; since = 0 }

abbrev pub past_axis : AxisData
past_axis = record { value = nan; stamp = 0; counter = 0 }

abbrev pub past_element : Element
past_element = record { low = nan; range = nan; odd = false; threshold = nan }

abbrev pub past_slot : Slot
past_slot = record { kind = 0; pad = 0; name = 0; code = 0; value = nan; time = 0 }

-- ---- places

abbrev pub place_in : Hub → ℕ → ℕ → ℕ
place_in h p c = place_of h.codes p c

abbrev pub names_in : Hub → ℕ → List ℕ
names_in h p = present_names h.names h.renames h.renamed p

abbrev pub kind_at : Hub → ℕ → ℕ
kind_at h k = get_or h.kinds k 0

-- the present name of a place, of pad p
abbrev pub name_in : Hub → ℕ → ℕ → ℕ
name_in h p k = get_or (names_in h p) k no_name

abbrev pub element_at : Hub → ℕ → Element
element_at h k = get_or h.elements k past_element

abbrev pub button_at : Hub → ℕ → ButtonData
button_at h k = get_or h.buttons k past_button

abbrev pub axis_at : Hub → ℕ → AxisData
axis_at h k = get_or h.axes k past_axis

abbrev pub has_button_at : Hub → ℕ → Bool
has_button_at h k = get_or h.hasbutton k false

abbrev pub has_axis_at : Hub → ℕ → Bool
has_axis_at h k = get_or h.hasaxis k false

unfoldable pub pressed_at : Hub → ℕ → Bool
unfolding read_pressed
pressed_at h k = read_pressed (has_button_at h k) (button_at h k)

unfoldable pub value_at : Hub → ℕ → Float
unfolding read_value
value_at h k = read_value (has_axis_at h k) (axis_at h k) (has_button_at h k) (button_at h k)

-- ---- a pad's present hats, and whether it converts: a rename's until the next Connected

unfoldable pub hats_now : Hub → ℕ → ℕ
hats_now h p = cond (get_or h.renamed p false) (get_or h.newhats p 0) (get_or h.hats p 0)

unfoldable pub converts_in : List Bool → List Bool → List Bool → ℕ → Bool
converts_in renamed converts newconverts p = cond (get_or renamed p false) (get_or newconverts p false) (get_or converts p false)

abbrev pub converts_now : Hub → ℕ → Bool
converts_now h p = converts_in h.renamed h.converts h.newconverts p

-- W-203: bit 7 of the registered hats makes a zone pad
unfoldable pub zoned_in : List ℕ → ℕ → Bool
unfolding zoned_of
zoned_in hats p = zoned_of (get_or hats p 0)

-- ---- what the filters see for an event

-- where an axis's deadzone flag stands; past the end for an axis that has none, and for a pad that is none
unfoldable pub flag_place : ℕ → ℕ → ℕ
unfolding flag_of
flag_place p n = cond (ltb p pad_limit && ltb (flag_of n) flags_per_pad) (flags_per_pad * p + flag_of n) (flags_per_pad * pad_limit)

-- a direction's place, for a hat's axis
unfoldable pub hat_place_of : List ℕ → ℕ → ℕ → ℕ → ℕ
unfolding is_hat place_of
hat_place_of codes p n c = cond (is_hat n) (place_of codes p c) nowhere

abbrev pub hat_place : Hub → ℕ → ℕ → ℕ → ℕ
hat_place h p n c = hat_place_of h.codes p n c

-- the place of the partner's present code
unfoldable pub partner_place_of : List ℕ → List ℕ → List Bool → ℕ → ℕ → ℕ
unfolding partner_of named_of present_names
partner_place_of names renames renamed p n =
    cond (eqb (partner_of n) 0) nowhere (named_of (present_names names renames renamed p) p (partner_of n))

abbrev pub partner_place : Hub → ℕ → ℕ → ℕ
partner_place h p n = partner_place_of h.names h.renames h.renamed p n

unfoldable pub view_at : Hub → ℕ → ℕ → ℕ → View
unfolding hat_place_of partner_place_of flag_place partner_of positive_code negative_code pressed_at value_at converts_in
view_at h p n k =
    record {
      converts = converts_now h p;
      positive = pressed_at h (hat_place h p n (positive_code n));
      negative = pressed_at h (hat_place h p n (negative_code n));
      stored = has_axis_at h k;
      stick = (axis_at h k).value;
      dead = eqb (kind_at h k) element_axis;
      threshold = (element_at h k).threshold;
      own = value_at h k;
      partner =
          record {
            stands = ltb (partner_place h p n) nowhere;
            code = get_or h.codes (partner_place h p n) 0;
            value = value_at h (partner_place h p n);
          };
      flags =
          record {
            own = get_or h.flags (flag_place p n) false;
            partner = get_or h.flags (flag_place p (partner_of n)) false;
          };
    }

unfoldable pub view_of : Hub → Event → View
unfolding view_at name_of code_of place_of
view_of h e = view_at h e.pad (name_of e) (place_in h e.pad (code_of e))

-- ---- the queue

abbrev pub slot_at : ℕ → ℕ → ℕ
slot_at head waiting = (head + waiting) % queue_room

-- the front
unfoldable pub front_of : Hub → Event
unfolding event_of
front_of h = event_of (get_or h.queue (h.head % queue_room) past_slot)

-- one event more waits; the ring never holds more than 64
unfoldable pub longer_of : ℕ → ℕ
longer_of waiting = cond (ltb waiting queue_room) (waiting + 1) queue_room

unfoldable pub queue_after : List Slot → ℕ → ℕ → List Event → List Slot
unfolding longer_of slot_of
queue_after queue head waiting [] = queue
queue_after queue head waiting (e ∷ es) = queue_after (set queue (slot_at head waiting) (slot_of e)) head (longer_of waiting) es

unfoldable pub waiting_after : ℕ → List Event → ℕ
unfolding longer_of
waiting_after waiting [] = waiting
waiting_after waiting (e ∷ es) = waiting_after (longer_of waiting) es
