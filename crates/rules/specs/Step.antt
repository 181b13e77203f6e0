-- A step: it takes the queue's front, else the next raw record; the event passes the filters; what they queue waits; and the state is updated.
-- Each stage sets the fields that it means. Definitions only.
use Rattle.std.specs.Prelude.{ℕ, ◌+◌, ◌-◌, ◌*◌, ◌%◌, Bool, true, false, cond, ◌&&◌, ◌||◌, List, ◌++◌, set, eqb, ltb, pos, None, Option, Some}
use Rattle.rules.specs.declared.Hub.{Hub}
use Rattle.rules.specs.declared.Event.{Event}
use Rattle.rules.specs.declared.RawRecord.{RawRecord}
use Rattle.rules.specs.declared.NextRecord.{NextRecord}
use Rattle.rules.specs.declared.Dispatched.{Dispatched}
use Rattle.rules.specs.declared.Flags.{Flags}
use Rattle.rules.specs.Names.{places_per_pad, flags_per_pad, partner_of, queue_room}
use Rattle.rules.specs.Forms.{read_record, kind_connected, kind_disconnected}
use Rattle.rules.specs.Refusals.{record_refusal}
use Rattle.rules.specs.Places.{place_of, present_names, cleared_of}
use Rattle.rules.specs.Events.{WithQueued, event_if, name_of, code_of}
use Rattle.rules.specs.Dispatch.{dispatch_of, single}
use Rattle.rules.specs.Zones.{centred_of}
use Rattle.rules.specs.Filters.{Filtered, filtered_of}
use Rattle.rules.specs.Sheets.{element_axis}
use Rattle.rules.specs.State.{button_after, axis_after, writes_button, writes_axis, read_pressed}
use Rattle.rules.specs.Down.{bits_after, counts_after}
use Rattle.rules.specs.Setters.{with_marks, with_state, with_down, with_flags, with_queue}
use Rattle.rules.specs.Hub.{place_in, name_in, kind_at, element_at, button_at, axis_at, has_button_at, has_axis_at, pressed_at, front_of, flag_place, view_of, queue_after, waiting_after}

-- ---- the record looked at

abbrev pub blank_record : RawRecord
blank_record = record { kind = 0; pad = 0; code = 0; value = pos 0; time = 0 }

abbrev pub next_record_by : Option RawRecord → NextRecord
next_record_by (Some r) = record { raw = r; fits = true }
next_record_by None = record { raw = blank_record; fits = false }

-- while something waits, no record is looked at
unfoldable pub next_record_of : ℕ → List ℕ → ℕ → NextRecord
unfolding read_record
next_record_of waiting s at = cond (ltb 0 waiting) (record { raw = blank_record; fits = true }) (next_record_by (read_record s at))

-- the kind of the element that has the record's code
unfoldable pub record_kind : Hub → RawRecord → ℕ
unfolding place_of
record_kind h r = kind_at h (place_in h r.pad r.code)

-- the record's refusal, 0 where it is taken, or where something waits
unfoldable pub step_refusal : Hub → NextRecord → ℕ
unfolding record_refusal record_kind
step_refusal h l = cond (ltb 0 h.waiting) 0 (record_refusal l h.pads (record_kind h l.raw))

-- ---- what is taken: the front, else what the record gives

unfoldable pub record_gives : Hub → RawRecord → ℕ → Dispatched
unfolding dispatch_of present_names pressed_at
record_gives h r k =
    dispatch_of r (name_in h r.pad k) (element_at h k) (pressed_at h k) h.pressed h.released h.reversed

unfoldable pub taken_of : Hub → NextRecord → Dispatched
unfolding record_gives front_of place_of
taken_of h l = cond (ltb 0 h.waiting) (single (front_of h)) (record_gives h l.raw (place_in h l.raw.pad l.raw.code))

-- ---- the marks that a taken record sets: "connected but from a taken Disconnected record to the next Connected"

unfoldable pub connected_after : List Bool → ℕ → ℕ → List Bool
connected_after connected p kind =
    cond (eqb kind kind_connected) (set connected p true) (cond (eqb kind kind_disconnected) (set connected p false) connected)

-- "Connected gives fresh state and deadzone flags, and the names and hats of the registered sheet": the rename is forgotten
unfoldable pub renamed_after : List Bool → ℕ → ℕ → List Bool
renamed_after renamed p kind = cond (eqb kind kind_connected) (set renamed p false) renamed

-- how many marks of a run Connected takes off
unfoldable pub marks_cleared : ℕ → ℕ → ℕ
marks_cleared kind n = cond (eqb kind kind_connected) n 0

-- and nothing of the pad is down: each of its three numbers in the summary is 0
unfoldable pub down_cleared : List ℕ → ℕ → ℕ → List ℕ
down_cleared numbers p kind = cond (eqb kind kind_connected) (set numbers p 0) numbers

-- W-203: and its hat's two axes are in the middle
unfoldable pub zones_cleared : List ℕ → ℕ → ℕ → List ℕ
unfolding centred_of
zones_cleared zones p kind = cond (eqb kind kind_connected) (centred_of zones p) zones

-- the ring's front after a step took it
unfoldable pub head_after : ℕ → ℕ → ℕ
head_after head waiting = cond (ltb 0 waiting) ((head % queue_room + 1) % queue_room) head

unfoldable pub marked_of : Hub → RawRecord → Hub
unfolding connected_after renamed_after marks_cleared down_cleared head_after cleared_of
marked_of h r =
    let joined = with_marks h (connected_after h.connected r.pad r.kind) (renamed_after h.renamed r.pad r.kind) in
    let run = places_per_pad * r.pad in
    let places = marks_cleared r.kind places_per_pad in
    let fresh = with_state joined (cleared_of h.hasbutton run places) h.buttons (cleared_of h.hasaxis run places) h.axes in
    let released =
    with_down fresh (down_cleared h.down r.pad r.kind) (down_cleared h.held r.pad r.kind) (down_cleared h.heldaxes r.pad r.kind)
    in
    let unflagged = with_flags released (cleared_of h.flags (flags_per_pad * r.pad) (marks_cleared r.kind flags_per_pad)) in
    with_queue unflagged h.queue (head_after h.head h.waiting) (h.waiting - 1)

-- ---- what waits behind the event: the record's own, then the filters'

unfoldable pub pushes_of : Dispatched → WithQueued → List Event
pushes_of d g = event_if d.follows d.next ++ g.queued

unfoldable pub flags_set : List Bool → ℕ → ℕ → Flags → List Bool
unfolding flag_place partner_of
flags_set flags p n f = set (set flags (flag_place p n) f.own) (flag_place p (partner_of n)) f.partner

-- the flags of the event's axis and of its partner, and the queue
unfoldable pub pushed_of : Hub → Event → Flags → List Event → Hub
unfolding flags_set name_of queue_after waiting_after
pushed_of h e f es =
    with_queue (with_flags h (flags_set h.flags e.pad (name_of e) f)) (queue_after h.queue h.head h.waiting es) h.head
    (waiting_after h.waiting es)

-- ---- the state after an event, `update`; an event of no code, or one dropped, changes nothing

-- the summary at place k, whose record read pressed before as `was` says and now as `is` says; axis: whether an axis element stands there
unfoldable pub followed_at : Hub → ℕ → Bool → Bool → Bool → Hub
unfolding bits_after counts_after
followed_at h k was is axis =
    with_down h (bits_after h.down k was is) (counts_after h.held k was is) (counts_after h.heldaxes k (axis && was) (axis && is))

unfoldable pub updated_at : Bool → Hub → Event → ℕ → Hub
unfolding button_after axis_after writes_button writes_axis read_pressed pressed_at followed_at
updated_at on h e k =
    let stands = has_button_at h k || (on && writes_button e) in
    let button = cond on (button_after e (has_button_at h k) (button_at h k) h.counter) (button_at h k) in
    let written =
    with_state h (set h.hasbutton k stands) (set h.buttons k button) (set h.hasaxis k (has_axis_at h k || (on && writes_axis e)))
    (set h.axes k (cond on (axis_after e (axis_at h k) h.counter) (axis_at h k)))
    in
    followed_at written k (pressed_at h k) (read_pressed stands button) (eqb (kind_at h k) element_axis)

unfoldable pub updated_of : Bool → Hub → Event → Hub
unfolding updated_at code_of place_of
updated_of on h e = updated_at on h e (place_in h e.pad (code_of e))

-- ---- the step

-- what the filters make of an event
unfoldable pub filtered_in : Hub → Event → Filtered
unfolding filtered_of view_of
filtered_in h e = filtered_of h.filters (view_of h e) e

-- what is taken, filtered and queued: the hub before its state is updated
unfoldable pub filtered_hub : Hub → Dispatched → Hub
unfolding pushed_of pushes_of filtered_in
filtered_hub h d = pushed_of h d.event (filtered_in h d.event).flags (pushes_of d (filtered_in h d.event).gives)

-- the event that a step hands on, or Dropped
unfoldable pub step_event : Hub → NextRecord → Event
unfolding filtered_in marked_of taken_of
step_event h l = (filtered_in (marked_of h l.raw) (taken_of h l).event).gives.event

unfoldable pub step_hub : Hub → NextRecord → Hub
unfolding updated_of filtered_hub marked_of taken_of step_event
step_hub h l = updated_of h.updates (filtered_hub (marked_of h l.raw) (taken_of h l)) (step_event h l)
