-- The public calls that change the hub, but the pump: new, register, register_archived, rename, update, insert_event, inc and reset_counter. A refusal leaves
-- the hub as it was. Definitions only.
use Rattle.std.specs.Prelude.{ℕ, zero, suc, ◌+◌, ◌*◌, Bool, true, false, cond, not, List, [], ◌∷◌, map, get_or, set, replicate, eqb, ltb, Float, Err, None, Ok, Option, Some}
use Rattle.numbers.specs.Constants.{zero32, one32}
use Rattle.rules.specs.declared.Hub.{Hub}
use Rattle.rules.specs.declared.Event.{Event}
use Rattle.rules.specs.declared.EventForm.{EventForm}
use Rattle.rules.specs.declared.ButtonData.{ButtonData}
use Rattle.rules.specs.declared.AxisData.{AxisData}
use Rattle.rules.specs.declared.Slot.{Slot}
use Rattle.rules.specs.declared.Row.{Row}
use Rattle.rules.specs.declared.Element.{Element}
use Rattle.rules.specs.declared.Answered.{Answered}
use Rattle.rules.specs.declared.Registered.{Registered}
use Rattle.rules.specs.Names.{pad_limit, places_per_pad, nowhere, no_name, queue_room, flags_per_pad}
use Rattle.rules.specs.Forms.{read_event}
use Rattle.rules.specs.Sheets.{sheet_refusal, hats_of, count_of, rename_list_refusal}
use Rattle.rules.specs.Places.{place_of, no_element, rows_of, converts_of, cleared_of, one_if}
use Rattle.rules.specs.Refusals.{thresholds_refusal, is_registered, form_refusal, insert_refusal, first, unless_fits, numbered}
use Rattle.rules.specs.Events.{form_event}
use Rattle.rules.specs.State.{next_counter}
use Rattle.rules.specs.Setters.{with_counter, with_sheet, with_rows, with_names, with_marks, with_state, with_down, with_flags, with_queue}
use Rattle.rules.specs.Hub.{place_in, queue_after, waiting_after}
use Rattle.rules.specs.Step.{updated_of}

-- ---- new

abbrev pub blank_button : ButtonData
blank_button = record { value = zero32; stamp = 0; counter = 0; pressed = false; repeating = false; since = 0 }

abbrev pub blank_axis : AxisData
blank_axis = record { value = zero32; stamp = 0; counter = 0 }

abbrev pub blank_slot : Slot
blank_slot = record { kind = 0; pad = 0; name = 0; code = 0; value = zero32; time = 0 }

-- a hub with no pads, an empty queue and the counter at 0
unfoldable pub fresh_hub : Float → Float → Bool → Bool → Bool → Hub
fresh_hub pressed released reversed filters updates =
    record {
      pressed = pressed;
      released = released;
      reversed = reversed;
      filters = filters;
      updates = updates;
      counter = 0;
      pads = 0;
      counts = replicate pad_limit 0;
      connected = replicate pad_limit false;
      hats = replicate pad_limit 0;
      converts = replicate pad_limit false;
      renamed = replicate pad_limit false;
      newhats = replicate pad_limit 0;
      newconverts = replicate pad_limit false;
      codes = replicate nowhere 0;
      kinds = replicate nowhere 0;
      names = replicate nowhere no_name;
      renames = replicate nowhere no_name;
      elements = replicate (nowhere + 1) no_element;
      hasbutton = replicate nowhere false;
      buttons = replicate (nowhere + 1) blank_button;
      hasaxis = replicate nowhere false;
      axes = replicate (nowhere + 1) blank_axis;
      down = replicate pad_limit 0;
      held = replicate pad_limit 0;
      heldaxes = replicate pad_limit 0;
      flags = replicate (flags_per_pad * pad_limit) false;
      queue = replicate queue_room blank_slot;
      head = 0;
      waiting = 0;
    }

-- what a refused `new` hands back: a hub that filters and updates nothing
unfoldable pub idle_hub : Hub
unfolding fresh_hub
idle_hub = fresh_hub one32 zero32 false false false

abbrev pub new_by : ℕ → Hub → Answered
new_by zero h = record { hub = h; answer = Ok tt }
new_by (suc number) h = record { hub = idle_hub; answer = Err (numbered (suc number)) }

unfoldable pub new_of : Float → Float → Bool → Bool → Bool → Answered
unfolding thresholds_refusal fresh_hub idle_hub
new_of pressed released reversed filters updates =
    new_by (thresholds_refusal pressed released) (fresh_hub pressed released reversed filters updates)

-- ---- register: "Pads 0..3, registered in that order"; "Sheet order: 2, 3, 4, 5"

-- a run of an array, filled from k on
unfoldable pub laid : {A : Type 0} → List A → ℕ → List A → List A
laid xs k [] = xs
laid xs k (v ∷ vs) = laid (set xs k v) (k + 1) vs

abbrev pub row_code : Row → ℕ
row_code r = r.code

abbrev pub row_kind : Row → ℕ
row_kind r = r.kind

abbrev pub row_name : Row → ℕ
row_name r = r.name

abbrev pub row_element : Row → Element
row_element r = r.element

-- the rows of a good sheet in the next pad's places, and a fresh state
unfoldable pub registered_at : Hub → ℕ → ℕ → ℕ → List Row → Hub
unfolding laid cleared_of converts_of
registered_at h p hats count rows =
    let run = places_per_pad * p in
    let codes = laid h.codes run (map row_code rows) in
    let names = laid h.names run (map row_name rows) in
    let listed = with_rows h codes (laid h.kinds run (map row_kind rows)) names (laid h.elements run (map row_element rows)) in
    let kept =
    with_sheet listed (p + 1) (set h.counts p count) (set h.hats p hats) (set h.converts p (converts_of hats codes names p))
    in
    let stands = with_marks kept (set h.connected p true) (set h.renamed p false) in
    let fresh = with_state stands (cleared_of h.hasbutton run places_per_pad) h.buttons (cleared_of h.hasaxis run places_per_pad) h.axes in
    let released = with_down fresh (set h.down p 0) (set h.held p 0) (set h.heldaxes p 0) in
    with_flags released (cleared_of h.flags (flags_per_pad * p) flags_per_pad)

-- 2: "four pads stand"
unfoldable pub register_refusal : Bool → ℕ → List ℕ → ℕ
unfolding sheet_refusal
register_refusal archived pads s = first (unless_fits (ltb pads pad_limit) 2) (sheet_refusal archived s)

abbrev pub register_by : ℕ → Hub → List ℕ → Registered
register_by zero h s =
    record { hub = registered_at h h.pads (hats_of s) (count_of s) (rows_of s (count_of s)); answer = Ok h.pads }
register_by (suc number) h s = record { hub = h; answer = Err (numbered (suc number)) }

unfoldable pub register_as : Bool → Hub → List ℕ → Registered
unfolding register_refusal registered_at hats_of count_of rows_of
register_as archived h s = register_by (register_refusal archived h.pads s) h s

-- `register`: new sheets
abbrev pub register_of : Hub → List ℕ → Registered
register_of h s = register_as false h s

-- W-212's `register_archived`: "Archived sheets with 1 to 14 go through a second registration call, which takes 0 and 15 too, keeps them as they were"
abbrev pub register_archived_of : Hub → List ℕ → Registered
register_archived_of h s = register_as true h s

-- ---- rename: "The new names hold at once, hats become 0; state, flags and waiting events stay"

-- the i-th name goes to the i-th listed element, and so on for the n places from k on; a place that the sheet does not list has no name
unfoldable pub renames_after : List ℕ → List ℕ → List ℕ → ℕ → ℕ → ℕ → List ℕ
renames_after renames kinds list zero k i = renames
renames_after renames kinds list (suc n) k i =
    renames_after (set renames k (cond (eqb (get_or kinds k 0) 0) no_name (get_or list i 0))) kinds list n (k + 1)
    (i + one_if (not (eqb (get_or kinds k 0) 0)))

unfoldable pub renames_of : Hub → ℕ → List ℕ → List ℕ
unfolding renames_after
renames_of h p list = renames_after h.renames h.kinds list places_per_pad (places_per_pad * p) 0

unfoldable pub renamed_at : Hub → ℕ → List ℕ → Hub
unfolding converts_of
renamed_at h p renames =
    let named = with_names h (set h.newhats p 0) (set h.newconverts p (converts_of 0 h.codes renames p)) renames in
    with_marks named h.connected (set h.renamed p true)

-- "Rename: 6, 7, 3, 4, 5"; 7: "rename of a disconnected pad"
unfoldable pub rename_refusal : Hub → ℕ → List ℕ → ℕ
unfolding is_registered rename_list_refusal
rename_refusal h p list =
    first (unless_fits (is_registered h.pads p) 6)
    (first (unless_fits (get_or h.connected p false) 7) (rename_list_refusal list (get_or h.counts p 0)))

abbrev pub rename_by : ℕ → Hub → ℕ → List ℕ → Answered
rename_by zero h p list = record { hub = renamed_at h p (renames_of h p list); answer = Ok tt }
rename_by (suc number) h p list = record { hub = h; answer = Err (numbered (suc number)) }

unfoldable pub rename_of : Hub → ℕ → List ℕ → Answered
unfolding rename_refusal renamed_at renames_of
rename_of h p list = rename_by (rename_refusal h p list) h p list

-- ---- update and insert_event

-- where the form's code stands
abbrev pub form_place : Hub → EventForm → ℕ
form_place h f = place_in h f.pad f.code

abbrev pub update_form_by : ℕ → Hub → EventForm → Answered
update_form_by zero h f = record { hub = updated_of true h (form_event f); answer = Ok tt }
update_form_by (suc number) h f = record { hub = h; answer = Err (numbered (suc number)) }

abbrev pub update_by : Option EventForm → Hub → Answered
update_by (Some f) h = update_form_by (form_refusal f h.pads (form_place h f)) h f
update_by None h = record { hub = h; answer = Err (numbered 8) }

unfoldable pub update_of : Hub → List ℕ → Answered
unfolding read_event form_refusal place_of updated_of form_event
update_of h s = update_by (read_event s) h

-- one event more waits
unfoldable pub inserted_at : Hub → Event → Hub
unfolding queue_after waiting_after
inserted_at h e =
    with_queue h (queue_after h.queue h.head h.waiting (e ∷ [])) h.head (waiting_after h.waiting (e ∷ []))

abbrev pub insert_form_by : ℕ → Hub → EventForm → Answered
insert_form_by zero h f = record { hub = inserted_at h (form_event f); answer = Ok tt }
insert_form_by (suc number) h f = record { hub = h; answer = Err (numbered (suc number)) }

abbrev pub insert_by : Option EventForm → Hub → Answered
insert_by (Some f) h = insert_form_by (insert_refusal f h.pads (form_place h f) h.waiting) h f
insert_by None h = record { hub = h; answer = Err (numbered 8) }

unfoldable pub insert_of : Hub → List ℕ → Answered
unfolding read_event insert_refusal place_of inserted_at form_event
insert_of h s = insert_by (read_event s) h

-- ---- the counter

unfoldable pub counted_at : Hub → ℕ → Hub
counted_at h n = with_counter h n

unfoldable pub inc_of : Hub → Hub
unfolding counted_at next_counter
inc_of h = counted_at h (next_counter h.counter)

unfoldable pub reset_of : Hub → Hub
unfolding counted_at
reset_of h = counted_at h 0
