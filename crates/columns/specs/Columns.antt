-- The law book's lists of records, made of columns of numbers. The columns are packed by type: one array of binary32, one of 64 bits, one of marks, and for
-- the queue one of bytes and one of codes; where a column starts in its array stands below. A column of records has 209 places, one of the queue 64.
use Rattle.std.specs.Prelude.{ℕ, ◌+◌, ◌≤◌, ◌<◌, ◌≡◌, Bool, false, List, get_or, Float}
use Rattle.std.proofs.Common.{sym, arith}
use Rattle.std.specs.Float.{nan}
use Rattle.rules.specs.declared.Element.{Element}
use Rattle.rules.specs.declared.ButtonData.{ButtonData}
use Rattle.rules.specs.declared.AxisData.{AxisData}
use Rattle.rules.specs.declared.Slot.{Slot}
use Rattle.rules.specs.Names.{nowhere, queue_room}
use Rattle.columns.specs.Tabled.{tabled, tabled-at}

-- ---- where the columns start

-- of the values
abbrev pub button_values : ℕ
button_values = 0

abbrev pub axis_values : ℕ
axis_values = 209

abbrev pub lows : ℕ
lows = 418

abbrev pub ranges : ℕ
ranges = 627

abbrev pub thresholds : ℕ
thresholds = 836

abbrev pub queue_values : ℕ
queue_values = 1045

-- of the times
abbrev pub button_stamps : ℕ
button_stamps = 0

abbrev pub button_counters : ℕ
button_counters = 209

abbrev pub button_sinces : ℕ
button_sinces = 418

abbrev pub axis_stamps : ℕ
axis_stamps = 627

abbrev pub axis_counters : ℕ
axis_counters = 836

abbrev pub queue_times : ℕ
queue_times = 1045

-- of the marks
abbrev pub pressed_marks : ℕ
pressed_marks = 0

abbrev pub repeating_marks : ℕ
repeating_marks = 209

abbrev pub odd_marks : ℕ
odd_marks = 418

-- of the queue's bytes
abbrev pub queue_kinds : ℕ
queue_kinds = 0

abbrev pub queue_pads : ℕ
queue_pads = 64

abbrev pub queue_names : ℕ
queue_names = 128

-- ---- how long the columns are, and the arrays

-- the places of the pads, and the place that is no pad's
abbrev pub places : ℕ
places = nowhere + 1

abbrev pub values_long : ℕ
values_long = queue_values + queue_room

abbrev pub times_long : ℕ
times_long = queue_times + queue_room

abbrev pub marks_long : ℕ
marks_long = odd_marks + places

abbrev pub bytes_long : ℕ
bytes_long = queue_names + queue_room

-- ---- what stands at a place: vs are values, ts times, ms marks, bs the queue's bytes and cs its codes

abbrev pub element_in : List Float → List Bool → ℕ → Element
element_in vs ms k =
    record {
      low = get_or vs (lows + k) nan;
      range = get_or vs (ranges + k) nan;
      odd = get_or ms (odd_marks + k) false;
      threshold = get_or vs (thresholds + k) nan;
    }

abbrev pub button_in : List Float → List ℕ → List Bool → ℕ → ButtonData
button_in vs ts ms k =
    record {
      value = get_or vs (button_values + k) nan;
      stamp = get_or ts (button_stamps + k) 0;
      counter = get_or ts (button_counters + k) 0;
      pressed = get_or ms (pressed_marks + k) false;
      repeating = get_or ms (repeating_marks + k) false;
      since = get_or ts (button_sinces + k) 0;
    }

abbrev pub axis_in : List Float → List ℕ → ℕ → AxisData
axis_in vs ts k =
    record {
      value = get_or vs (axis_values + k) nan;
      stamp = get_or ts (axis_stamps + k) 0;
      counter = get_or ts (axis_counters + k) 0;
    }

abbrev pub slot_in : List Float → List ℕ → List ℕ → List ℕ → ℕ → Slot
slot_in vs ts bs cs k =
    record {
      kind = get_or bs (queue_kinds + k) 0;
      pad = get_or bs (queue_pads + k) 0;
      name = get_or bs (queue_names + k) 0;
      code = get_or cs k 0;
      value = get_or vs (queue_values + k) nan;
      time = get_or ts (queue_times + k) 0;
    }

-- ---- the lists

unfoldable pub elements_of : List Float → List Bool → List Element
elements_of vs ms = tabled 0 places (element_in vs ms)

unfoldable pub buttons_of : List Float → List ℕ → List Bool → List ButtonData
buttons_of vs ts ms = tabled 0 places (button_in vs ts ms)

unfoldable pub axes_of : List Float → List ℕ → List AxisData
axes_of vs ts = tabled 0 places (axis_in vs ts)

unfoldable pub slots_of : List Float → List ℕ → List ℕ → List ℕ → List Slot
slots_of vs ts bs cs = tabled 0 queue_room (slot_in vs ts bs cs)

-- ---- read at a place

pub element-is : (vs : List Float) (ms : List Bool) (k : ℕ) (d : Element) → k ≤ nowhere → element_in vs ms k ≡ get_or (elements_of vs ms) k d
unfolding elements_of
element-is vs ms k d l = sym (tabled-at places (element_in vs ms) k d (omega arith))

pub button-is :
    (vs : List Float) (ts : List ℕ) (ms : List Bool) (k : ℕ) (d : ButtonData) →
    k ≤ nowhere →
    button_in vs ts ms k ≡ get_or (buttons_of vs ts ms) k d
unfolding buttons_of
button-is vs ts ms k d l = sym (tabled-at places (button_in vs ts ms) k d (omega arith))

pub axis-is : (vs : List Float) (ts : List ℕ) (k : ℕ) (d : AxisData) → k ≤ nowhere → axis_in vs ts k ≡ get_or (axes_of vs ts) k d
unfolding axes_of
axis-is vs ts k d l = sym (tabled-at places (axis_in vs ts) k d (omega arith))

pub slot_is :
    (vs : List Float) (ts bs cs : List ℕ) (k : ℕ) (d : Slot) → k < queue_room → slot_in vs ts bs cs k ≡ get_or (slots_of vs ts bs cs) k d
unfolding slots_of
slot_is vs ts bs cs k d l = sym (tabled-at queue_room (slot_in vs ts bs cs) k d (omega arith))
