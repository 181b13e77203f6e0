-- The queries: they read the hub and change nothing. "Query: 6, 16"; "A query by a code not known reads false or 0.0". Definitions only.
use Rattle.std.specs.Prelude.{ℕ, ◌+◌, ◌*◌, Bool, true, false, cond, List, get_or, eqb, ltb, Float, None, Option, Result, Some}
use Rattle.rules.specs.declared.Hub.{Hub}
use Rattle.rules.specs.declared.ButtonData.{ButtonData}
use Rattle.rules.specs.declared.AxisData.{AxisData}
use Rattle.rules.specs.declared.PadDown.{PadDown}
use Rattle.rules.specs.declared.Refusal.{Refusal}
use Rattle.rules.specs.Names.{places_per_pad, nowhere, no_name, to_nec}
use Rattle.rules.specs.Sheets.{element_axis, partial_of}
use Rattle.rules.specs.Places.{place_of, named_of, present_names}
use Rattle.rules.specs.Refusals.{is_registered, unless_fits, button_query_refusal, axis_query_refusal, name_query_refusal, answer_by}
use Rattle.rules.specs.Down.{lowest_of}
use Rattle.rules.specs.Hub.{place_in, names_in, name_in, kind_at, element_at, button_at, axis_at, has_button_at, has_axis_at, pressed_at, value_at, hats_now}

-- 6 alone: a query by a code, or by a pad
abbrev pub pad_refusal : Hub → ℕ → ℕ
pad_refusal h p = unless_fits (is_registered h.pads p) 6

-- the place that has a name
abbrev pub named_in : Hub → ℕ → ℕ → ℕ
named_in h p n = named_of (names_in h p) p n

-- what is absent is no refusal
abbrev pub found_by : {A : Type 0} → ℕ → Bool → A → Result (Option A) Refusal
found_by number here x = answer_by number (cond here (Some x) None)

-- ---- pressed

unfoldable pub pressed_by_code : Hub → ℕ → ℕ → Result Bool Refusal
unfolding is_registered place_of pressed_at
pressed_by_code h p c = answer_by (pad_refusal h p) (pressed_at h (place_in h p c))

-- "`is_pressed` by a name that no element has falls back to `to_nec`"
unfoldable pub button_place_of : List ℕ → List ℕ → List ℕ → List Bool → ℕ → ℕ → ℕ
unfolding place_of named_of present_names to_nec
button_place_of codes names renames renamed p n =
    let named = named_of (present_names names renames renamed p) p n in cond (ltb named nowhere) named (place_of codes p (to_nec n))

abbrev pub button_place : Hub → ℕ → ℕ → ℕ
button_place h p n = button_place_of h.codes h.names h.renames h.renamed p n

unfoldable pub pressed_by_name : Hub → ℕ → ℕ → Result Bool Refusal
unfolding button_query_refusal button_place_of pressed_at
pressed_by_name h p n = answer_by (button_query_refusal h.pads p n) (pressed_at h (button_place h p n))

unfoldable pub connected_of : Hub → ℕ → Result Bool Refusal
unfolding is_registered
connected_of h p = answer_by (pad_refusal h p) (get_or h.connected p false)

-- ---- value

unfoldable pub value_by_code : Hub → ℕ → ℕ → Result (Option Float) Refusal
unfolding is_registered place_of value_at
value_by_code h p c = found_by (pad_refusal h p) true (value_at h (place_in h p c))

unfoldable pub value_by_name : Hub → ℕ → ℕ → Result (Option Float) Refusal
unfolding axis_query_refusal named_of present_names value_at
value_by_name h p n = found_by (axis_query_refusal h.pads p n) true (value_at h (named_in h p n))

-- "Deadzone threshold. Axis elements only"
unfoldable pub threshold_by_code : Hub → ℕ → ℕ → Result (Option Float) Refusal
unfolding is_registered place_of
threshold_by_code h p c =
    found_by (pad_refusal h p) (eqb (kind_at h (place_in h p c)) element_axis) (element_at h (place_in h p c)).threshold

-- ---- records: one that is absent has an answer of its own

unfoldable pub button_by_code : Hub → ℕ → ℕ → Result (Option ButtonData) Refusal
unfolding is_registered place_of
button_by_code h p c = found_by (pad_refusal h p) (has_button_at h (place_in h p c)) (button_at h (place_in h p c))

unfoldable pub button_by_name : Hub → ℕ → ℕ → Result (Option ButtonData) Refusal
unfolding button_query_refusal named_of present_names
button_by_name h p n = found_by (button_query_refusal h.pads p n) (has_button_at h (named_in h p n)) (button_at h (named_in h p n))

unfoldable pub axis_by_code : Hub → ℕ → ℕ → Result (Option AxisData) Refusal
unfolding is_registered place_of
axis_by_code h p c = found_by (pad_refusal h p) (has_axis_at h (place_in h p c)) (axis_at h (place_in h p c))

unfoldable pub axis_by_name : Hub → ℕ → ℕ → Result (Option AxisData) Refusal
unfolding axis_query_refusal named_of present_names
axis_by_name h p n = found_by (axis_query_refusal h.pads p n) (has_axis_at h (named_in h p n)) (axis_at h (named_in h p n))

-- ---- names and codes

-- `axis_or_btn_name`
unfoldable pub name_by_code : Hub → ℕ → ℕ → Result (Option ℕ) Refusal
unfolding is_registered place_of present_names
name_by_code h p c = found_by (pad_refusal h p) (cond (eqb (name_in h p (place_in h p c)) no_name) false true) (name_in h p (place_in h p c))

-- `button_code`, `axis_code`
unfoldable pub code_by_name : Hub → ℕ → ℕ → Result (Option ℕ) Refusal
unfolding name_query_refusal named_of present_names
code_by_name h p n =
    found_by (name_query_refusal h.pads p n) (ltb (named_in h p n) nowhere) (get_or h.codes (named_in h p n) 0)

-- ---- W-213: what is down

abbrev pub pad_down : ℕ → Bool → PadDown
pad_down count axis = record { count = count; axis = axis }

-- "the number of pressed elements on each pad and whether any axis element reads pressed"
unfoldable pub down_of : Hub → ℕ → Result PadDown Refusal
unfolding is_registered
down_of h p = answer_by (pad_refusal h p) (pad_down (get_or h.held p 0) (ltb 0 (get_or h.heldaxes p 0)))

-- "the lowest pressed code, which says that there is none": a pad's places are in code order
unfoldable pub lowest_pressed : Hub → ℕ → Result (Option ℕ) Refusal
unfolding is_registered lowest_of
lowest_pressed h p =
    let k = lowest_of (get_or h.down p 0) in found_by (pad_refusal h p) (ltb k places_per_pad) (get_or h.codes (places_per_pad * p + k) 0)

-- ---- W-212: whether a pad is old

-- "marks a partial pad as old; .. A rename clears it, Connected brings it back": the mark is that the present hats are partial
unfoldable pub old_of : Hub → ℕ → Result Bool Refusal
unfolding is_registered hats_now partial_of
old_of h p = answer_by (pad_refusal h p) (partial_of (hats_now h p))
