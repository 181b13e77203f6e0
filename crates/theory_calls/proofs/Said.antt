-- "Where an answer is an enum, a definition gives this paper's number and values for each of the enum's cases. The promises use that definition": for
-- each public call what its answer says, told by the call's refusal and the values beside it. A call's contract equals its answer with the definition
-- that is named here. By the law for its type of answer (Judged). inc, reset_counter, counter and waiting answer no enum.
use Rattle.std.specs.Prelude.{ℕ, ◌+◌, ◌*◌, Bool, false, not, List, [], ◌∷◌, ◌≡◌, refl, eqb, ltb, Float, length, get_or}
use Rattle.std.proofs.Math.Bool.{true}
use Rattle.std.proofs.Common.{ap}
use Rattle.std.specs.Float.{binary32}
use Rattle.std.specs.Float.Ieee.{to_bits}
use Rattle.rules.specs.declared.Hub.{Hub}
use Rattle.rules.specs.Names.{places_per_pad, nowhere, no_name}
use Rattle.rules.specs.Forms.{read_event}
use Rattle.rules.specs.Sheets.{element_axis, partial_of}
use Rattle.rules.specs.Refusals.{thresholds_refusal, pump_refusal, repeat_refusal, button_query_refusal, axis_query_refusal, name_query_refusal}
use Rattle.rules.specs.Events.{event_bytes}
use Rattle.rules.specs.Down.{lowest_of}
use Rattle.rules.specs.Hub.{place_in, name_in, kind_at, element_at, button_at, axis_at, has_button_at, has_axis_at, pressed_at, value_at, hats_now}
use Rattle.rules.specs.Pump.{drained, pump_of}
use Rattle.rules.specs.Repeat.{due_place, repeated_at, repeat_of}
use Rattle.rules.specs.Calls.{fresh_hub, new_by, new_of, register_refusal, register_as, register_of, rename_refusal, rename_by, rename_of, update_of, insert_of}
use Rattle.rules.specs.Queries.{pad_refusal, named_in, button_place, pressed_by_code, pressed_by_name, connected_of, value_by_code, value_by_name, threshold_by_code}
use Rattle.rules.specs.Queries.{button_by_code, button_by_name, axis_by_code, axis_by_name, name_by_code, code_by_name, down_of, lowest_pressed, old_of}
use Rattle.rules.specs.Answers.{served, refused, bit, answer_says, register_says, pump_says, repeat_says, truth_says, value_says, button_says, axis_says, number_says, down_says}
use Rattle.theory_calls.specs.Machines as machines
use Rattle.theory_calls.specs.Judged.{judged, present, button_values, axis_values, event_refusal, update_refusal, queue_refusal, pump_ending, pump_judged}
use Rattle.theory_calls.proofs.Judged.{done-said, register-said, pump-said, update-said, insert-said, repeat-said, truth-said, value-said, button-said, axis-said, number-said, name-said, down-said}

-- ---- new: 1. register: 2, 3, 4, 29, 5. register_archived: 2, 3, 4, 5. rename: 6, 7, 3, 4, 5

pub said-new : (pressed released : Float) (reversed filters updates : Bool)
    → answer_says (new_of pressed released reversed filters updates).answer ≡ judged (thresholds_refusal pressed released) []
unfolding new_of
said-new pressed released reversed filters updates =
    done-said (λ (number : ℕ). new_by number (fresh_hub pressed released reversed filters updates)) refl (λ (number : ℕ). refl)
    (thresholds_refusal pressed released)

-- the pad's number, of register (false) and of register_archived (true)
pub said-register : (archived : Bool) (h : Hub) (sheet : List ℕ)
    → register_says (register_as archived h sheet).answer ≡ judged (register_refusal archived h.pads sheet) (h.pads ∷ [])
unfolding register_as
said-register archived h sheet = register-said (register_refusal archived h.pads sheet) h sheet

pub said-rename : (h : Hub) (p : ℕ) (list : List ℕ) → answer_says (rename_of h p list).answer ≡ judged (rename_refusal h p list) []
unfolding rename_of
said-rename h p list = done-said (λ (number : ℕ). rename_by number h p list) refl (λ (number : ℕ). refl) (rename_refusal h p list)

-- ---- pump: 14 and 8, then reason, place, events and steps, or a record's 8, 6, 9, 10, 11, 12 with place, events and steps

pub said-pump : (h : Hub) (batch : List ℕ) (place : ℕ) (out : List ℕ) (allowance : ℕ)
    → pump_says (pump_of h batch place out allowance).pumped.answer
    ≡ pump_judged (pump_refusal (length batch) (length out) place) place (pump_ending h batch place out allowance)
unfolding pump_of
said-pump h batch place out allowance = pump-said (pump_refusal (length batch) (length out) place) h batch place out allowance

-- ---- update: 8, 6, 9, 11, 12. insert_event: the same, then 13

pub said-update : (h : Hub) (event : List ℕ) → answer_says (update_of h event).answer ≡ judged (event_refusal (update_refusal h) (read_event event)) []
unfolding update_of
said-update h event = update-said (read_event event) h

pub said-insert-event : (h : Hub) (event : List ℕ)
    → answer_says (insert_of h event).answer ≡ judged (event_refusal (queue_refusal h) (read_event event)) []
unfolding insert_of
said-insert-event h event = insert-said (read_event event) h

-- ---- repeat: 15, 12; the due event's 22 bytes, or none

pub said-repeat : (h : Hub) (after every now : ℕ)
    → repeat_says (repeat_of h after every now)
    ≡ judged (repeat_refusal after every now)
    (present (ltb (due_place h after every now) nowhere) (event_bytes (repeated_at h (due_place h after every now) after every)))
unfolding repeat_of
said-repeat h after every now = repeat-said (repeat_refusal after every now) _ _

-- ---- the queries: by a code 6, by a name 6 and 16

module _ (h : Hub) (p : ℕ) where
  pub said-is-pressed-by-code : (code : ℕ)
      → truth_says (pressed_by_code h p code) ≡ judged (pad_refusal h p) (bit (pressed_at h (place_in h p code)) ∷ [])
  unfolding pressed_by_code
  said-is-pressed-by-code code = truth-said (pad_refusal h p) _

  pub said-is-pressed : (name : ℕ)
      → truth_says (pressed_by_name h p name) ≡ judged (button_query_refusal h.pads p name) (bit (pressed_at h (button_place h p name)) ∷ [])
  unfolding pressed_by_name
  said-is-pressed name = truth-said (button_query_refusal h.pads p name) _

  pub said-value-by-code : (code : ℕ)
      → value_says (value_by_code h p code) ≡ judged (pad_refusal h p) (to_bits binary32 (value_at h (place_in h p code)) ∷ [])
  unfolding value_by_code
  said-value-by-code code = value-said (pad_refusal h p) true _

  pub said-value : (name : ℕ)
      → value_says (value_by_name h p name) ≡ judged (axis_query_refusal h.pads p name) (to_bits binary32 (value_at h (named_in h p name)) ∷ [])
  unfolding value_by_name
  said-value name = value-said (axis_query_refusal h.pads p name) true _

  pub said-button-data-by-code : (code : ℕ)
      → button_says (button_by_code h p code)
      ≡ judged (pad_refusal h p) (present (has_button_at h (place_in h p code)) (button_values (button_at h (place_in h p code))))
  unfolding button_by_code
  said-button-data-by-code code = button-said (pad_refusal h p) _ _

  pub said-button-data : (name : ℕ)
      → button_says (button_by_name h p name)
      ≡ judged (button_query_refusal h.pads p name) (present (has_button_at h (named_in h p name)) (button_values (button_at h (named_in h p name))))
  unfolding button_by_name
  said-button-data name = button-said (button_query_refusal h.pads p name) _ _

  pub said-axis-data-by-code : (code : ℕ)
      → axis_says (axis_by_code h p code)
      ≡ judged (pad_refusal h p) (present (has_axis_at h (place_in h p code)) (axis_values (axis_at h (place_in h p code))))
  unfolding axis_by_code
  said-axis-data-by-code code = axis-said (pad_refusal h p) _ _

  pub said-axis-data : (name : ℕ)
      → axis_says (axis_by_name h p name)
      ≡ judged (axis_query_refusal h.pads p name) (present (has_axis_at h (named_in h p name)) (axis_values (axis_at h (named_in h p name))))
  unfolding axis_by_name
  said-axis-data name = axis-said (axis_query_refusal h.pads p name) _ _

  -- "Axis elements only"
  pub said-deadzone-threshold : (code : ℕ)
      → value_says (threshold_by_code h p code)
      ≡ judged (pad_refusal h p)
      (present (eqb (kind_at h (place_in h p code)) element_axis) (to_bits binary32 (element_at h (place_in h p code)).threshold ∷ []))
  unfolding threshold_by_code
  said-deadzone-threshold code = value-said (pad_refusal h p) _ _

  -- "255 = no name"
  pub said-axis-or-btn-name : (code : ℕ)
      → number_says (name_by_code h p code)
      ≡ judged (pad_refusal h p) (present (not (eqb (name_in h p (place_in h p code)) no_name)) (name_in h p (place_in h p code) ∷ []))
  unfolding name_by_code
  said-axis-or-btn-name code = name-said (pad_refusal h p) (eqb (name_in h p (place_in h p code)) no_name) (name_in h p (place_in h p code))

  pub said-code-of-name : (name : ℕ)
      → number_says (code_by_name h p name)
      ≡ judged (name_query_refusal h.pads p name) (present (ltb (named_in h p name) nowhere) (get_or h.codes (named_in h p name) 0 ∷ []))
  unfolding code_by_name
  said-code-of-name name = number-said (name_query_refusal h.pads p name) _ _

  pub said-is-connected : truth_says (connected_of h p) ≡ judged (pad_refusal h p) (bit (get_or h.connected p false) ∷ [])
  unfolding connected_of
  said-is-connected = truth-said (pad_refusal h p) _

  -- W-213
  pub said-down : down_says (down_of h p) ≡ judged (pad_refusal h p) (get_or h.held p 0 ∷ bit (ltb 0 (get_or h.heldaxes p 0)) ∷ [])
  unfolding down_of
  said-down = down-said (pad_refusal h p) _ _

  pub said-lowest-pressed :
      let k = lowest_of (get_or h.down p 0) in
      number_says (lowest_pressed h p) ≡ judged (pad_refusal h p) (present (ltb k places_per_pad) (get_or h.codes (places_per_pad * p + k) 0 ∷ []))
  unfolding lowest_pressed
  said-lowest-pressed = number-said (pad_refusal h p) _ _

  -- W-212
  pub said-is-old : truth_says (old_of h p) ≡ judged (pad_refusal h p) (bit (partial_of (hats_now h p)) ∷ [])
  unfolding old_of
  said-is-old = truth-said (pad_refusal h p) _

-- ---- 01's padlog example: its sheet becomes pad 0; "DRAINED 6", all 42 bytes taken and 6 events written. A place past the end is given back

pub example-register : register_says (register_of machines.bare machines.sheet).answer ≡ served (0 ∷ [])
example-register = ap register_says machines.first-pad

pub example-pump : pump_says (pump_of machines.desk machines.both 0 machines.room machines.allowed).pumped.answer ≡ served (drained ∷ 42 ∷ 6 ∷ 6 ∷ [])
example-pump = ap pump_says machines.two-moves

pub example-past : pump_says (pump_of machines.desk machines.both 43 machines.room machines.allowed).pumped.answer ≡ refused 8 (43 ∷ 0 ∷ 0 ∷ [])
unfolding pump_of machines.move
example-past = refl
