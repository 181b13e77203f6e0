-- "that two answers meeting a promise are equal is proved": the contract of each public call is an equation with a definition, so two results that meet
-- it are equal: the answer, the hub after it and, for the pump, every lent byte. One lemma, then a line for each call by name, in the order of 01's table.
-- The functions behind the calls whose contract is a record or a pair around an equation stand in the crate `theory_unique`.
use Rattle.std.specs.Prelude.{ℕ, Bool, List, ◌≡◌, Float, Option, Result}
use Rattle.std.proofs.Common.{sym, ◌∙◌, ap}
use Rattle.rules.specs.declared.Hub.{Hub}
use Rattle.rules.specs.declared.Answered.{Answered}
use Rattle.rules.specs.declared.Registered.{Registered}
use Rattle.rules.specs.declared.Pumped.{Pumped}
use Rattle.rules.specs.declared.AxisData.{AxisData}
use Rattle.rules.specs.declared.ButtonData.{ButtonData}
use Rattle.rules.specs.declared.PadDown.{PadDown}
use Rattle.rules.specs.declared.Event.{Event}
use Rattle.rules.specs.declared.Refusal.{Refusal}
use Rattle.numbers.specs.declared.Tilt.{Tilt}
use Rattle.rules.specs.Pump.{Run, pump_of}
use Rattle.rules.specs.Tilt.{pump_tilt}
use Rattle.rules.specs.Repeat.{repeat_of}
use Rattle.rules.specs.Calls.{new_of, register_as, rename_of, update_of, insert_of, inc_of, reset_of}
use Rattle.rules.specs.Queries.{pressed_by_code, pressed_by_name, connected_of, value_by_code, value_by_name, threshold_by_code}
use Rattle.rules.specs.Queries.{button_by_code, button_by_name, axis_by_code, axis_by_name, name_by_code, code_by_name, down_of, lowest_pressed, old_of}

-- a promise leaves one answer
abbrev pub One : {A : Type 0} → (A → Type 0) → Type 0
One {A} promise = (r s : A) → promise r → promise s → r ≡ s

-- one that has an equation with a definition does
pub one-owed : {A : Type 0} {promise : A → Type 0} (owed : A) → ((r : A) → promise r → r ≡ owed) → One promise
one-owed owed is r s p q = is r p ∙ sym (is s q)

-- and one that is an equation
pub one-equation : {A : Type 0} (owed : A) → One (λ (r : A). r ≡ owed)
one-equation owed = one-owed owed (λ r e. e)

-- ---- new, register, register_archived and rename: the answer and the hub

pub unique-new : (pressed released : Float) (reversed filters updates : Bool)
    → One (λ (r : Answered). r ≡ new_of pressed released reversed filters updates)
unique-new pressed released reversed filters updates = one-equation _

-- register (false) and register_archived (true)
pub unique-register : (archived : Bool) (h : Hub) (sheet : List ℕ) → One (λ (r : Registered). r ≡ register_as archived h sheet)
unique-register archived h sheet = one-equation _

pub unique-rename : (h : Hub) (p : ℕ) (list : List ℕ) → One (λ (r : Answered). r ≡ rename_of h p list)
unique-rename h p list = one-equation _

-- ---- the pump: the answer, the hub, and every byte of the out buffer, of which its contract's first equation speaks; and the report, by its second

pub record SamePump (r s : Pumped) (after other : List ℕ) : Type 0 where
  pub answer : r.answer ≡ s.answer
  pub hub : r.hub ≡ s.hub
  pub bytes : after ≡ other

pub unique-pump : (h : Hub) (batch : List ℕ) (place : ℕ) (out : List ℕ) (allowance : ℕ) {r s : Pumped} {after other : List ℕ}
    → record { pumped = r; out = after } ≡ pump_of h batch place out allowance
    → record { pumped = s; out = other } ≡ pump_of h batch place out allowance
    → SamePump r s after other
unique-pump h batch place out allowance p q =
    let same = one-equation (pump_of h batch place out allowance) _ _ p q in
    record {
      answer = ap (λ (left : Run). left.pumped.answer) same;
      hub = ap (λ (left : Run). left.pumped.hub) same;
      bytes = ap (λ (left : Run). left.out) same;
    }

pub unique-report : (h : Hub) (batch : List ℕ) (place : ℕ) (out : List ℕ) (allowance : ℕ) → One (λ (t : Tilt). t ≡ pump_tilt h batch place out allowance)
unique-report h batch place out allowance = one-equation _

module _ (h : Hub) where
  -- ---- update and insert_event: the answer and the hub

  pub unique-update : (event : List ℕ) → One (λ (r : Answered). r ≡ update_of h event)
  unique-update event = one-equation _

  pub unique-insert-event : (event : List ℕ) → One (λ (r : Answered). r ≡ insert_of h event)
  unique-insert-event event = one-equation _

  -- ---- the counter and repeat

  pub unique-inc : One (λ (r : Hub). r ≡ inc_of h)
  unique-inc = one-equation _

  pub unique-counter : One (λ (r : ℕ). r ≡ h.counter)
  unique-counter = one-equation _

  pub unique-reset-counter : One (λ (r : Hub). r ≡ reset_of h)
  unique-reset-counter = one-equation _

  pub unique-repeat : (after every clock : ℕ) → One (λ (r : Result (Option Event) Refusal). r ≡ repeat_of h after every clock)
  unique-repeat after every clock = one-equation _

  -- ---- the queries

  pub unique-is-pressed-by-code : (p code : ℕ) → One (λ (r : Result Bool Refusal). r ≡ pressed_by_code h p code)
  unique-is-pressed-by-code p code = one-equation _

  pub unique-is-pressed : (p name : ℕ) → One (λ (r : Result Bool Refusal). r ≡ pressed_by_name h p name)
  unique-is-pressed p name = one-equation _

  pub unique-value-by-code : (p code : ℕ) → One (λ (r : Result (Option Float) Refusal). r ≡ value_by_code h p code)
  unique-value-by-code p code = one-equation _

  pub unique-value : (p name : ℕ) → One (λ (r : Result (Option Float) Refusal). r ≡ value_by_name h p name)
  unique-value p name = one-equation _

  pub unique-button-data-by-code : (p code : ℕ) → One (λ (r : Result (Option ButtonData) Refusal). r ≡ button_by_code h p code)
  unique-button-data-by-code p code = one-equation _

  pub unique-button-data : (p name : ℕ) → One (λ (r : Result (Option ButtonData) Refusal). r ≡ button_by_name h p name)
  unique-button-data p name = one-equation _

  pub unique-axis-data-by-code : (p code : ℕ) → One (λ (r : Result (Option AxisData) Refusal). r ≡ axis_by_code h p code)
  unique-axis-data-by-code p code = one-equation _

  pub unique-axis-data : (p name : ℕ) → One (λ (r : Result (Option AxisData) Refusal). r ≡ axis_by_name h p name)
  unique-axis-data p name = one-equation _

  pub unique-deadzone-threshold : (p code : ℕ) → One (λ (r : Result (Option Float) Refusal). r ≡ threshold_by_code h p code)
  unique-deadzone-threshold p code = one-equation _

  pub unique-axis-or-btn-name : (p code : ℕ) → One (λ (r : Result (Option ℕ) Refusal). r ≡ name_by_code h p code)
  unique-axis-or-btn-name p code = one-equation _

  pub unique-code-of-name : (p name : ℕ) → One (λ (r : Result (Option ℕ) Refusal). r ≡ code_by_name h p name)
  unique-code-of-name p name = one-equation _

  pub unique-is-connected : (p : ℕ) → One (λ (r : Result Bool Refusal). r ≡ connected_of h p)
  unique-is-connected p = one-equation _

  pub unique-down : (p : ℕ) → One (λ (r : Result PadDown Refusal). r ≡ down_of h p)
  unique-down p = one-equation _

  pub unique-lowest-pressed : (p : ℕ) → One (λ (r : Result (Option ℕ) Refusal). r ≡ lowest_pressed h p)
  unique-lowest-pressed p = one-equation _

  pub unique-is-old : (p : ℕ) → One (λ (r : Result Bool Refusal). r ≡ old_of h p)
  unique-is-old p = one-equation _

  pub unique-waiting : One (λ (r : ℕ). r ≡ h.waiting)
  unique-waiting = one-equation _
