-- For each case of each answer, document 01's number and values: 0 and the values where the call was served, the refusal's number where it was not.
-- Definitions only.
use Rattle.std.specs.Prelude.{ℕ, List, [], ◌∷◌, Bool, cond, Float, Err, None, Ok, Option, Result, Some}
use Rattle.std.specs.Float.{binary32}
use Rattle.std.specs.Float.Ieee.{to_bits}
use Rattle.numbers.specs.declared.Tilt.{Tilt}
use Rattle.numbers.specs.declared.Tilt.TheVariants.{Unmet, Inside, Between, Full}
use Rattle.rules.specs.declared.ButtonData.{ButtonData}
use Rattle.rules.specs.declared.AxisData.{AxisData}
use Rattle.rules.specs.declared.PumpAnswer.{PumpAnswer}
use Rattle.rules.specs.declared.PumpAnswer.TheVariants as pump_answer
use Rattle.rules.specs.declared.PadDown.{PadDown}
use Rattle.rules.specs.declared.Event.{Event}
use Rattle.rules.specs.declared.Refusal.{Refusal}
use Rattle.rules.specs.Events.{event_bytes}
use Rattle.rules.specs.Pump.{drained, full, paused}

-- a refusal's number, 0 for none, and the values beside it; a truth is 0 or 1, a float its bits
pub record Said : Type 0 where
  pub refusal : ℕ
  pub values : List ℕ

abbrev pub served : List ℕ → Said
served values = record { refusal = 0; values = values }

abbrev pub refused : ℕ → List ℕ → Said
refused number values = record { refusal = number; values = values }

abbrev pub bit : Bool → ℕ
bit b = cond b 1 0

abbrev pub answer_says : Result (Unit {0}) Refusal → Said
answer_says (Ok tt) = served []
answer_says (Err e) = refused e.number []

abbrev pub register_says : Result ℕ Refusal → Said
register_says (Ok p) = served (p ∷ [])
register_says (Err e) = refused e.number []

-- "The answer holds reason, place, events written, and the number of steps made"
abbrev pub pump_says : PumpAnswer → Said
pump_says (pump_answer.Drained place events steps) = served (drained ∷ place ∷ events ∷ steps ∷ [])
pump_says (pump_answer.Full place events steps) = served (full ∷ place ∷ events ∷ steps ∷ [])
pump_says (pump_answer.Paused place events steps) = served (paused ∷ place ∷ events ∷ steps ∷ [])
pump_says (pump_answer.Refused number place events steps) = refused number (place ∷ events ∷ steps ∷ [])

-- 02's W-205: beside each of a pump's answers
abbrev pub tilt_says : Tilt → ℕ
tilt_says Unmet = 0
tilt_says Inside = 1
tilt_says Between = 2
tilt_says Full = 3

-- the event's 22 bytes, or none
abbrev pub repeat_says : Result (Option Event) Refusal → Said
repeat_says (Ok (Some e)) = served (event_bytes e)
repeat_says (Ok None) = served []
repeat_says (Err e) = refused e.number []

abbrev pub truth_says : Result Bool Refusal → Said
truth_says (Ok b) = served (bit b ∷ [])
truth_says (Err e) = refused e.number []

abbrev pub value_says : Result (Option Float) Refusal → Said
value_says (Ok (Some v)) = served (to_bits binary32 v ∷ [])
value_says (Ok None) = served []
value_says (Err e) = refused e.number []

abbrev pub button_says : Result (Option ButtonData) Refusal → Said
button_says (Ok (Some b)) =
    served (to_bits binary32 b.value ∷ b.stamp ∷ b.counter ∷ bit b.pressed ∷ bit b.repeating ∷ b.since ∷ [])
button_says (Ok None) = served []
button_says (Err e) = refused e.number []

abbrev pub axis_says : Result (Option AxisData) Refusal → Said
axis_says (Ok (Some a)) = served (to_bits binary32 a.value ∷ a.stamp ∷ a.counter ∷ [])
axis_says (Ok None) = served []
axis_says (Err e) = refused e.number []

abbrev pub number_says : Result (Option ℕ) Refusal → Said
number_says (Ok (Some x)) = served (x ∷ [])
number_says (Ok None) = served []
number_says (Err e) = refused e.number []

-- the count, and whether an axis element is among them
abbrev pub down_says : Result PadDown Refusal → Said
down_says (Ok d) = served (d.count ∷ bit d.axis ∷ [])
down_says (Err e) = refused e.number []
