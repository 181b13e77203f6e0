-- Each answer as a plain struct: the refusal's number, 0 where the call was served, and the values, 0 or false where there is none. Definitions, and that each
-- struct says what the law book's `*Says` says, by computation.
use Rattle.std.specs.Prelude.{ℕ, ◌≡◌, refl, Bool, true, false, cond, List, [], ◌∷◌, ◌++◌, drop, eqb, Err, Float, None, Ok, Option, Result, Some}
use Rattle.std.proofs.Common.{ap, append-nil}
use Rattle.std.specs.Float.{binary32}
use Rattle.std.specs.Float.Ieee.{to_bits}
use Rattle.rules.specs.declared.ButtonData.{ButtonData}
use Rattle.rules.specs.declared.AxisData.{AxisData}
use Rattle.rules.specs.declared.PumpAnswer.{PumpAnswer}
use Rattle.rules.specs.declared.PumpAnswer.TheVariants as pump_answer
use Rattle.rules.specs.Events.{event_bytes}
use Rattle.rules.specs.Pump.{drained, full, paused}
use Rattle.rules.specs.Answers.{Said, served, bit, answer_says, register_says, pump_says, tilt_says, repeat_says, truth_says, value_says, button_says, axis_says, number_says}
use Rattle.rules.specs.Answers.{down_says}
use Rattle.numbers.specs.Constants.{zero32}
use Rattle.numbers.specs.declared.Tilt.{Tilt}
use Rattle.numbers.specs.declared.Tilted.{Tilted}
use Rattle.crossing.specs.declared.Pad.{Pad}
use Rattle.crossing.specs.declared.Truth.{Truth}
use Rattle.crossing.specs.declared.Value.{Value}
use Rattle.crossing.specs.declared.Number.{Number}
use Rattle.crossing.specs.declared.Button.{Button}
use Rattle.crossing.specs.declared.Axis.{Axis}
use Rattle.crossing.specs.declared.Down.{Down}
use Rattle.crossing.specs.declared.Report.{Report}
use Rattle.crossing.specs.declared.TiltedPair.{TiltedPair}
use Rattle.crossing.specs.declared.Due.{Due}
use Rattle.rules.specs.Queries.{pad_down}
use Rattle.rules.specs.declared.PadDown.{PadDown}
use Rattle.rules.specs.declared.Event.{Event}
use Rattle.rules.specs.declared.Refusal.{Refusal}

-- ---- the structs

abbrev pub refusal_of : Result (Unit {0}) Refusal → ℕ
refusal_of (Ok tt) = 0
refusal_of (Err e) = e.number

abbrev pub pad_of : Result ℕ Refusal → Pad
pad_of (Ok p) = record { refusal = 0; pad = p }
pad_of (Err e) = record { refusal = e.number; pad = 0 }

abbrev pub truth_of : Result Bool Refusal → Truth
truth_of (Ok b) = record { refusal = 0; is = b }
truth_of (Err e) = record { refusal = e.number; is = false }

abbrev pub value_of : Result (Option Float) Refusal → Value
value_of (Ok (Some v)) = record { refusal = 0; known = true; value = v }
value_of (Ok None) = record { refusal = 0; known = false; value = zero32 }
value_of (Err e) = record { refusal = e.number; known = false; value = zero32 }

abbrev pub number_of : Result (Option ℕ) Refusal → Number
number_of (Ok (Some n)) = record { refusal = 0; known = true; number = n }
number_of (Ok None) = record { refusal = 0; known = false; number = 0 }
number_of (Err e) = record { refusal = e.number; known = false; number = 0 }

abbrev pub known_button : ButtonData → Button
known_button b =
    record {
      refusal = 0;
      known = true;
      pressed = b.pressed;
      repeating = b.repeating;
      value = b.value;
      stamp = b.stamp;
      counter = b.counter;
      since = b.since;
    }

abbrev pub no_button : ℕ → Button
no_button number =
    record {
      refusal = number;
      known = false;
      pressed = false;
      repeating = false;
      value = zero32;
      stamp = 0;
      counter = 0;
      since = 0;
    }

abbrev pub button_of : Result (Option ButtonData) Refusal → Button
button_of (Ok (Some b)) = known_button b
button_of (Ok None) = no_button 0
button_of (Err e) = no_button e.number

abbrev pub known_axis : AxisData → Axis
known_axis a = record { refusal = 0; known = true; value = a.value; stamp = a.stamp; counter = a.counter }

abbrev pub no_axis : ℕ → Axis
no_axis number = record { refusal = number; known = false; value = zero32; stamp = 0; counter = 0 }

abbrev pub axis_of : Result (Option AxisData) Refusal → Axis
axis_of (Ok (Some a)) = known_axis a
axis_of (Ok None) = no_axis 0
axis_of (Err e) = no_axis e.number

abbrev pub down_of : Result PadDown Refusal → Down
down_of (Ok d) = record { refusal = 0; count = d.count; axis = d.axis }
down_of (Err e) = record { refusal = e.number; count = 0; axis = false }

abbrev pub report_by : ℕ → ℕ → ℕ → ℕ → ℕ → ℕ → Report
report_by refusal reason tilt place events steps =
    record { refusal = refusal; reason = reason; tilt = tilt; place = place; events = events; steps = steps }

-- an answer, and the report beside it
abbrev pub report_of : PumpAnswer → Tilt → Report
report_of (pump_answer.Drained place events steps) tilt = report_by 0 drained (tilt_says tilt) place events steps
report_of (pump_answer.Full place events steps) tilt = report_by 0 full (tilt_says tilt) place events steps
report_of (pump_answer.Paused place events steps) tilt = report_by 0 paused (tilt_says tilt) place events steps
report_of (pump_answer.Refused number place events steps) tilt = report_by number 0 (tilt_says tilt) place events steps

-- the deadzone calculation, which refuses nothing
abbrev pub tilted_pair_of : Tilted → TiltedPair
tilted_pair_of t = record { x = t.pair.x; y = t.pair.y; tilt = tilt_says t.tilt }

abbrev pub due_of : Result (Option Event) Refusal → Due
due_of (Ok (Some e)) = record { refusal = 0; due = true }
due_of (Ok None) = record { refusal = 0; due = false }
due_of (Err e) = record { refusal = e.number; due = false }

-- the lent buffer after it: the event's 22 bytes, or as it was
abbrev pub due_bytes : Result (Option Event) Refusal → List ℕ → List ℕ
due_bytes (Ok (Some e)) before = event_bytes e ++ drop 22 before
due_bytes (Ok None) before = before
due_bytes (Err e) before = before

-- ---- they say what the law book says: 0 and the values, or the refusal's number

-- what a struct says, by its own fields
abbrev pub said : ℕ → Bool → List ℕ → Said
said refusal known values = record { refusal = refusal; values = cond known values [] }

pub done-says : (a : Result (Unit {0}) Refusal) → said (refusal_of a) false [] ≡ answer_says a
done-says (Ok tt) = refl
done-says (Err e) = refl

pub value-says :
    (a : Result (Option Float) Refusal) → said (value_of a).refusal (value_of a).known (to_bits binary32 (value_of a).value ∷ []) ≡ value_says a
value-says (Ok (Some v)) = refl
value-says (Ok None) = refl
value-says (Err e) = refl

pub number-says : (a : Result (Option ℕ) Refusal) → said (number_of a).refusal (number_of a).known ((number_of a).number ∷ []) ≡ number_says a
number-says (Ok (Some n)) = refl
number-says (Ok None) = refl
number-says (Err e) = refl

-- a button's record as the law book lists it
abbrev pub button_values : Button → List ℕ
button_values b = to_bits binary32 b.value ∷ b.stamp ∷ b.counter ∷ bit b.pressed ∷ bit b.repeating ∷ b.since ∷ []

pub button-says : (a : Result (Option ButtonData) Refusal) → said (button_of a).refusal (button_of a).known (button_values (button_of a)) ≡ button_says a
button-says (Ok (Some b)) = refl
button-says (Ok None) = refl
button-says (Err e) = refl

abbrev pub axis_values : Axis → List ℕ
axis_values a = to_bits binary32 a.value ∷ a.stamp ∷ a.counter ∷ []

pub axis-says : (a : Result (Option AxisData) Refusal) → said (axis_of a).refusal (axis_of a).known (axis_values (axis_of a)) ≡ axis_says a
axis-says (Ok (Some a)) = refl
axis-says (Ok None) = refl
axis-says (Err e) = refl

-- where there is no `known`, a value is there just where nothing is refused

pub pad-says : (p : ℕ) → said 0 true ((pad_of (Ok p)).pad ∷ []) ≡ register_says (Ok p)
pad-says p = refl

pub truth-says : (b : Bool) → said 0 true (bit (truth_of (Ok b)).is ∷ []) ≡ truth_says (Ok b)
truth-says b = refl

pub down-says :
    (count : ℕ) (axis : Bool)
    → (let d = down_of (Ok (pad_down count axis)) in said 0 true (d.count ∷ bit d.axis ∷ []))
    ≡ down_says (Ok (pad_down count axis))
down-says count axis = refl

-- a refused pump has its place, events and steps too
abbrev pub report_says : Report → Said
report_says r =
    record {
      refusal = r.refusal;
      values = cond (eqb r.reason 0) [] (r.reason ∷ []) ++ (r.place ∷ r.events ∷ r.steps ∷ []);
    }

pub report-says : (a : PumpAnswer) (t : Tilt) → (report_says (report_of a t) ≡ pump_says a) × ((report_of a t).tilt ≡ tilt_says t)
report-says (pump_answer.Drained place events steps) t = (refl, refl)
report-says (pump_answer.Full place events steps) t = (refl, refl)
report-says (pump_answer.Paused place events steps) t = (refl, refl)
report-says (pump_answer.Refused number place events steps) t = (refl, refl)

pub due-says : (a : Result (Option Event) Refusal) → said (due_of a).refusal (due_of a).due (due_bytes a []) ≡ repeat_says a
due-says (Ok (Some e)) = ap served (append-nil (event_bytes e))
due-says (Ok None) = refl
due-says (Err e) = refl
