-- What an answer says, by `answer_says` and its like of `rules/specs/Answers.antt`, is what is judged, by `judged` and for the pump `pump_judged` of
-- `specs/Judged.antt`: one law for what is always there, and one for what may be absent. By cases on the refusal's number, and for the pump by induction on its
-- steps.
use Rattle.std.specs.Prelude.{ℕ, zero, suc, ◌-◌, ◌*◌, Bool, true, false, cond, not, ◌&&◌, List, [], ◌∷◌, ◌≡◌, refl, eqb, ltb, Float, length, Err, None, Ok, Option, Result, Some}
use Rattle.std.proofs.Common.{ap}
use Rattle.std.specs.Float.{binary32}
use Rattle.std.specs.Float.Ieee.{to_bits}
use Rattle.rules.specs.declared.Hub.{Hub}
use Rattle.rules.specs.declared.Event.{Event}
use Rattle.rules.specs.declared.ButtonData.{ButtonData}
use Rattle.rules.specs.declared.AxisData.{AxisData}
use Rattle.rules.specs.declared.Answered.{Answered}
use Rattle.rules.specs.declared.EventForm.{EventForm}
use Rattle.rules.specs.declared.PadDown.{PadDown}
use Rattle.rules.specs.declared.Refusal.{Refusal}
use Rattle.rules.specs.Forms.{event_size}
use Rattle.rules.specs.Events.{event_bytes}
use Rattle.rules.specs.Step.{next_record_of, step_refusal}
use Rattle.rules.specs.Pump.{Progress, Verdict, going, stopping, refusing, drained, full, paused, go_on, stop_of, verdict_by, verdict_of}
use Rattle.rules.specs.Pump.{stepped, ended_by, run_of, start_of, pump_by}
use Rattle.rules.specs.Repeat.{repeat_by}
use Rattle.rules.specs.Calls.{register_by, update_form_by, update_by, insert_form_by, insert_by}
use Rattle.rules.specs.Queries.{found_by, pad_down}
use Rattle.rules.specs.Answers.{Said, served, refused, bit, answer_says, register_says, pump_says, repeat_says, truth_says, value_says, button_says, axis_says, number_says, down_says}
use Rattle.rules.specs.Refusals.{numbered, answer_by}
use Rattle.theory_calls.specs.Judged.{judged, present, button_values, axis_values, event_refusal, update_refusal, queue_refusal, ending_of, pump_ending, ending_says, pump_judged}

-- ---- Done, or the refusal

pub done-said : (call : ℕ → Answered) → (call zero).answer ≡ Ok tt
    → ((number : ℕ) → (call (suc number)).answer ≡ Err (numbered (suc number)))
    → (number : ℕ) → answer_says (call number).answer ≡ judged number []
done-said call done refuses zero = ap answer_says done
done-said call done refuses (suc number) = ap answer_says (refuses number)

-- ---- what `says` of each case it says of an answer: of what is always there, and of what may be absent

module _ {A : Type 0} (values : A → List ℕ) where
  answer-said : (says : Result A Refusal → Said) → ((x : A) → says (Ok x) ≡ served (values x)) → ((e : Refusal) → says (Err e) ≡ refused e.number [])
      → (number : ℕ) (x : A) → says (answer_by number x) ≡ judged number (values x)
  answer-said says serves refuses zero x = serves x
  answer-said says serves refuses (suc number) x = refuses (numbered (suc number))

  found-said : (says : Result (Option A) Refusal → Said) → ((x : A) → says (Ok (Some x)) ≡ served (values x)) → says (Ok None) ≡ served []
      → ((e : Refusal) → says (Err e) ≡ refused e.number []) → (number : ℕ) (here : Bool) (x : A)
      → says (found_by number here x) ≡ judged number (present here (values x))
  found-said says finds misses refuses zero true x = finds x
  found-said says finds misses refuses zero false x = misses
  found-said says finds misses refuses (suc number) here x = refuses (numbered (suc number))

-- ---- a pad, an event, a truth, a value, a record, a number, what is down

pub register-said : (number : ℕ) (h : Hub) (sheet : List ℕ) → register_says (register_by number h sheet).answer ≡ judged number (h.pads ∷ [])
register-said zero h sheet = refl
register-said (suc number) h sheet = refl

pub repeat-said : (number : ℕ) (due : Bool) (e : Event) → repeat_says (repeat_by number due e) ≡ judged number (present due (event_bytes e))
repeat-said zero true e = refl
repeat-said zero false e = refl
repeat-said (suc number) due e = refl

pub truth-said : (number : ℕ) (b : Bool) → truth_says (answer_by number b) ≡ judged number (bit b ∷ [])
truth-said = answer-said (λ (b : Bool). bit b ∷ []) truth_says (λ b. refl) (λ e. refl)

pub value-said : (number : ℕ) (here : Bool) (v : Float) → value_says (found_by number here v) ≡ judged number (present here (to_bits binary32 v ∷ []))
value-said = found-said (λ (v : Float). to_bits binary32 v ∷ []) value_says (λ v. refl) refl (λ e. refl)

pub button-said : (number : ℕ) (here : Bool) (b : ButtonData) → button_says (found_by number here b) ≡ judged number (present here (button_values b))
button-said = found-said button_values button_says (λ b. refl) refl (λ e. refl)

pub axis-said : (number : ℕ) (here : Bool) (a : AxisData) → axis_says (found_by number here a) ≡ judged number (present here (axis_values a))
axis-said = found-said axis_values axis_says (λ a. refl) refl (λ e. refl)

pub number-said : (number : ℕ) (here : Bool) (x : ℕ) → number_says (found_by number here x) ≡ judged number (present here (x ∷ []))
number-said = found-said (λ (x : ℕ). x ∷ []) number_says (λ x. refl) refl (λ e. refl)

-- a name, or none
pub name-said : (number : ℕ) (none : Bool) (name : ℕ)
    → number_says (found_by number (cond none false true) name) ≡ judged number (present (not none) (name ∷ []))
name-said number true name = number-said number false name
name-said number false name = number-said number true name

-- a count, and whether an axis element is among them
pub down-said : (number count : ℕ) (axis : Bool) → down_says (answer_by number (pad_down count axis)) ≡ judged number (count ∷ bit axis ∷ [])
down-said number count axis =
    answer-said (λ (d : PadDown). d.count ∷ bit d.axis ∷ []) down_says (λ d. refl) (λ e. refl) number (pad_down count axis)

-- ---- update and insert_event

pub update-said : (read : Option EventForm) (h : Hub) → answer_says (update_by read h).answer ≡ judged (event_refusal (update_refusal h) read) []
update-said (Some f) h = done-said (λ (number : ℕ). update_form_by number h f) refl (λ (number : ℕ). refl) (update_refusal h f)
update-said None h = refl

pub insert-said : (read : Option EventForm) (h : Hub) → answer_says (insert_by read h).answer ≡ judged (event_refusal (queue_refusal h) read) []
insert-said (Some f) h = done-said (λ (number : ℕ). insert_form_by number h f) refl (λ (number : ℕ). refl) (queue_refusal h f)
insert-said None h = refl

-- ---- the pump

-- the reasons are 1, 2 and 3, and there is no other
reasons-said : (done short spent : Bool) (refusal : ℕ) (p : Progress)
    → let v = verdict_by (cond done drained (cond short full (cond spent paused go_on))) refusal in
    pump_says (ended_by v p).pumped.answer ≡ ending_says v p
reasons-said true short spent refusal p = refl
reasons-said false true spent refusal p = refl
reasons-said false false true refusal p = refl
reasons-said false false false zero p = refl
reasons-said false false false (suc number) p = refl

verdict-said : (left : ℕ) (s : List ℕ) (p : Progress) → pump_says (ended_by (verdict_of left s p) p).pumped.answer ≡ ending_says (verdict_of left s p) p
unfolding verdict_of stop_of
verdict-said left s p =
    reasons-said (eqb p.hub.waiting 0 && eqb (length s - p.at) 0) (ltb (length p.out - event_size * p.events) event_size) (eqb left 0)
    (step_refusal p.hub (next_record_of p.hub.waiting s p.at)) p

run-said : (left : ℕ) (v : Verdict) (s : List ℕ) (p : Progress) → pump_says (ended_by v p).pumped.answer ≡ ending_says v p
    → pump_says (run_of left v s p).pumped.answer ≡ ending_says (ending_of left v s p).verdict (ending_of left v s p).progress
unfolding run_of ending_of
run-said zero v s p here = here
run-said (suc left) going s p here = run-said left (verdict_of left s (stepped s p)) s (stepped s p) (verdict-said left s (stepped s p))
run-said (suc left) (stopping why) s p here = here
run-said (suc left) (refusing number) s p here = here

pub pump-said : (number : ℕ) (h : Hub) (s : List ℕ) (place : ℕ) (out : List ℕ) (allowance : ℕ)
    → pump_says (pump_by number h s place out allowance).pumped.answer ≡ pump_judged number place (pump_ending h s place out allowance)
pump-said zero h s place out allowance = run-said allowance _ s (start_of h place out) (verdict-said allowance s (start_of h place out))
pump-said (suc number) h s place out allowance = refl
