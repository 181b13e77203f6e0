-- padlog's text always ends with a last line: eight calls are enough for every input. A batch over 16,384 bytes is refused at once; any other has at most 780
-- records, which give at most 3,120 events and steps in all. So no call spends its allowance, and each that fills the buffer has written 744 events.
use Rattle.std.specs.Prelude.{ℕ, zero, suc, ◌+◌, ◌-◌, ◌*◌, ◌/◌, ◌<◌, ◌≤◌, ◌≡◌, refl, Bool, true, false, cond, List, [], ◌⊎◌, length, take, drop, eqb, ltb, Err, Ok, Result}
use Rattle.std.proofs.Common.{◌∙◌, inl, inr, arith, eqb-true, lt-ltb, ltb-true, ltb-false}
use Rattle.std.specs.Float.Ieee as Ieee
use Rattle.std.specs.Float.{binary32}
use Rattle.std.specs.Float.Ieee.{of_bits}
use Rattle.rules.specs.declared.Hub.{Hub}
use Rattle.rules.specs.declared.RawRecord.{RawRecord}
use Rattle.rules.specs.declared.PumpAnswer.{PumpAnswer}
use Rattle.rules.specs.declared.PumpAnswer.TheVariants as pump_answer
use Rattle.rules.specs.Names.{buffer_limit}
use Rattle.rules.specs.Forms.{record_size, event_size}
use Rattle.rules.specs.Refusals.{thresholds_refusal, pump_refusal}
use Rattle.rules.specs.Pump.{Run, pump_of}
use Rattle.rules.specs.Calls.{new_of, register_of}
use Rattle.theory_calls.specs.Machines.{place_said, events_said, steps_said}
use Rattle.theory_calls.specs.Room.{pump-stays}
use Rattle.theory_history.specs.Rule.{records_from}
use Rattle.theory_history.specs.Played.{Played, fresh, register}
use Rattle.theory_history.specs.Lemmas.Handed.{Still, none-still, register-still}
use Rattle.theory_history.specs.Pumps.{most_handed}
use Rattle.theory_history.proofs.Pumps.{pump-counts}
use Rattle.padlog.specs.declared.Tally.{Tally}
use Rattle.padlog.specs.Log.{sheet_end, goes_on, drained, tally_of, last_line, allowance, pump_all, tallied, printed, rounds_of, rounds, desk_hub, log_by, log_of}
use Rattle.padlog.specs.Bounds.{pump-bounded}
use Rattle.padlog.specs.Ends.{LastLine, drained-line, stopped-line, sheet-line, Ends, last, lines}
use Rattle.rules.specs.declared.Refusal.{Refusal}

-- ---- a call

-- how many events an out buffer holds
abbrev held_events : ℕ
held_events = buffer_limit / event_size

record Said (a : PumpAnswer) : Type 0 where
  place : (tally_of a).place ≡ place_said a
  events : (tally_of a).events ≡ events_said a
  steps : (tally_of a).steps ≡ steps_said a

said : (a : PumpAnswer) → Said a
said (pump_answer.Drained place events steps) = record { place = refl; events = refl; steps = refl }
said (pump_answer.Full place events steps) = record { place = refl; events = refl; steps = refl }
said (pump_answer.Paused place events steps) = record { place = refl; events = refl; steps = refl }
said (pump_answer.Refused number place events steps) = record { place = refl; events = refl; steps = refl }

last-by : (t : Tally) (steps : ℕ) (all : Bool) → eqb t.ends drained ≡ all → LastLine (last_line t steps)
unfolding last_line
last-by t steps true e = rw e (drained-line (steps + t.steps))
last-by t steps false e = rw e (stopped-line t.refusal t.place)

call-by : (t : Tally) (steps : ℕ) (rest : List ℕ) (on : Bool) → eqb t.ends goes_on ≡ on → (t.ends ≡ goes_on → Ends rest)
    → Ends (cond (eqb t.ends goes_on) rest (last_line t steps))
call-by t steps rest true e more = rw e (more (eqb-true t.ends goes_on e))
call-by t steps rest false e more = rw e (last (last-by t steps (eqb t.ends drained) refl))

call_ends : (r : Run) (steps : ℕ) (rest : List ℕ) → ((tallied r).ends ≡ goes_on → Ends rest) → Ends (printed r steps rest)
unfolding printed
call_ends r steps rest more = lines r.out (tallied r).events (call-by (tallied r) steps rest (eqb (tallied r).ends goes_on) refl more)

-- ---- the calls

-- what a call that goes on leaves to be handed out: 744 less
fewer : (b size place to count bound written made left : ℕ) → to ≡ place + record_size * count → to ≤ size
    → b + most_handed * ((size - place) / record_size) < held_events * suc left → suc left ≤ rounds
    → written + bound ≤ b + most_handed * count → made + bound ≤ b + most_handed * count
    → (buffer_limit < event_size * written + event_size) ⊎ (allowance ≤ made)
    → bound + most_handed * ((size - to) / record_size) < held_events * left
fewer b size place to count bound written made left at inside all few events steps (inl full) = omega arith
fewer b size place to count bound written made left at inside all few events steps (inr spent) = omega arith

rounds-end : (left : ℕ) (h : Hub) (batch : List ℕ) (place : ℕ) (out : List ℕ) (steps : ℕ) (rs : List RawRecord) → Played h rs → (b : ℕ) → Still h b
    → length out ≡ buffer_limit → place ≤ length batch → b + most_handed * ((length batch - place) / record_size) < held_events * left → left ≤ rounds
    → Ends (rounds_of left h batch place out steps)
unfolding rounds_of pump_all
rounds-end zero h batch place out steps rs w b t size inside all few = absurd (omega arith)
rounds-end (suc left) h batch place out steps rs w b t size inside all few =
    let r = pump_of h batch place out allowance in
    let c = pump-counts h batch place out allowance rs w b t in
    let bounded = pump-bounded h batch place out allowance in
    let s = said r.pumped.answer in
    let at : (tallied r).place ≡ place + record_size * c.count = s.place ∙ c.place in
    let past = (pump-stays batch place out h allowance).inside inside in
    let within : (tallied r).place ≤ length batch = omega (arith, s.place) in
    let written : (tallied r).events + c.bound ≤ b + most_handed * c.count = omega (arith, s.events, c.events) in
    let made : (tallied r).steps + c.bound ≤ b + most_handed * c.count = omega (arith, s.steps, c.steps) in
    call_ends r steps (rounds_of left r.pumped.hub batch (tallied r).place r.out (steps + (tallied r).steps))
    (λ e.
    rounds-end left r.pumped.hub batch (tallied r).place r.out (steps + (tallied r).steps) (records_from c.count batch place rs) c.played
    c.bound c.tail (bounded.long ∙ size) within
    (fewer b (length batch) place (tallied r).place c.count c.bound (tallied r).events (tallied r).steps left at within all few written made
    (rw size at (bounded.undone e)))
    (omega arith))

-- a batch that is too long is refused at once
too_long : (left : ℕ) (h : Hub) (batch : List ℕ) (place : ℕ) (out : List ℕ) (steps : ℕ) → buffer_limit < length batch
    → Ends (rounds_of (suc left) h batch place out steps)
unfolding rounds_of pump_all pump_of pump_refusal
too_long left h batch place out steps long =
    call_ends (pump_all h batch place out) steps _ (λ e. absurd (goes-on (rw (lt-ltb buffer_limit (length batch) long) at e)))
  where
    goes-on : ◌≡◌ {A = ℕ} 2 0 → ⊥
    goes-on e = omega arith

-- ---- the program

batch-ends : (h : Hub) (batch out : List ℕ) (rs : List RawRecord) → Played h rs → Still h 0 → length out ≡ buffer_limit → (long : Bool)
    → ltb buffer_limit (length batch) ≡ long → Ends (rounds_of rounds h batch 0 out 0)
batch-ends h batch out rs w t size true e = too_long 7 h batch 0 out 0 (ltb-true buffer_limit (length batch) e)
batch-ends h batch out rs w t size false e =
    let short = ltb-false buffer_limit (length batch) e in
    rounds-end rounds h batch 0 out 0 rs w 0 t size (omega arith) (omega arith) (omega arith)

log-by : (a : Result ℕ Refusal) (h : Hub) (batch out : List ℕ) (rs : List RawRecord) → Played h rs → Still h 0 → length out ≡ buffer_limit
    → Ends (log_by a h batch out)
log-by (Ok p) h batch out rs w t size = batch-ends h batch out rs w t size (ltb buffer_limit (length batch)) refl
log-by (Err e) h batch out rs w t size = last (sheet-line e.number)

-- the thresholds are accepted, and nothing waits
thresholds : thresholds_refusal (of_bits binary32 0x3f400000) (of_bits binary32 0x3f000000) ≡ 0
unfolding thresholds_refusal Ieee.of_bits Ieee.lt Ieee.le
thresholds = refl

desk-played : Played desk_hub []
unfolding desk_hub
desk-played = fresh (of_bits binary32 0x3f400000) (of_bits binary32 0x3f000000) false thresholds

desk-idle : desk_hub.waiting ≡ 0
unfolding desk_hub new_of Ieee.of_bits Ieee.lt Ieee.le
desk-idle = refl

-- with padlog's out buffer of 16,384 bytes
pub log-ends : (input out : List ℕ) → length out ≡ buffer_limit → Ends (log_of input out)
unfolding log_of
log-ends input out size =
    let sheet = take (sheet_end input) input in
    log-by (register_of desk_hub sheet).answer (register_of desk_hub sheet).hub (drop (sheet_end input) input) out [] (register false sheet desk-played)
    (register-still desk-played false sheet 0 (none-still desk_hub desk-idle)) size
