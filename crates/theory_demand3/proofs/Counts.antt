-- "each record hands out at most four events before the next is taken": `four` and `before` of the page. What was written since and what can still be
-- handed out is at most what could be, and four for each record taken: a pump by history's counting law, and no other call changes any of it.
use Rattle.std.specs.Prelude.{ℕ, zero, suc, ◌+◌, ◌-◌, ◌*◌, ◌/◌, ◌≤◌, true, false, List, [], ◌∷◌, ◌≡◌, length, Err, None, Ok, Option, Result, Some}
use Rattle.std.proofs.Common.{◌∙◌, arith}
use Rattle.rules.specs.declared.Hub.{Hub}
use Rattle.rules.specs.declared.RawRecord.{RawRecord}
use Rattle.rules.specs.declared.Event.{Event}
use Rattle.rules.specs.declared.Refusal.{Refusal}
use Rattle.rules.specs.Forms.{record_size, record_fields}
use Rattle.rules.specs.Events.{event_bytes}
use Rattle.rules.specs.Repeat.{repeat_of}
use Rattle.rules.specs.Pump.{pump_of}
use Rattle.theory_calls.specs.Machines.{said, place_said, steps_said}
use Rattle.theory_history.specs.Rule.{records_from}
use Rattle.theory_history.specs.Played.{reached}
use Rattle.theory_history.specs.Lemmas.Handed.{Still, none-still, register-still, inc-still, reset-still, update-still}
use Rattle.theory_history.specs.Pumps.{most_handed}
use Rattle.theory_history.proofs.Pumps.{pump-counts}
use Rattle.theory_demand3.specs.Demand3.{Call, register, pump, inc, reset, repeat, Script, ◌then◌, goes_on, Allowed, fed_back, play, records_of, events_of}
use Rattle.theory_demand3.proofs.Scripts.{script-played}
use Rattle.theory_demand3.specs.Before.{pump-before}

pub records-length : (n : ℕ) (s : List ℕ) (at : ℕ) (rs : List RawRecord) → length (records_from n s at rs) ≡ n + length rs
unfolding records_from
records-length zero s at rs = omega arith
records-length (suc n) s at rs = records-length n s (at + record_size) (record_fields s at ∷ rs) ∙ omega arith

fed-still : (a : Result (Option Event) Refusal) (h : Hub) (b : ℕ) → Still h b → Still (fed_back a h) b
fed-still (Ok (Some e)) h b t = update-still h (event_bytes e) b t
fed-still (Ok None) h b t = t
fed-still (Err e) h b t = t

-- scripts without their last calls
pub allowed-before : (s : Script) (cs : List Call) → Allowed (goes_on s cs) → Allowed s
allowed-before s [] ok = ok
allowed-before s (c ∷ cs) ok = (allowed-before (s then c) cs ok).0

-- from a script, after which b events can be handed out, to one that goes on: what was written, what can be handed out now, and the records taken
pub record Counts (s t : Script) (b : ℕ) : Type 0 where
  pub bound : ℕ
  pub tail : Still (play pump_of t) bound
  pub more : length (records_of pump_of s) ≤ length (records_of pump_of t)
  pub few : events_of pump_of t + bound ≤ events_of pump_of s + b + most_handed * (length (records_of pump_of t) - length (records_of pump_of s))

pub counts-on : (s t u : Script) (b : ℕ) (one : Counts s t b) → Counts t u one.bound → Counts s u b
counts-on s t u b one rest =
    record {
      bound = rest.bound;
      tail = rest.tail;
      more = omega (arith, one.more, rest.more);
      few = omega (arith, one.more, rest.more, one.few, rest.few);
    }

call-counts : (s : Script) → Allowed s → (c : Call) (b : ℕ) → Still (play pump_of s) b → Counts s (s then c) b
unfolding play records_of events_of
call-counts s ok (register archived sheet) b t =
    record { bound = b; tail = register-still (script-played s ok) archived sheet b t; more = omega arith; few = omega arith }
call-counts s ok (pump batch place out allowance) b t =
    let c = pump-counts (play pump_of s) batch place out allowance (records_of pump_of s) (script-played s ok) b t in
    let n = (place_said (said pump_of (play pump_of s) batch place out allowance) - place) / record_size in
    let count : n ≡ c.count = omega (arith, c.place) in
    let long = records-length n batch place (records_of pump_of s) in
    record { bound = c.bound; tail = c.tail; more = omega arith; few = omega (arith, c.events) }
call-counts s ok inc b t = record { bound = b; tail = inc-still (play pump_of s) b t; more = omega arith; few = omega arith }
call-counts s ok reset b t = record { bound = b; tail = reset-still (play pump_of s) b t; more = omega arith; few = omega arith }
call-counts s ok (repeat after every clock true) b t =
    record { bound = b; tail = fed-still (repeat_of (play pump_of s) after every clock) (play pump_of s) b t; more = omega arith; few = omega arith }
call-counts s ok (repeat after every clock false) b t = record { bound = b; tail = t; more = omega arith; few = omega arith }

pub calls_count : (s : Script) (cs : List Call) → Allowed (goes_on s cs) → (b : ℕ) → Still (play pump_of s) b → Counts s (goes_on s cs) b
calls_count s [] ok b t = record { bound = b; tail = t; more = omega arith; few = omega arith }
calls_count s (c ∷ cs) ok b t =
    let one = call-counts s (allowed-before (s then c) cs ok).0 c b t in
    counts-on s (s then c) (goes_on (s then c) cs) b one (calls_count (s then c) cs ok one.bound one.tail)

pub script-four : (s : Script) (cs : List Call) → Allowed (goes_on s cs) → (play pump_of s).waiting ≡ 0
    → events_of pump_of (goes_on s cs) ≤ events_of pump_of s + 4 * (length (records_of pump_of (goes_on s cs)) - length (records_of pump_of s))
script-four s cs ok none = omega (arith, (calls_count s cs ok 0 (none-still (play pump_of s) none)).few)

pub script-before : (s : Script) → Allowed s → (batch : List ℕ) (place : ℕ) (out : List ℕ) (allowance : ℕ)
    → steps_said (said pump_of (play pump_of s) batch place out allowance) ≤ (play pump_of s).waiting
    → place_said (said pump_of (play pump_of s) batch place out allowance) ≡ place
script-before s ok batch place out allowance few = pump-before (play pump_of s) batch place out allowance (reached (script-played s ok)) few
