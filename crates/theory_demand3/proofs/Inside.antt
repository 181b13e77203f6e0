-- "each record hands out at most four events before the next is taken", also inside a call: a moment inside a call is the end of the call that is allowed fewer
-- steps, and from there it goes on as a call of its own does (`Parts` of promises), which history's counting law binds.
use Rattle.std.specs.Prelude.{ℕ, ◌+◌, ◌-◌, ◌*◌, ◌/◌, ◌≤◌, List, ◌≡◌, length}
use Rattle.std.proofs.Common.{sym, ◌∙◌}
use Rattle.std.proofs.Math.Path.{subst}
use native.Mathlib.Omega.{arith}
use Rattle.rules.specs.declared.Hub.{Hub}
use Rattle.rules.specs.declared.PumpAnswer.{PumpAnswer}
use Rattle.rules.specs.Forms.{record_size}
use Rattle.rules.specs.Pump.{Run, pump_of}
use Rattle.theory_calls.specs.Machines.{said, place_said, events_said}
use Rattle.theory_calls.specs.Parts.{unwritten}
use Rattle.theory_calls.proofs.Parts.{pump-parts}
use Rattle.theory_history.specs.Lemmas.Handed.{Still, none-still}
use Rattle.theory_history.specs.Pumps.{most_handed}
use Rattle.theory_history.proofs.Pumps.{pump-took, pump-counts}
use Rattle.theory_demand3.specs.Demand3.{Call, pump, Script, ◌then◌, goes_on, Allowed, play, records_of, events_of}
use Rattle.theory_demand3.proofs.Scripts.{script-played}
use Rattle.theory_demand3.proofs.Counts.{records-length, allowed-before, Counts, counts-on, calls_count}

-- from the end of a call, after which so many events can be handed out, to the end of the call that is allowed more steps: the records taken, what can still be
-- handed out, and what was written
record Later (first whole : Run) (bound : ℕ) : Type 0 where
  count : ℕ
  place : place_said whole.pumped.answer ≡ place_said first.pumped.answer + record_size * count
  left : ℕ
  tail : Still whole.pumped.hub left
  events : events_said whole.pumped.answer + left ≤ events_said first.pumped.answer + bound + most_handed * count

module _ (s : Script) (ok : Allowed s) (batch : List ℕ) (place : ℕ) (out : List ℕ) where
  -- the call, allowed so many steps
  abbrev pumped : ℕ → Script
  pumped allowance = s then pump batch place out allowance

  abbrev run : ℕ → Run
  run allowance = pump_of (play pump_of s) batch place out allowance

  abbrev answered : ℕ → PumpAnswer
  answered allowance = said pump_of (play pump_of s) batch place out allowance

  later : (a b : ℕ) → a ≤ b → (bound : ℕ) → Still (run a).pumped.hub bound → Later (run a) (run b) bound
  unfolding play
  later a b few bound t =
      let parts = pump-parts (play pump_of s) batch place out a (b - a) in
      let played = script-played (pumped a) (ok, tt) in
      let c = pump-counts (run a).pumped.hub batch (place_said (answered a)) (unwritten (run a)) (b - a) (records_of pump_of (pumped a)) played bound t in
      let whole : a + (b - a) ≡ b = omega arith in
      subst (λ (allowance : ℕ). Later (run a) (run allowance) bound) whole
      (record {
        count = c.count;
        place = parts.place ∙ c.place;
        left = c.bound;
        tail = subst (λ (g : Hub). Still g c.bound) (sym parts.hub) c.tail;
        events = omega (arith, parts.events, c.events);
      })

  -- inside one call, where nothing waits after its first a steps
  pub call-four : (a b : ℕ) → a ≤ b → (run a).pumped.hub.waiting ≡ 0
      → events_said (answered b) ≤ events_said (answered a) + 4 * ((place_said (answered b) - place_said (answered a)) / record_size)
  call-four a b few none =
      let l = later a b few 0 (none-still (run a).pumped.hub none) in
      omega (arith, l.place, l.events)

  later-counts : (a b : ℕ) → a ≤ b → (bound : ℕ) → Still (run a).pumped.hub bound → Counts (pumped a) (pumped b) bound
  unfolding play records_of events_of
  later-counts a b few bound t =
      let l = later a b few bound t in
      let took = pump-took (play pump_of s) batch place out a (records_of pump_of s) (script-played s ok) in
      let before = records-length ((place_said (answered a) - place) / record_size) batch place (records_of pump_of s) in
      let after = records-length ((place_said (answered b) - place) / record_size) batch place (records_of pump_of s) in
      record { bound = l.left; tail = l.tail; more = omega (arith, took.place, l.place); few = omega (arith, took.place, l.place, l.events) }

-- from a moment inside a call at which nothing waits to any later one; one inside a later call is the end of that call, allowed fewer steps
pub inside-four : (s : Script) (batch : List ℕ) (place : ℕ) (out : List ℕ) (a b : ℕ) (cs : List Call) → a ≤ b
    → Allowed (goes_on (s then pump batch place out b) cs) → (play pump_of (s then pump batch place out a)).waiting ≡ 0
    → events_of pump_of (goes_on (s then pump batch place out b) cs)
    ≤ events_of pump_of (s then pump batch place out a)
    + 4 * (length (records_of pump_of (goes_on (s then pump batch place out b) cs)) - length (records_of pump_of (s then pump batch place out a)))
unfolding play
inside-four s batch place out a b cs few ok none =
    let first = s then pump batch place out a in
    let whole = s then pump batch place out b in
    let here = later-counts s (allowed-before whole cs ok).0 batch place out a b few 0 (none-still (play pump_of first) none) in
    omega (arith, (counts-on first whole (goes_on whole cs) 0 here (calls_count whole cs ok here.bound here.tail)).few)
