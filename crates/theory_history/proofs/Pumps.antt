-- What a pump does with a batch: each step serves an event that waits, or takes the record at the place while none does. So the records taken are those of the
-- batch from the place given to the place answered, 21 bytes each, wherever the pump stopped; and each record pays for at most four steps, and so for at most
-- four events, counted with what waited before and what still waits. What is said (`Took`, `FourEach`) stands in `specs/Pumps`.
use Rattle.std.specs.Prelude.{ℕ, suc, ◌+◌, ◌<◌, ◌≤◌, Bool, true, false, List, ◌∷◌, ◌≡◌, refl, ltb}
use Rattle.std.proofs.Common.{sym, ap, subst, ◌∙◌, arith, ltb-true, ltb-false}
use Rattle.rules.specs.declared.Hub.{Hub}
use Rattle.rules.specs.declared.RawRecord.{RawRecord}
use Rattle.rules.specs.Forms.{record_fields, read_record, record_size}
use Rattle.rules.specs.Places.{one_if}
use Rattle.rules.specs.Refusals.{record_refusal}
use Rattle.rules.specs.Filters.{kept_of}
use Rattle.rules.specs.Step.{next_record_by, next_record_of, record_kind, step_refusal, step_event, step_hub}
use Rattle.rules.specs.Pump.{Progress, place_after, stepped_by, stepped, pump_of}
use Rattle.theory_calls.specs.Runs.{Goes, end_of, pump-holds}
use Rattle.theory_calls.specs.Room.{accepted-fits}
use Rattle.theory_calls.specs.Waiting.{waiting_list}
use Rattle.theory_history.specs.Rule.{records_from}
use Rattle.theory_history.specs.Played.{Played, take, serve}
use Rattle.theory_history.specs.Lemmas.Tails.{Less}
use Rattle.theory_history.specs.Lemmas.Brings.{Few}
use Rattle.theory_history.specs.Lemmas.Handed.{Still, none-still, take-few, serve-less, still}
use Rattle.theory_history.specs.Pumps.{FourEach, Took, one_more}

-- ---- a step

-- what a step that is made does to a hub, b being what could be handed out before it
data Makes (h : Hub) (s : List ℕ) (at : ℕ) (rs : List RawRecord) (b : ℕ) : Hub → ℕ → Type 0 where
  serves : {g : Hub} → 0 < h.waiting → Played g rs → Less g.flags (waiting_list g) b → Makes h s at rs b g at
  takes : {g : Hub} → h.waiting ≡ 0 → Played g (record_fields s at ∷ rs) → Few g.flags (waiting_list g) → Makes h s at rs b g (at + record_size)

record-makes : (h : Hub) (s : List ℕ) (at : ℕ) (rs : List RawRecord) (b : ℕ) → h.waiting ≡ 0
    → record_refusal (next_record_by (read_record s at)) h.pads (record_kind h (next_record_by (read_record s at)).raw) ≡ 0 → Played h rs
    → Makes h s at rs b (step_hub h (next_record_by (read_record s at))) (at + record_size)
unfolding read_record
record-makes h s at rs b none ok w =
    let fits = accepted-fits h s at ok in
    rw fits (takes none (take (record_fields s at) none (rw fits at ok) w) (take-few w (record_fields s at) none))

hub-makes : (h : Hub) (s : List ℕ) (at : ℕ) (rs : List RawRecord) (b : ℕ) (waits : Bool) → ltb 0 h.waiting ≡ waits
    → step_refusal h (next_record_of h.waiting s at) ≡ 0 → Played h rs → Still h b
    → Makes h s at rs b (step_hub h (next_record_of h.waiting s at)) (place_after h.waiting at)
unfolding step_refusal next_record_of place_after
hub-makes h s at rs b true e ok w t =
    let some = ltb-true 0 h.waiting e in
    rw e (serves some (serve some w) (serve-less w some b t))
hub-makes h s at rs b false e ok w t =
    let few = ltb-false 0 h.waiting e in
    rw e (record-makes h s at rs b (omega arith) (rw e at ok) w)

step-makes : (s : List ℕ) (p : Progress) (rs : List RawRecord) (b left : ℕ) → Goes left s p → Played p.hub rs → Still p.hub b
    → Makes p.hub s p.at rs b (stepped s p).hub (stepped s p).at
unfolding stepped stepped_by
step-makes s p rs b left goes w t = hub-makes p.hub s p.at rs b (ltb 0 p.hub.waiting) refl goes.accepted w t

-- it is one step, and writes at most one event
record Counts (p q : Progress) : Type 0 where
  step : q.steps ≡ p.steps + 1
  one : q.events ≤ p.events + 1

step_counts : (s : List ℕ) (p : Progress) → Counts p (stepped s p)
unfolding stepped stepped_by
step_counts s p =
    let b = kept_of p.hub.filters (step_event p.hub (next_record_of p.hub.waiting s p.at)) in
    record { step = refl; one = omega (arith, one_at_most b) }
  where
    one_at_most : (b : Bool) → one_if b ≤ 1
    one_at_most true = omega arith
    one_at_most false = omega arith

-- ---- a pump

module _ (s : List ℕ) (from : ℕ) (rs : List RawRecord) (b : ℕ) where
  took_by : (p : Progress) (w : Took s from rs b p) {g : Hub} {to : ℕ} (out : List ℕ) (events steps : ℕ) → events ≤ p.events + 1 → steps ≡ p.steps + 1
      → Makes p.hub s p.at (records_from w.count s from rs) w.bound g to
      → Took s from rs b (record { hub = g; at = to; out = out; events = events; steps = steps })
  took_by p w out events steps one more (serves some played less) =
      record {
        count = w.count;
        place = w.place;
        played = played;
        bound = less.bound;
        tail = less.tail;
        events = omega (arith, less.less, w.events);
        steps = omega (arith, less.less, w.steps);
      }
  took_by p w {g} out events steps one more (takes none played few) =
      let at = w.place in
      record {
        count = suc w.count;
        place = omega arith;
        played = subst (Played g) (ap (λ (k : ℕ). record_fields s k ∷ records_from w.count s from rs) at ∙ sym (one_more w.count s from rs)) played;
        bound = few.bound;
        tail = few.tail;
        events = omega (arith, few.few, w.events);
        steps = omega (arith, few.few, w.steps);
      }

  took-on : (left : ℕ) (p : Progress) → Goes (suc left) s p → Took s from rs b p → Took s from rs b (stepped s p)
  took-on left p goes w =
      let c = step_counts s p in
      took_by p w (stepped s p).out (stepped s p).events (stepped s p).steps c.one c.step
      (step-makes s p (records_from w.count s from rs) w.bound (suc left) goes w.played w.tail)

-- what a pump hands out, where b events could be handed out before it
pub pump-counts : (h : Hub) (s : List ℕ) (place : ℕ) (out : List ℕ) (allowance : ℕ) (rs : List RawRecord) → Played h rs → (b : ℕ) → Still h b
    → Took s place rs b (end_of (pump_of h s place out allowance))
unfolding records_from
pump-counts h s place out allowance rs w b t =
    pump-holds s (Took s place rs b) (took-on s place rs b) h place out allowance
    (record { count = 0; place = omega arith; played = w; bound = b; tail = t; events = omega arith; steps = omega arith })

-- after a pump the records taken are those taken before it and the batch's between the place given and the place answered
pub pump-took : (h : Hub) (s : List ℕ) (place : ℕ) (out : List ℕ) (allowance : ℕ) (rs : List RawRecord) (w : Played h rs)
    → Took s place rs (still w).bound (end_of (pump_of h s place out allowance))
pump-took h s place out allowance rs w = pump-counts h s place out allowance rs w (still w).bound (still w).tail

pub four-each : (h : Hub) (s : List ℕ) (place : ℕ) (out : List ℕ) (allowance : ℕ) (rs : List RawRecord) → Played h rs → h.waiting ≡ 0
    → FourEach place (pump_of h s place out allowance).pumped.answer
four-each h s place out allowance rs w none =
    let t = pump-counts h s place out allowance rs w 0 (none-still h none) in
    let at = t.place in
    let events = t.events in
    let steps = t.steps in
    record { events = omega arith; steps = omega arith }
