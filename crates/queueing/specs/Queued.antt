-- What pushing events leaves of the lent arrays: the queue has them, one after the other, and the records are as they were; and the hub that the arrays stand
-- for, with one event more.
use Rattle.std.specs.Prelude.{ℕ, ◌≡◌, Bool, List, [], ◌∷◌, ◌++◌, set, Float}
use Rattle.std.proofs.Math.Path.{refl}
use Rattle.std.proofs.Common.{◌∙◌}
use Rattle.rules.specs.declared.Event.{Event}
use Rattle.rules.specs.declared.Slot.{Slot}
use Rattle.rules.specs.Events.{slot_of}
use Rattle.rules.specs.Hub.{slot_at, longer_of, queue_after, waiting_after}
use Rattle.rules.specs.Calls.{inserted_at}
use Rattle.columns.specs.Columns.{elements_of, buttons_of, axes_of, slots_of}
use Rattle.columns.specs.Stores.{SlotPut}
use Rattle.hub.specs.declared.Head.{Head}
use Rattle.hub.specs.Heads.{head_queue}
use Rattle.hub.specs.Lent.{Listed, columns, hub_of}

-- ---- events pushed

-- the arrays after the events es are pushed, and how many wait then: vs are values, ts times, bs the queue's bytes and cs its codes
pub record Pushed
    (vs : List Float) (ts bs cs : List ℕ) (head waiting : ℕ) (es : List Event) (vs' : List Float) (ts' bs' cs' : List ℕ) (waiting' : ℕ) :
    Type 0 where
  pub slots : slots_of vs' ts' bs' cs' ≡ queue_after (slots_of vs ts bs cs) head waiting es
  pub waits : waiting' ≡ waiting_after waiting es
  pub buttons : (ms : List Bool) → buttons_of vs' ts' ms ≡ buttons_of vs ts ms
  pub axes : axes_of vs' ts' ≡ axes_of vs ts
  pub elements : (ms : List Bool) → elements_of vs' ms ≡ elements_of vs ms

queue-then :
    (queue : List Slot) (head waiting : ℕ) (es fs : List Event) →
    queue_after (queue_after queue head waiting es) head (waiting_after waiting es) fs ≡ queue_after queue head waiting (es ++ fs)
unfolding queue_after waiting_after
queue-then queue head waiting [] fs = refl
queue-then queue head waiting (e ∷ es) fs = queue-then (set queue (slot_at head waiting) (slot_of e)) head (longer_of waiting) es fs

waiting-then : (waiting : ℕ) (es fs : List Event) → waiting_after (waiting_after waiting es) fs ≡ waiting_after waiting (es ++ fs)
unfolding waiting_after
waiting-then waiting [] fs = refl
waiting-then waiting (e ∷ es) fs = waiting-then (longer_of waiting) es fs

module _ {vs : List Float} {ts bs cs : List ℕ} {head waiting : ℕ} where
  pub pushed_none : Pushed vs ts bs cs head waiting [] vs ts bs cs waiting
  unfolding queue_after waiting_after
  pushed_none = record { slots = refl; waits = refl; buttons = λ ms. refl; axes = refl; elements = λ ms. refl }

  pub pushed-one :
      {e : Event} {vs' : List Float} {ts' bs' cs' : List ℕ} {free waiting' : ℕ} {slot : Slot} →
      free ≡ slot_at head waiting →
      slot ≡ slot_of e →
      SlotPut vs ts bs cs free slot vs' ts' bs' cs' →
      waiting' ≡ longer_of waiting →
      Pushed vs ts bs cs head waiting (e ∷ []) vs' ts' bs' cs' waiting'
  unfolding queue_after waiting_after
  pushed-one ef es p ew =
      record { slots = p.slots ∙ rw (es, ef); waits = ew; buttons = p.buttons; axes = p.axes; elements = p.elements }

  -- some, and then more
  pub pushed_then :
      {es fs : List Event} {vs1 vs2 : List Float} {ts1 bs1 cs1 ts2 bs2 cs2 : List ℕ} {waiting1 waiting2 : ℕ} →
      Pushed vs ts bs cs head waiting es vs1 ts1 bs1 cs1 waiting1 →
      Pushed vs1 ts1 bs1 cs1 head waiting1 fs vs2 ts2 bs2 cs2 waiting2 →
      Pushed vs ts bs cs head waiting (es ++ fs) vs2 ts2 bs2 cs2 waiting2
  pushed_then {es} {fs} p q =
      record {
        slots = q.slots ∙ rw (p.slots, p.waits) (queue-then (slots_of vs ts bs cs) head waiting es fs);
        waits = q.waits ∙ rw p.waits (waiting-then waiting es fs);
        buttons = λ ms. q.buttons ms ∙ p.buttons ms;
        axes = q.axes ∙ p.axes;
        elements = λ ms. q.elements ms ∙ p.elements ms;
      }

-- ---- one event more waits

-- a head with another number waiting
abbrev pub waiting_head : Head → ℕ → Head
waiting_head d waiting = head_queue d d.head waiting

-- the hub is the law book's with the event waiting
pub pushed-hub :
    (d : Head) (s : Listed) (hasbutton hasaxis marks : List Bool) {vs vs' : List Float} {ts ts' bs bs' cs cs' : List ℕ} {e : Event} {r : ℕ} →
    Pushed vs ts bs cs d.head d.waiting (e ∷ []) vs' ts' bs' cs' r →
    hub_of (waiting_head d r) s (columns hasbutton hasaxis vs' ts' marks bs' cs') ≡ inserted_at (hub_of d s (columns hasbutton hasaxis vs ts marks bs cs)) e
unfolding inserted_at
pushed-hub d s hasbutton hasaxis marks p = rw (p.waits, p.slots, p.buttons marks, p.axes, p.elements marks)
