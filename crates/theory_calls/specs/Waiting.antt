-- The waiting events of a hub as a list, from the front on, and what the ring does to it: events pushed where there is room stand behind it in their
-- order, and a step takes its first. So nothing that was queued is lost, and freed room is used again.
use Rattle.std.specs.Prelude.{ℕ, zero, suc, ◌+◌, ◌-◌, ◌%◌, ◌<◌, ◌≤◌, Bool, true, false, cond, List, [], ◌∷◌, ◌++◌, ◌≡◌, refl, length, get_or, set, ltb}
use Rattle.std.proofs.Common.{append-nil, append_assoc, ap, sym, ◌∙◌, length-set, get_or-set_same, get_or-set_other, arith, lt-ltb, ltb-true, ltb-false}
use Rattle.rules.specs.declared.Hub.{Hub}
use Rattle.rules.specs.declared.Event.{Event}
use Rattle.rules.specs.declared.Slot.{Slot}
use Rattle.rules.specs.Names.{queue_room}
use Rattle.rules.specs.Events.{slot_of, event_of}
use Rattle.rules.specs.Hub.{past_slot, slot_at, front_of, longer_of, queue_after, waiting_after}
use Rattle.rules.specs.Step.{head_after}
use Rattle.events.specs.Laws.{event-back}

-- the n events that a ring has from a place on
unfoldable pub ring_list : List Slot → ℕ → ℕ → List Event
unfolding event_of
ring_list queue place zero = []
ring_list queue place (suc n) = event_of (get_or queue place past_slot) ∷ ring_list queue ((place + 1) % queue_room) n

-- the waiting events of a hub
unfoldable pub waiting_list : Hub → List Event
unfolding ring_list
waiting_list h = ring_list h.queue (h.head % queue_room) h.waiting

pub ring-length : (queue : List Slot) (place n : ℕ) → length (ring_list queue place n) ≡ n
unfolding ring_list
ring-length queue place zero = refl
ring-length queue place (suc n) = ap suc (ring-length queue ((place + 1) % queue_room) n)

-- as many wait as the hub says
pub waiting-length : (h : Hub) → length (waiting_list h) ≡ h.waiting
unfolding waiting_list
waiting-length h = ring-length h.queue (h.head % queue_room) h.waiting

-- ---- a push

-- a place that is none of the n does not count
elsewhere : (queue : List Slot) (s : ℕ) (slot : Slot) (n place : ℕ) → place < queue_room
    → ((k : ℕ) → k < n → (place + k) % queue_room ≡ s → ⊥) → ring_list (set queue s slot) place n ≡ ring_list queue place n
unfolding ring_list
elsewhere queue s slot zero place l away = refl
elsewhere queue s slot (suc n) place l away =
    rw (get_or-set_other queue s place slot past_slot (λ x. away 0 (omega arith) (omega arith)))
    (ap (λ (t : List Event). event_of (get_or queue place past_slot) ∷ t)
    (elsewhere queue s slot n ((place + 1) % queue_room) (omega arith) (λ k l' x. away (k + 1) (omega arith) (omega arith))))

-- one more is the one after the last
one_more : (queue : List Slot) (n place : ℕ) → place < queue_room
    → ring_list queue place (n + 1) ≡ ring_list queue place n ++ (event_of (get_or queue ((place + n) % queue_room) past_slot) ∷ [])
unfolding ring_list
one_more queue zero place l =
    let e : (place + 0) % queue_room ≡ place = omega arith in
    rw e
one_more queue (suc n) place l =
    let e : suc n + 1 ≡ suc (n + 1) = omega arith in
    let f : (place + suc n) % queue_room ≡ ((place + 1) % queue_room + n) % queue_room = omega arith in
    rw (e, f)
    (ap (λ (t : List Event). event_of (get_or queue place past_slot) ∷ t) (one_more queue n ((place + 1) % queue_room) (omega arith)))

-- an event pushed into the place after the last
push-one : (queue : List Slot) (e : Event) (n head : ℕ) → length queue ≡ queue_room → n < queue_room
    → ring_list (set queue (slot_at head n) (slot_of e)) (head % queue_room) (n + 1) ≡ ring_list queue (head % queue_room) n ++ (e ∷ [])
push-one queue e n head long room =
    let s : slot_at head n ≡ (head % queue_room + n) % queue_room = omega arith in
    let small : head % queue_room < queue_room = omega arith in
    let inside : (head % queue_room + n) % queue_room < length queue = omega arith in
    rw s
    (one_more (set queue ((head % queue_room + n) % queue_room) (slot_of e)) n (head % queue_room) small
    ∙ rw (
      get_or-set_same queue ((head % queue_room + n) % queue_room) (slot_of e) past_slot inside,
      event-back e,
      elsewhere queue ((head % queue_room + n) % queue_room) (slot_of e) n (head % queue_room) small (λ k k< x. omega arith),
    ))

-- the ring stays of its length
pub queue-length : (es : List Event) (queue : List Slot) (head n : ℕ) → length (queue_after queue head n es) ≡ length queue
unfolding queue_after
queue-length [] queue head n = refl
queue-length (e ∷ es) queue head n = queue-length es (set queue (slot_at head n) (slot_of e)) head (longer_of n) ∙ simp length-set

-- events pushed where there is room stand behind those that wait, in their order
pub pushed : (es : List Event) (queue : List Slot) (head n : ℕ) → length queue ≡ queue_room → n + length es ≤ queue_room
    → ring_list (queue_after queue head n es) (head % queue_room) (waiting_after n es) ≡ ring_list queue (head % queue_room) n ++ es
unfolding queue_after waiting_after longer_of
pushed [] queue head n long room = sym (append-nil (ring_list queue (head % queue_room) n))
pushed (e ∷ es) queue head n long room =
    let short : n < queue_room = omega arith in
    let m : n + 1 + length es ≤ queue_room = omega arith in
    let long' : length (set queue (slot_at head n) (slot_of e)) ≡ queue_room = simp length-set long in
    rw (lt-ltb n queue_room short)
    (pushed es (set queue (slot_at head n) (slot_of e)) head (n + 1) long' m
    ∙ rw (push-one queue e n head long short, append_assoc (ring_list queue (head % queue_room) n) (e ∷ []) es))

-- k is none of the places of the next m slots behind n
abbrev pub Away : ℕ → ℕ → ℕ → ℕ → Type 0
Away head n m k = (i : ℕ) → i < m → slot_at head (n + i) ≡ k → ⊥

-- nor, after a push, of those behind one more
away-after : (head n m k : ℕ) → n ≤ queue_room → Away head n (suc m) k → (longer_of n ≤ queue_room) × Away head (longer_of n) m k
unfolding longer_of
away-after head n m k most away = by (ltb n queue_room) refl
  where
    by : (fits : Bool) → ltb n queue_room ≡ fits
        → (cond fits (n + 1) queue_room ≤ queue_room) × Away head (cond fits (n + 1) queue_room) m k
    by true f =
        let short = ltb-true n queue_room f in
        (omega arith, λ i l x. away (i + 1) (omega arith) (omega (arith, x)))
    by false f =
        let full = ltb-false n queue_room f in
        (omega arith, λ i l x. away i (omega arith) (omega (arith, x)))

-- and no slot is written but theirs: a place that is none of those behind the n holds what it held
pub push-elsewhere : (es : List Event) (queue : List Slot) (head n k : ℕ) → n ≤ queue_room → Away head n (length es) k
    → get_or (queue_after queue head n es) k past_slot ≡ get_or queue k past_slot
unfolding queue_after
push-elsewhere [] queue head n k most away = refl
push-elsewhere (e ∷ es) queue head n k most away =
    let next = away-after head n (length es) k most away in
    push-elsewhere es (set queue (slot_at head n) (slot_of e)) head (longer_of n) k next.0 next.1
    ∙ get_or-set_other queue (slot_at head n) k (slot_of e) past_slot (λ x. away 0 (omega arith) (omega (arith, x)))

-- ---- a pop

-- what a step that takes the front leaves; on an empty ring nothing
unfoldable pub rest_of : Hub → List Event
unfolding ring_list head_after
rest_of h = ring_list h.queue (head_after h.head h.waiting % queue_room) (h.waiting - 1)

-- a step takes the first of the list, and the others wait on
pub popped : (h : Hub) → 0 < h.waiting → waiting_list h ≡ front_of h ∷ rest_of h
unfolding waiting_list rest_of front_of head_after
popped h some = rw (lt-ltb 0 h.waiting some) (by h.waiting some)
  where
    by : (n : ℕ) → 0 < n
        → ring_list h.queue (h.head % queue_room) n
        ≡ event_of (get_or h.queue (h.head % queue_room) past_slot) ∷ ring_list h.queue ((h.head % queue_room + 1) % queue_room % queue_room) (n - 1)
    by zero some = absurd (omega arith)
    by (suc n) some =
        let once : (h.head % queue_room + 1) % queue_room % queue_room ≡ (h.head % queue_room + 1) % queue_room = omega arith in
        let less : suc n - 1 ≡ n = omega arith in
        unfold ring_list in rw (once, less)

-- on an empty queue nothing is left behind
pub empty-rest : (h : Hub) → h.waiting ≡ 0 → rest_of h ≡ []
unfolding rest_of ring_list
empty-rest h none = rw none
