-- "The queue holds 64. It never overflows": what a step and an accepted insert do to the waiting events, as a list, and to their weighted sum. "No step
-- that takes from the queue raises that sum, a step on an empty queue leaves at most 4, an accepted insert at most 64." What a step does to the sum, and that
-- it loses nothing, stand in `proofs/Queue.antt`.
use Rattle.std.specs.Prelude.{ℕ, ◌+◌, ◌-◌, ◌%◌, ◌<◌, ◌≤◌, List, [], ◌∷◌, ◌++◌, ◌≡◌, length, get_or}
use Rattle.std.proofs.Common.{◌∙◌, lt-ltb}
use native.Mathlib.Omega.{arith}
use Rattle.rules.specs.declared.Hub.{Hub}
use Rattle.rules.specs.declared.Event.{Event}
use Rattle.rules.specs.declared.NextRecord.{NextRecord}
use Rattle.rules.specs.Names.{queue_room, insert_limit}
use Rattle.rules.specs.Hub.{past_slot, queue_after, front_of, place_in, name_in, element_at, pressed_at}
use Rattle.rules.specs.Step.{head_after, marked_of, pushes_of, pushed_of, updated_at, updated_of, filtered_in, filtered_hub, taken_of, record_gives, step_hub}
use Rattle.rules.specs.Calls.{inserted_at}
use Rattle.theory_calls.specs.Waiting.{waiting_list, waiting-length, ring-length, rest_of, pushed, Away, push-elsewhere, queue-length}
use Rattle.theory_calls.specs.Weight.{weight_of, weigh, weigh-bounds, weigh-append, brought, record-brings, hat_weight}

-- what holds of every hub that the calls reach: the ring has 64 places, and what waits weighs at most 64
pub record Sound (h : Hub) : Type 0 where
  pub ring : length h.queue ≡ queue_room
  pub light : weigh (waiting_list h) ≤ queue_room

-- so at most 64 wait
pub sound-waiting : (h : Hub) → Sound h → h.waiting ≤ queue_room
sound-waiting h z =
    let most = z.light in
    omega (arith, waiting-length h, (weigh-bounds (waiting_list h)).0)

-- ---- a step

-- the events that a step queues
unfoldable pub pushes_in : Hub → NextRecord → List Event
unfolding pushes_of filtered_in marked_of taken_of
pushes_in h l = pushes_of (taken_of h l) (filtered_in (marked_of h l.raw) (taken_of h l).event).gives

-- a step that takes the front brings the front
pub front-brought : (h : Hub) (l : NextRecord) → 0 < h.waiting → brought (taken_of h l) ≡ weight_of (front_of h)
unfolding taken_of brought
front-brought h l some = rw (lt-ltb 0 h.waiting some) (omega arith)

-- on an empty queue it brings what the record gives
pub record-brought : (h : Hub) (l : NextRecord) → h.waiting ≡ 0 → brought (taken_of h l) ≤ hat_weight
unfolding taken_of record_gives
record-brought h l none =
    rw none
    (record-brings l.raw (name_in h l.raw.pad (place_in h l.raw.pad l.raw.code)) (element_at h (place_in h l.raw.pad l.raw.code)) (pressed_at h (place_in h l.raw.pad l.raw.code))
    h.pressed h.released h.reversed)

-- where there is room, the rest waits on, and what is queued stands behind it in its order
pub step-list : (h : Hub) (l : NextRecord) → length h.queue ≡ queue_room → h.waiting - 1 + length (pushes_in h l) ≤ queue_room
    → waiting_list (step_hub h l) ≡ rest_of h ++ pushes_in h l
unfolding waiting_list rest_of step_hub updated_of updated_at filtered_hub pushed_of marked_of pushes_in
step-list h l long room = pushed (pushes_in h l) h.queue (head_after h.head h.waiting) (h.waiting - 1) long room

pub step-ring : (h : Hub) (l : NextRecord) → length (step_hub h l).queue ≡ length h.queue
unfolding step_hub updated_of updated_at filtered_hub pushed_of marked_of pushes_in
step-ring h l = queue-length (pushes_in h l) h.queue (head_after h.head h.waiting) (h.waiting - 1)

-- "Take from the front without moving the others" (W-202): a step that queues nothing leaves the array as it is
pub taking-moves-nothing : (h : Hub) (l : NextRecord) → pushes_in h l ≡ [] → (step_hub h l).queue ≡ h.queue
unfolding step_hub updated_of updated_at filtered_hub pushed_of marked_of pushes_in queue_after
taking-moves-nothing h l none = rw none

pub rest-length : (h : Hub) → length (rest_of h) ≡ h.waiting - 1
unfolding rest_of
rest-length h = ring-length h.queue (head_after h.head h.waiting % queue_room) (h.waiting - 1)

module _ (h : Hub) (l : NextRecord) (z : Sound h) where
  -- and none moves: a slot that is none of the next places behind those that wait, as many as the step queues, holds what it held
  pub others-stay : (k : ℕ) → Away (head_after h.head h.waiting) (h.waiting - 1) (length (pushes_in h l)) k
      → get_or (step_hub h l).queue k past_slot ≡ get_or h.queue k past_slot
  unfolding step_hub updated_of updated_at filtered_hub pushed_of marked_of pushes_in
  others-stay k away =
      push-elsewhere (pushes_in h l) h.queue (head_after h.head h.waiting) (h.waiting - 1) k few away
    where
      few : h.waiting - 1 ≤ queue_room
      few =
          let most = sound-waiting h z in
          omega arith

-- ---- an accepted insert: fewer than 16 waited

module _ (h : Hub) (e : Event) (ring : length h.queue ≡ queue_room) (few : h.waiting < insert_limit) where
  -- the event stands behind those that wait
  pub insert-list : waiting_list (inserted_at h e) ≡ waiting_list h ++ (e ∷ [])
  unfolding waiting_list inserted_at
  insert-list = pushed (e ∷ []) h.queue h.head h.waiting ring (omega arith)

  -- "an accepted insert at most 64"
  pub at-most-sixty-four : weigh (waiting_list (inserted_at h e)) ≤ 64
  at-most-sixty-four =
      rw insert-list
      (let one = (weigh-bounds (e ∷ [])).1 in
      omega (arith, weigh-append (waiting_list h) (e ∷ []), waiting-length h, (weigh-bounds (waiting_list h)).1))

  pub insert-sound : Sound (inserted_at h e)
  insert-sound = record { ring = unfold inserted_at in queue-length (e ∷ []) h.queue h.head h.waiting ∙ ring; light = at-most-sixty-four }
