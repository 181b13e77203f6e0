-- What a step does to the waiting events, and to their weighted sum: "no step that takes from the queue raises that sum, a step on an empty queue leaves at most
-- 4"; and nothing is lost. By what the step brings (`proofs/Weight.antt`).
use Rattle.std.specs.Prelude.{◌+◌, ◌-◌, ◌<◌, ◌≤◌, Bool, true, false, ◌++◌, ◌≡◌, refl, ltb, length}
use Rattle.std.proofs.Common.{ltb-true, ltb-false}
use native.Mathlib.Omega.{arith}
use Rattle.rules.specs.declared.Hub.{Hub}
use Rattle.rules.specs.declared.NextRecord.{NextRecord}
use Rattle.rules.specs.Names.{queue_room}
use Rattle.rules.specs.Hub.{front_of, view_of}
use Rattle.rules.specs.Step.{marked_of, filtered_in, taken_of, step_hub}
use Rattle.theory_calls.specs.Waiting.{waiting_list, rest_of, popped, empty-rest}
use Rattle.theory_calls.specs.Weight.{weight_of, weigh, weigh-bounds, weigh-append, brought}
use Rattle.theory_calls.specs.Queue.{Sound, pushes_in, front-brought, record-brought, step-list, rest-length}
use Rattle.theory_calls.proofs.Weight.{pushes-light}

-- ---- a step

pushes-brought : (h : Hub) (l : NextRecord) → weigh (pushes_in h l) ≤ brought (taken_of h l)
unfolding pushes_in filtered_in
pushes-brought h l = pushes-light (taken_of h l) (marked_of h l.raw).filters (view_of (marked_of h l.raw) (taken_of h l).event)

module _ (h : Hub) (l : NextRecord) (z : Sound h) where
  -- what a step takes and what it leaves are what waited
  front-sum : 0 < h.waiting → weigh (waiting_list h) ≡ weight_of (front_of h) + weigh (rest_of h)
  front-sum some = rw (popped h some) (unfold weigh in refl)

  room_by : (waits : Bool) → ltb 0 h.waiting ≡ waits → h.waiting - 1 + length (pushes_in h l) ≤ queue_room
  room_by true e =
      let some = ltb-true 0 h.waiting e in
      let most = z.light in
      omega (arith, front-sum some, front-brought h l some, pushes-brought h l, (weigh-bounds (pushes_in h l)).0, rest-length h, (weigh-bounds (rest_of h)).0)
  room_by false e =
      let empty = ltb-false 0 h.waiting e in
      let none : h.waiting ≡ 0 = omega arith in
      omega (arith, record-brought h l none, pushes-brought h l, (weigh-bounds (pushes_in h l)).0)

  -- nothing is lost: after a step there waits what waited behind what was taken, and behind it every event that the step queued
  pub nothing-lost : waiting_list (step_hub h l) ≡ rest_of h ++ pushes_in h l
  nothing-lost = step-list h l z.ring (room_by (ltb 0 h.waiting) refl)

  -- "No step that takes from the queue raises that sum"
  pub never-rises : 0 < h.waiting → weigh (waiting_list (step_hub h l)) ≤ weigh (waiting_list h)
  never-rises some =
      rw nothing-lost
      (omega (arith, weigh-append (rest_of h) (pushes_in h l), front-sum some, front-brought h l some, pushes-brought h l))

  -- "a step on an empty queue leaves at most 4"
  pub at-most-four : h.waiting ≡ 0 → weigh (waiting_list (step_hub h l)) ≤ 4
  at-most-four none =
      rw (nothing-lost, empty-rest h none) (omega (arith, record-brought h l none, pushes-brought h l))
