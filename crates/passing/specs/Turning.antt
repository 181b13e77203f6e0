-- A turn that takes an event, makes a record's marks and serves the event is the law book's: from what each of its calls answers.
use Rattle.std.specs.Prelude.{ℕ, ◌≡◌, refl, Bool, List}
use Rattle.numbers.specs.declared.Tilt.{Tilt}
use Rattle.rules.specs.declared.Hub.{Hub}
use Rattle.rules.specs.declared.Event.{Event}
use Rattle.rules.specs.Setters.{with_marks, with_state, with_down, with_flags, with_queue}
use Rattle.rules.specs.Step.{next_record_of, marked_of, filtered_in, filtered_hub}
use Rattle.rules.specs.Tilt.{met_in, step_met, latest}
use Rattle.down.specs.Down.{Joined}
use Rattle.pump_laws.specs.Turns.{marked-is, Turned, turned, met}
use Rattle.taking.specs.declared.Taken.{Taken}
use Rattle.taking.specs.Taking.{GivenIs, gives_of}
use Rattle.passing.specs.Passing.{MarkedIs}

-- a hub with other marks, with what is down, and another front and length of the queue
abbrev pub marked_hub : Hub → List Bool → List Bool → List Bool → List Bool → List Bool → List ℕ → List ℕ → List ℕ → ℕ → ℕ → Hub
marked_hub h connected renamed hasbutton hasaxis flags down held heldaxes head waiting =
    let fresh = with_state (with_marks h connected renamed) hasbutton h.buttons hasaxis h.axes in
    with_queue (with_flags (with_down fresh down held heldaxes) flags) h.queue head waiting

module _ (h : Hub) (s : List ℕ) (at : ℕ) {t : Taken} {connected renamed hasbutton hasaxis flags : List Bool} {down held heldaxes : List ℕ} (g : GivenIs h s at t)
    (marks : MarkedIs h.connected h.renamed h.hasbutton h.hasaxis h.flags t.pad t.kind connected renamed hasbutton hasaxis flags)
    (joined : Joined h.down h.held h.heldaxes t.pad t.kind down held heldaxes) where
  abbrev marked : Hub
  marked = marked_hub h connected renamed hasbutton hasaxis flags down held heldaxes t.head t.waiting

  marked_by : marked ≡ marked_of h (next_record_of h.waiting s at).raw
  marked_by =
      let k = rw (g.pad, g.kind) at marks in
      let j = rw (g.pad, g.kind) at joined in
      marked-is h (next_record_of h.waiting s at).raw refl refl refl k.connected-is k.renamed-is k.hasbutton-is k.hasaxis-is j.down_is j.held-is
      j.heldaxes-is k.flags-is g.head g.waiting

  pub turn-served :
      {u : Hub} {z : Event} →
      u ≡ filtered_hub marked (gives_of t) →
      z ≡ (filtered_in marked t.event).gives.event →
      Turned h (next_record_of h.waiting s at) u z
  turn-served eu ez = turned h (next_record_of h.waiting s at) marked_by g.gives refl ez eu

  -- and what its event meets
  pub turn-meets :
      (before : Tilt) {tilt : Tilt} →
      tilt ≡ latest (met_in marked t.event) before →
      tilt ≡ latest (step_met h (next_record_of h.waiting s at)) before
  turn-meets before et = met h (next_record_of h.waiting s at) before marked_by g.gives et
