-- What a turn of the pump's loop gathers, decides and commits is the law book's step. One law for each stage, over plain variables: the marks of a taken
-- record, what is taken, what the filters make of it, what it meets; and the step put together, for an event that is dropped
-- and for one that is kept.
use Rattle.std.specs.Prelude.{ℕ, ◌+◌, ◌-◌, ◌*◌, ◌%◌, ◌≡◌, refl, Bool, true, false, List, get_or}
use Rattle.std.proofs.Math.Path.{sym, ap}
use Rattle.std.proofs.Common.{◌∙◌}
use Rattle.std.proofs.Math.Bool.{cond}
use Rattle.std.proofs.Math.Nat.{add-zero}
use Rattle.numbers.specs.declared.Tilt.{Tilt}
use Rattle.rules.specs.declared.Hub.{Hub}
use Rattle.rules.specs.declared.Event.{Event}
use Rattle.rules.specs.declared.RawRecord.{RawRecord}
use Rattle.rules.specs.declared.NextRecord.{NextRecord}
use Rattle.rules.specs.declared.Dispatched.{Dispatched}
use Rattle.rules.specs.Names.{places_per_pad, flags_per_pad, queue_room}
use Rattle.rules.specs.Places.{place_of, cleared_of, one_if}
use Rattle.rules.specs.Filters.{Filtered, kept_of}
use Rattle.rules.specs.Setters.{with_marks, with_state, with_down, with_flags, with_queue}
use Rattle.rules.specs.Hub.{front_of, pressed_at, past_slot, past_element, past_button}
use Rattle.rules.specs.Step.{next_record_of, taken_of, record_gives, marked_of, connected_after, renamed_after, marks_cleared, down_cleared, head_after, pushed_of, filtered_in, filtered_hub, step_event, step_hub, updated_of}
use Rattle.rules.specs.Pump.{Progress, stepped, stepped_by, place_after, out_after}
use Rattle.rules.specs.Tilt.{met_in, step_met, latest}
use Rattle.gather.specs.declared.Found.{Found}
use Rattle.gather.specs.EventPlaces.{found_at}
use Rattle.turn.specs.Turn.{taken_by}
use Rattle.pump_laws.specs.Runs.{standing}
use Rattle.pump_laws.specs.Updates.{dropped-same}

-- ---- the marks of a taken record

module _ (h : Hub) (r : RawRecord) where
  pub marked-is :
      {p marks flags head waiting : ℕ} {connected renamed hasbutton hasaxis flagged : List Bool} {down held heldaxes : List ℕ} →
      p ≡ r.pad →
      marks ≡ marks_cleared r.kind places_per_pad →
      flags ≡ marks_cleared r.kind flags_per_pad →
      connected ≡ connected_after h.connected r.pad r.kind →
      renamed ≡ renamed_after h.renamed r.pad r.kind →
      hasbutton ≡ cleared_of h.hasbutton (places_per_pad * p) marks →
      hasaxis ≡ cleared_of h.hasaxis (places_per_pad * p) marks →
      down ≡ down_cleared h.down r.pad r.kind →
      held ≡ down_cleared h.held r.pad r.kind →
      heldaxes ≡ down_cleared h.heldaxes r.pad r.kind →
      flagged ≡ cleared_of h.flags (flags_per_pad * p) flags →
      head ≡ head_after h.head h.waiting →
      waiting ≡ h.waiting - 1 →
      ◌≡◌ {A = Hub}
      (with_queue (with_flags (with_down (with_state (with_marks h connected renamed) hasbutton h.buttons hasaxis h.axes) down held heldaxes) flagged) h.queue head waiting)
      (marked_of h r)
  unfolding marked_of
  marked-is ep em ef ec er et ev ed el ex eg eh ew = rw (ew, eh, eg, ex, el, ed, ev, et, er, ec, ef, em, ep)

-- ---- what is taken

pub taken_is :
    (h : Hub) (l : NextRecord) {front : ℕ} {found : Found} {d : Dispatched} →
    found ≡ found_at h.kinds h.names h.renames h.renamed h.hasbutton l.raw.pad (place_of h.codes l.raw.pad l.raw.code) →
    front ≡ h.head % queue_room →
    d ≡ taken_by h.waiting (get_or h.queue front past_slot) l.raw found (get_or h.elements found.place past_element) (get_or h.buttons found.place past_button) h.pressed h.released h.reversed →
    d ≡ taken_of h l
unfolding taken_of taken_by record_gives front_of found_at pressed_at
taken_is h l ef er ed = rw (ed, er, ef)

-- ---- the step

-- what a turn has worked out before its event is kept or dropped
pub record Turned (h : Hub) (l : NextRecord) (u : Hub) (z : Event) : Type 0 where
  pub hub : u ≡ filtered_hub (marked_of h l.raw) (taken_of h l)
  pub event : z ≡ step_event h l

pub turned :
    (h : Hub) (l : NextRecord) {m u : Hub} {d : Dispatched} {f : Filtered} {z : Event} →
    m ≡ marked_of h l.raw →
    d ≡ taken_of h l →
    f ≡ filtered_in m d.event →
    z ≡ f.gives.event →
    u ≡ filtered_hub m d →
    Turned h l u z
unfolding step_event
turned h l {m} {u} {d} {f} {z} em ed ef ez eu =
    record {
      hub = eu ∙ ap (λ (x : Hub). filtered_hub x d) em ∙ ap (filtered_hub (marked_of h l.raw)) ed;
      event =
          ez
          ∙ ap (λ (x : Filtered). x.gives.event)
          (ef ∙ ap (λ (x : Hub). filtered_in x d.event) em ∙ ap (λ (x : Dispatched). filtered_in (marked_of h l.raw) x.event) ed);
    }

-- what a turn's event meets
pub met :
    (h : Hub) (l : NextRecord) (before : Tilt) {m : Hub} {d : Dispatched} {tilt : Tilt} →
    m ≡ marked_of h l.raw →
    d ≡ taken_of h l →
    tilt ≡ latest (met_in m d.event) before →
    tilt ≡ latest (step_met h l) before
unfolding step_met
met h l before {m} {d} em ed et =
    et ∙ ap (λ (x : Hub). latest (met_in x d.event) before) em ∙ ap (λ (x : Dispatched). latest (met_in (marked_of h l.raw) x.event) before) ed

same-filters : (h : Hub) (r : RawRecord) (d : Dispatched) → (filtered_hub (marked_of h r) d).filters ≡ h.filters
unfolding filtered_hub pushed_of marked_of
same-filters h r d = refl

same-updates : (h : Hub) (r : RawRecord) (d : Dispatched) → (filtered_hub (marked_of h r) d).updates ≡ h.updates
unfolding filtered_hub pushed_of marked_of
same-updates h r d = refl

same-standing : {u w : Hub} {at place events more steps : ℕ} {out o : List ℕ} → u ≡ w → at ≡ place → out ≡ o → events ≡ more → standing u at out events steps ≡ standing w place o more steps
same-standing eu ep eo em = rw (eu, ep, eo, em)

module _ (h : Hub) (s : List ℕ) (at : ℕ) (out : List ℕ) (events steps : ℕ) {l : NextRecord} {u : Hub} {z : Event} {place : ℕ} (el : l ≡ next_record_of h.waiting s at)
    (t : Turned h l u z) (ep : place ≡ place_after h.waiting at) where
  filters-kept : u.filters ≡ h.filters
  filters-kept = ap (λ (x : Hub). x.filters) t.hub ∙ same-filters h l.raw (taken_of h l)

  updates-kept : u.updates ≡ h.updates
  updates-kept = ap (λ (x : Hub). x.updates) t.hub ∙ same-updates h l.raw (taken_of h l)

  kept_by : {b : Bool} → kept_of u.filters z ≡ b → kept_of h.filters (step_event h l) ≡ b
  kept_by k = sym (ap (λ (x : Event). kept_of h.filters x) t.event) ∙ sym (ap (λ (x : Bool). kept_of x z) filters-kept) ∙ k

  hub-by : updated_of h.updates u z ≡ step_hub h l
  unfolding step_hub
  hub-by = ap (λ (x : Hub). updated_of h.updates x z) t.hub ∙ ap (updated_of h.updates (filtered_hub (marked_of h l.raw) (taken_of h l))) t.event

  looked-by : {p : Progress} → p ≡ stepped_by (standing h at out events steps) l → p ≡ stepped s (standing h at out events steps)
  unfolding stepped
  looked-by e = e ∙ ap (stepped_by (standing h at out events steps)) el

  skips-by : u ≡ step_hub h l → kept_of h.filters (step_event h l) ≡ false → standing u place out events (steps + 1) ≡ stepped_by (standing h at out events steps) l
  unfolding stepped_by
  skips-by eu ek =
      same-standing eu ep (sym (ap (λ (b : Bool). cond b (out_after out events (step_event h l)) out) ek))
      (sym (ap (λ (b : Bool). events + one_if b) ek ∙ add-zero events))

  keeps-by : {w : Hub} {o : List ℕ} → w ≡ step_hub h l → o ≡ out_after out events (step_event h l) → kept_of h.filters (step_event h l) ≡ true → standing w place o (events + 1) (steps + 1) ≡ stepped_by (standing h at out events steps) l
  unfolding stepped_by
  keeps-by eu eo ek =
      same-standing eu ep (eo ∙ sym (ap (λ (b : Bool). cond b (out_after out events (step_event h l)) out) ek))
      (sym (ap (λ (b : Bool). events + one_if b) ek))

  -- an event that is dropped: the state stays, nothing is written
  pub step-skips : kept_of u.filters z ≡ false → standing u place out events (steps + 1) ≡ stepped s (standing h at out events steps)
  step-skips k = looked-by (skips-by (sym (dropped-same u.filters h.updates u z k) ∙ hub-by) (kept_by k))

  -- an event that is kept: the state is updated, and its bytes are written
  pub step_keeps : {w : Hub} {o : List ℕ} → kept_of u.filters z ≡ true → w ≡ updated_of u.updates u z → o ≡ out_after out events z → standing w place o (events + 1) (steps + 1) ≡ stepped s (standing h at out events steps)
  step_keeps k ew eo =
      looked-by (keeps-by (ew ∙ ap (λ (b : Bool). updated_of b u z) updates-kept ∙ hub-by) (eo ∙ ap (out_after out events) t.event) (kept_by k))
