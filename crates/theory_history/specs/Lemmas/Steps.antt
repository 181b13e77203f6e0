-- A step of the hub, as the filters' answer to the event that is taken: what goes out is written to the state, what is queued waits behind. With filters and
-- updates on, and no pad renamed.
use Rattle.std.specs.Prelude.{ℕ, ◌*◌, ◌<◌, Bool, false, cond, ◌||◌, ◌≡◌, eqb, ltb, get_or, set}
use Rattle.std.proofs.Math.Bool.{true}
use mathlib.Core.List.{List, ◌++◌}
use Rattle.std.proofs.Math.Path.{refl, ap}
use Rattle.std.proofs.Common.{◌∙◌, get_or-set_same, get_or-set_other, lt-ltb, eqb-true, ltb-true, ltb-false}
use Rattle.std.proofs.Math.ListN.{length, length-set}
use Rattle.std.proofs.Math.Seq.{set_out}
use Rattle.std.proofs.lemmas.Bool.{eqb-false}
use Rattle.rules.specs.declared.Hub.{Hub}
use Rattle.rules.specs.declared.Event.{Event}
use Rattle.rules.specs.declared.NextRecord.{NextRecord}
use Rattle.rules.specs.declared.RawRecord.{RawRecord}
use Rattle.rules.specs.declared.View.{View}
use Rattle.rules.specs.declared.Dispatched.{Dispatched}
use Rattle.rules.specs.Names.{nowhere, places_per_pad}
use Rattle.rules.specs.Forms.{kind_connected}
use Rattle.rules.specs.Places.{cleared_of}
use Rattle.rules.specs.Events.{event_if}
use Rattle.rules.specs.State.{writes_axis_type}
use Rattle.rules.specs.Filters.{filtered_of}
use Rattle.rules.specs.Dispatch.{single}
use Rattle.rules.specs.Hub.{place_in, has_axis_at, front_of, view_of}
use Rattle.rules.specs.Step.{blank_record, record_gives, taken_of, marked_of, pushes_of, pushed_of, filtered_hub, updated_of, updated_at, filtered_in, step_event, step_hub, marks_cleared, renamed_after}
use Rattle.theory_calls.specs.Queue.{pushes_in}
use Rattle.theory_history.specs.Lemmas.Cells.{Cell, cell_at, cell_type, Long, hits, cell-after, hasaxis-after}
use Rattle.theory_history.specs.Lemmas.Marks.{cleared-length}
use Rattle.theory_history.specs.Lemmas.Turns.{out_of, more_of}

-- what holds of every hub that is played, and no step changes
pub record Ready (h : Hub) : Type 0 where
  pub filters : h.filters ≡ true
  pub updates : h.updates ≡ true
  pub long : Long h
  pub named : (p : ℕ) → get_or h.renamed p false ≡ false

-- ---- the marks that a record sets

pub set-down : (marks : List Bool) (i p : ℕ) (same inside : Bool) → eqb p i ≡ same → ltb i (length marks) ≡ inside → get_or marks p false ≡ false
    → get_or (set marks i false) p false ≡ false
set-down marks i p true true e l off = rw (eqb-true p i e) (get_or-set_same marks i false false (ltb-true i (length marks) l))
set-down marks i p true false e l off = rw (set_out marks i false (ltb-false i (length marks) l)) off
set-down marks i p false inside e l off = get_or-set_other marks i p false false (eqb-false p i e) ∙ off

renamed-down : (marks : List Bool) (i p : ℕ) (joins : Bool) → get_or marks p false ≡ false → get_or (cond joins (set marks i false) marks) p false ≡ false
renamed-down marks i p true off = set-down marks i p (eqb p i) (ltb i (length marks)) refl refl off
renamed-down marks i p false off = off

pub marked-ready : (h : Hub) (r : RawRecord) → Ready h → Ready (marked_of h r)
unfolding marked_of renamed_after
marked-ready h r w =
    record {
      filters = w.filters;
      updates = w.updates;
      long =
          record {
            hasbutton = cleared-length (marks_cleared r.kind places_per_pad) h.hasbutton (places_per_pad * r.pad) ∙ w.long.hasbutton;
            buttons = w.long.buttons;
            hasaxis = cleared-length (marks_cleared r.kind places_per_pad) h.hasaxis (places_per_pad * r.pad) ∙ w.long.hasaxis;
          };
      named = λ p. renamed-down h.renamed r.pad p (eqb r.kind kind_connected) (w.named p);
    }

turned-long : (h : Hub) (d : Dispatched) → Long h → Long (filtered_hub h d)
unfolding filtered_hub pushed_of
turned-long h d l = record { hasbutton = l.hasbutton; buttons = l.buttons; hasaxis = l.hasaxis }

module _ (h : Hub) (l : NextRecord) (w : Ready h) where
  abbrev marked : Hub
  marked = marked_of h l.raw

  abbrev event : Event
  event = (taken_of h l).event

  abbrev view : View
  view = view_of marked event

  pub out-is : step_event h l ≡ out_of view event
  unfolding step_event filtered_in out_of marked_of
  out-is = rw w.filters

  pub pushes-are : pushes_in h l ≡ event_if (taken_of h l).follows (taken_of h l).next ++ more_of view event
  unfolding pushes_in pushes_of filtered_in more_of marked_of
  pushes-are =
      ap (λ (on : Bool). event_if (taken_of h l).follows (taken_of h l).next ++ (filtered_of on view event).gives.queued) w.filters

  -- the step before its state is written
  abbrev turned : Hub
  turned = filtered_hub marked (taken_of h l)

  -- which events are of a place's code does not change
  same-hits : (k : ℕ) (e : Event) → hits turned.codes k e ≡ hits h.codes k e
  unfolding hits filtered_hub pushed_of marked_of
  same-hits k e = refl

  same-cell : (k : ℕ) → cell_at turned k ≡ cell_at marked k
  unfolding cell_at filtered_hub pushed_of
  same-cell k = refl

  same-hasaxis : (k : ℕ) → has_axis_at turned k ≡ has_axis_at marked k
  unfolding filtered_hub pushed_of
  same-hasaxis k = refl

  module _ (k : ℕ) (inside : k < nowhere) where
    long : Long turned
    long = turned-long marked (taken_of h l) (marked-ready h l.raw w).long

    cell-put : (hit : Bool) (x : Cell) (e : Event) → hits turned.codes k e ≡ hit → cell_at turned k ≡ x
        → cond (hits turned.codes k e) (cell_type e.event (cell_at turned k)) (cell_at turned k) ≡ cond hit (cell_type e.event x) x
    cell-put hit x e same is = rw (same, is)

    pub step-cell : cell_at (step_hub h l) k ≡ cond (hits h.codes k (out_of view event)) (cell_type (out_of view event).event (cell_at marked k)) (cell_at marked k)
    unfolding step_hub
    step-cell =
        ap (λ (on : Bool). cell_at (updated_of on turned (step_event h l)) k) w.updates
        ∙ (ap (λ (e : Event). cell_at (updated_of true turned e) k) out-is
        ∙ (cell-after turned (out_of view event) k long inside
        ∙ cell-put (hits h.codes k (out_of view event)) (cell_at marked k) (out_of view event) (same-hits k (out_of view event)) (same-cell k)))

    hasaxis-put : (hit was : Bool) (e : Event) → hits turned.codes k e ≡ hit → has_axis_at turned k ≡ was
        → cond (hits turned.codes k e) (has_axis_at turned k || writes_axis_type e.event) (has_axis_at turned k) ≡ cond hit (was || writes_axis_type e.event) was
    hasaxis-put hit was e same is = rw (same, is)

    pub step-hasaxis : has_axis_at (step_hub h l) k ≡ cond (hits h.codes k (out_of view event)) (has_axis_at marked k || writes_axis_type (out_of view event).event) (has_axis_at marked k)
    unfolding step_hub
    step-hasaxis =
        ap (λ (on : Bool). has_axis_at (updated_of on turned (step_event h l)) k) w.updates
        ∙ (ap (λ (e : Event). has_axis_at (updated_of true turned e) k) out-is
        ∙ (hasaxis-after turned (out_of view event) k long inside
        ∙ hasaxis-put (hits h.codes k (out_of view event)) (has_axis_at marked k) (out_of view event) (same-hits k (out_of view event)) (same-hasaxis k)))

-- the same for what is known to be taken
module _ (h : Hub) (l : NextRecord) (w : Ready h) (d : Dispatched) (taken : taken_of h l ≡ d) where
  abbrev seen : Hub
  seen = marked_of h l.raw

  abbrev out : Dispatched → Event
  out t = out_of (view_of seen t.event) t.event

  pub pushes-of : pushes_in h l ≡ event_if d.follows d.next ++ more_of (view_of seen d.event) d.event
  pushes-of =
      pushes-are h l w
      ∙ ap (λ (t : Dispatched). event_if t.follows t.next ++ more_of (view_of seen t.event) t.event) taken

  pub cell-of : (k : ℕ) → k < nowhere → cell_at (step_hub h l) k ≡ cond (hits h.codes k (out d)) (cell_type (out d).event (cell_at seen k)) (cell_at seen k)
  cell-of k inside =
      step-cell h l w k inside
      ∙ ap (λ (t : Dispatched). cond (hits h.codes k (out t)) (cell_type (out t).event (cell_at seen k)) (cell_at seen k)) taken

  pub hasaxis-of : (k : ℕ) → k < nowhere → has_axis_at (step_hub h l) k ≡ cond (hits h.codes k (out d)) (has_axis_at seen k || writes_axis_type (out d).event) (has_axis_at seen k)
  hasaxis-of k inside =
      step-hasaxis h l w k inside
      ∙ ap (λ (t : Dispatched). cond (hits h.codes k (out t)) (has_axis_at seen k || writes_axis_type (out t).event) (has_axis_at seen k)) taken

-- ---- a step from the queue

abbrev pub look : NextRecord
look = record { raw = blank_record; fits = true }

pub front-taken : (h : Hub) → 0 < h.waiting → taken_of h look ≡ single (front_of h)
unfolding taken_of
front-taken h some = rw (lt-ltb 0 h.waiting some)

-- it marks nothing
pub front-cell : (h : Hub) (k : ℕ) → cell_at (marked_of h blank_record) k ≡ cell_at h k
unfolding cell_at marked_of marks_cleared cleared_of
front-cell h k = refl

pub front-hasaxis : (h : Hub) (k : ℕ) → has_axis_at (marked_of h blank_record) k ≡ has_axis_at h k
unfolding marked_of marks_cleared cleared_of
front-hasaxis h k = refl

-- ---- a step that takes a record

abbrev pub look_at : RawRecord → NextRecord
look_at r = record { raw = r; fits = true }

pub record-taken : (h : Hub) (r : RawRecord) → h.waiting ≡ 0 → taken_of h (look_at r) ≡ record_gives h r (place_in h r.pad r.code)
unfolding taken_of
record-taken h r none = rw none

-- ---- what no step changes

step-long : (h : Hub) (l : NextRecord) → Ready h → Long (step_hub h l)
unfolding step_hub updated_of updated_at filtered_hub pushed_of
step-long h l w =
    record {
      hasbutton = length-set-of (marked_of h l.raw).hasbutton _ _ ∙ (marked-ready h l.raw w).long.hasbutton;
      buttons = length-set-of h.buttons _ _ ∙ (unfold marked_of in w.long.buttons);
      hasaxis = length-set-of (marked_of h l.raw).hasaxis _ _ ∙ (marked-ready h l.raw w).long.hasaxis;
    }
  where
    length-set-of : {A : Type 0} (xs : List A) (i : ℕ) (a : A) → length (set xs i a) ≡ length xs
    length-set-of xs i a = simp length-set

pub step-ready : (h : Hub) (l : NextRecord) → Ready h → Ready (step_hub h l)
unfolding step_hub updated_of updated_at filtered_hub pushed_of
step-ready h l w =
    record {
      filters = unfold marked_of in w.filters;
      updates = unfold marked_of in w.updates;
      long = unfold step_hub updated_of updated_at filtered_hub pushed_of in step-long h l w;
      named = (marked-ready h l.raw w).named;
    }
