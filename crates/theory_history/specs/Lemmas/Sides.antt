-- The directions of a hat, as places: what one shows once all that waits is written, and that two are never pressed together on the way. A step from the queue
-- leaves both, and a step that takes a record makes of them what goes out and what is queued.
use Rattle.std.specs.Prelude.{ℕ, ◌<◌, Bool, false, cond, ◌||◌, ◌≡◌, refl, eqb, get_or}
use mathlib.Core.List.{List, ◌++◌}
use Rattle.std.proofs.Common.{sym, ◌∙◌, ap, subst₂}
use Rattle.std.proofs.Math.Path.{subst, subst₃}
use Rattle.rules.specs.declared.Hub.{Hub}
use Rattle.rules.specs.declared.Event.{Event}
use Rattle.rules.specs.declared.View.{View}
use Rattle.rules.specs.declared.RawRecord.{RawRecord}
use Rattle.rules.specs.declared.Dispatched.{Dispatched}
use Rattle.rules.specs.Names.{nowhere}
use Rattle.rules.specs.Sheets.{element_axis}
use Rattle.rules.specs.State.{writes_axis_type}
use Rattle.rules.specs.Dispatch.{amount, single}
use Rattle.rules.specs.Hub.{has_axis_at, front_of, view_of}
use Rattle.rules.specs.Step.{blank_record, marked_of, taken_of, step_hub}
use Rattle.theory_calls.specs.Waiting.{waiting_list, rest_of, popped, empty-rest}
use Rattle.theory_calls.specs.Queue.{Sound, pushes_in}
use Rattle.theory_calls.proofs.Queue.{nothing-lost}
use Rattle.theory_registered.specs.Pads.{Desk}
use Rattle.theory_history.specs.Lemmas.Cells.{Cell, cell_at, cell_pressed, cell_value, hits}
use Rattle.theory_history.specs.Lemmas.Turns.{out_of, more_of}
use Rattle.theory_history.specs.Lemmas.Steps.{Ready, look, look_at, front-taken, front-cell, front-hasaxis, pushes-of, cell-of, hasaxis-of}
use Rattle.theory_history.specs.Lemmas.Waits.{Sheet, sheet_of, axial_at, All, head_of, Fit}
use Rattle.theory_history.specs.Lemmas.Exact.{put_at, moves_at, Apart, queues}
use Rattle.theory_history.specs.Lemmas.Views.{sees}
use Rattle.theory_history.specs.Lemmas.Serve.{same-sheet}
use Rattle.theory_history.specs.Lemmas.Take.{queue_of}
use Rattle.theory_history.specs.Lemmas.Written.{writes, Never, writes_more, never-more, Exactly, exactly}

-- pressed reads 1.0, else 0.0
pub record Shows (x : Cell) (b : Bool) : Type 0 where
  pub pressed : cell_pressed x ≡ b
  pub value : cell_value x ≡ amount b

-- a place, once all that waits is written
pub record Side (h : Hub) (k : ℕ) (b : Bool) : Type 0 where
  pub shows : Shows (writes (sheet_of h) k (waiting_list h) (cell_at h k)) b
  pub still : has_axis_at h k ≡ false

-- two places, on the way
abbrev pub Opposed : Hub → ℕ → ℕ → Type 0
Opposed h j k = Never (sheet_of h) j k (waiting_list h) (cell_at h j) (cell_at h k)

-- the same of a hub that is told by its sheets, by what waits and by what it holds
module _ (h : Hub) {s : Sheet} {q : List Event} (sheet : sheet_of h ≡ s) (waits : waiting_list h ≡ q) where
  pub side-by : (k : ℕ) {x : Cell} {b : Bool} → cell_at h k ≡ x → Shows (writes s k q x) b → has_axis_at h k ≡ false → Side h k b
  side-by k {x} {b} cell shows still =
      record {
        shows = subst₃ (λ (t : Sheet) (es : List Event) (y : Cell). Shows (writes t k es y) b) (sym sheet) (sym waits) (sym cell) shows;
        still = still;
      }

  pub opposed-by : (j k : ℕ) {x y : Cell} → cell_at h j ≡ x → cell_at h k ≡ y → Never s j k q x y → Opposed h j k
  opposed-by j k cj ck never =
      subst₂ (λ (t : Sheet) (es : List Event). Never t j k es (cell_at h j) (cell_at h k)) (sym sheet) (sym waits) (subst₂ (Never s j k q) (sym cj) (sym ck) never)

-- a place that events are written to as they are
pub record Plain (s : Sheet) (k : ℕ) : Type 0 where
  pub inside : k < nowhere
  pub bare : axial_at s k ≡ false
  pub whole : eqb (get_or s.kinds k 0) element_axis ≡ false

-- ---- a step from the queue

module _ (h : Hub) (w : Ready h) (desk : Desk h) (sound : Sound h) (some : 0 < h.waiting) (fits : All (Fit (sheet_of h)) (waiting_list h)) where
  abbrev s : Sheet
  s = sheet_of h

  abbrev front : Event
  front = front_of h

  abbrev view : View
  view = view_of (marked_of h blank_record) front

  fit : Fit s front
  fit = head_of (subst (All (Fit s)) (popped h some) fits)

  queue : waiting_list (step_hub h look) ≡ rest_of h ++ more_of view front
  queue = nothing-lost h look sound ∙ ap (λ (es : List Event). rest_of h ++ es) (pushes-of h look w (single front) (front-taken h some))

  module _ (k : ℕ) (pl : Plain s k) where
    exact : Exactly s k pl.bare pl.whole view front
    exact = exactly s k pl.bare pl.whole view front fit (sees h blank_record w desk front)

    served-cell : cell_at (step_hub h look) k ≡ put_at s k front (cell_at h k)
    served-cell =
        cell-of h look w (single front) (front-taken h some) k pl.inside
        ∙ (ap (λ (x : Cell). put_at s k (out_of view front) x) (front-cell h k) ∙ exact.cell (cell_at h k))

    served-still : has_axis_at h k ≡ false → has_axis_at (step_hub h look) k ≡ false
    served-still still =
        hasaxis-of h look w (single front) (front-taken h some) k pl.inside
        ∙ (ap (λ (m : Bool). cond (hits h.codes k (out_of view front)) (m || writes_axis_type (out_of view front).event) m) (front-hasaxis h k ∙ still) ∙ exact.still)

    -- what it queues is of other places
    later : All (Apart s k) (more_of view front)
    later = queues s k pl.bare view fit (sees h blank_record w desk front)

    pub served-side : (b : Bool) → Side h k b → Side (step_hub h look) k b
    unfolding writes
    served-side b t =
        let front-first = subst (λ (q : List Event). Shows (writes s k q (cell_at h k)) b) (popped h some) t.shows in
        side-by (step_hub h look) (same-sheet h look) queue k served-cell
        (subst (λ (x : Cell). Shows x b) (sym (writes_more s k (rest_of h) (put_at s k front (cell_at h k)) later)) front-first)
        (served-still t.still)

  pub served-opposed : (j k : ℕ) → Plain s j → Plain s k → Opposed h j k → Opposed (step_hub h look) j k
  unfolding Never
  served-opposed j k pj pk t =
      let behind = (subst (λ (q : List Event). Never s j k q (cell_at h j) (cell_at h k)) (popped h some) t).1 in
      opposed-by (step_hub h look) (same-sheet h look) queue j k (served-cell j pj) (served-cell k pk)
      (never-more s j k (rest_of h) (put_at s j front (cell_at h j)) (put_at s k front (cell_at h k)) (later j pj) (later k pk) behind)

-- ---- a step that takes a record

-- what goes out, and what is queued
abbrev pub view_by : Hub → RawRecord → View
view_by h r = view_of (marked_of h r) (taken_of h (look_at r)).event

abbrev pub out_by : Hub → RawRecord → Event
out_by h r = out_of (view_by h r) (taken_of h (look_at r)).event

abbrev pub queue_by : Hub → RawRecord → List Event
queue_by h r = queue_of (taken_of h (look_at r)) (view_by h r)

-- they make a place show b
pub record Turn (s : Sheet) (k : ℕ) (out : Event) (q : List Event) (x : Cell) (b : Bool) : Type 0 where
  pub shows : Shows (writes s k q (put_at s k out x)) b
  pub still : moves_at s k out ≡ false

module _ (h : Hub) (w : Ready h) (sound : Sound h) (r : RawRecord) (none : h.waiting ≡ 0) where
  abbrev seen : Hub
  seen = marked_of h r

  abbrev after : Hub
  after = step_hub h (look_at r)

  abbrev gives : Dispatched
  gives = taken_of h (look_at r)

  taken-queue : waiting_list after ≡ queue_by h r
  taken-queue =
      nothing-lost h (look_at r) sound ∙ (ap (λ (es : List Event). es ++ pushes_in h (look_at r)) (empty-rest h none) ∙ pushes-of h (look_at r) w gives refl)

  taken-cell : (k : ℕ) → k < nowhere → cell_at after k ≡ put_at (sheet_of h) k (out_by h r) (cell_at seen k)
  taken-cell k inside = cell-of h (look_at r) w gives refl k inside

  taken-still : (k : ℕ) → k < nowhere → has_axis_at seen k ≡ false → moves_at (sheet_of h) k (out_by h r) ≡ false → has_axis_at after k ≡ false
  taken-still k inside still moves =
      hasaxis-of h (look_at r) w gives refl k inside
      ∙ (ap (λ (m : Bool). cond (hits h.codes k (out_by h r)) (m || writes_axis_type (out_by h r).event) m) still ∙ moves)

  pub taken-side : (k : ℕ) → k < nowhere → (b : Bool) → has_axis_at seen k ≡ false → Turn (sheet_of h) k (out_by h r) (queue_by h r) (cell_at seen k) b → Side after k b
  taken-side k inside b still t =
      side-by after (same-sheet h (look_at r)) taken-queue k (taken-cell k inside) t.shows (taken-still k inside still t.still)

  pub taken-opposed : (j k : ℕ) → j < nowhere → k < nowhere
      → Never (sheet_of h) j k (queue_by h r) (put_at (sheet_of h) j (out_by h r) (cell_at seen j)) (put_at (sheet_of h) k (out_by h r) (cell_at seen k)) → Opposed after j k
  taken-opposed j k ij ik never = opposed-by after (same-sheet h (look_at r)) taken-queue j k (taken-cell j ij) (taken-cell k ik) never
