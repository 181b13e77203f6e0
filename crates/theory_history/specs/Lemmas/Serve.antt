-- A step from the queue leaves what a place tells: pressed, and the value that it will read once what waits is served.
use Rattle.std.specs.Prelude.{ℕ, ◌<◌, Bool, true, false, cond, ◌||◌, ◌≡◌, refl, Float}
use mathlib.Core.List.{List, ◌++◌}
use Rattle.std.proofs.Common.{sym, ◌∙◌, eqb-true}
use Rattle.std.proofs.Math.Path.{ap, subst}
use Rattle.std.specs.Float.Ieee.{eq}
use Rattle.rules.specs.declared.Hub.{Hub}
use Rattle.rules.specs.declared.Event.{Event}
use Rattle.rules.specs.declared.NextRecord.{NextRecord}
use Rattle.rules.specs.Names.{nowhere}
use Rattle.rules.specs.Places.{place_of}
use Rattle.rules.specs.Events.{code_of}
use Rattle.rules.specs.State.{writes_axis_type}
use Rattle.rules.specs.Dispatch.{single}
use Rattle.rules.specs.Hub.{has_axis_at, front_of, view_of}
use Rattle.rules.specs.Step.{blank_record, marked_of, pushed_of, filtered_hub, updated_of, updated_at, step_hub}
use Rattle.theory_calls.specs.Waiting.{waiting_list, rest_of, popped}
use Rattle.theory_calls.specs.Queue.{Sound}
use Rattle.theory_calls.proofs.Queue.{nothing-lost}
use Rattle.theory_registered.specs.Pads.{Desk}
use Rattle.theory_history.specs.Lemmas.Cells.{Cell, cell_at, cell_pressed, cell_value, cell_type, hits}
use Rattle.theory_history.specs.Lemmas.Turns.{out_of, more_of}
use Rattle.theory_history.specs.Lemmas.Steps.{Ready, look, front-taken, front-cell, front-hasaxis, pushes-of, cell-of, hasaxis-of}
use Rattle.theory_history.specs.Lemmas.Waits.{Sheet, sheet_of, axial_at, All, all_append, head_of, tail_of}
use Rattle.theory_history.specs.Lemmas.Served.{due, due-append, Waiting, serves}
use Rattle.theory_history.specs.Lemmas.Views.{sees, own_is}

-- a step changes no sheet
pub same-sheet : (h : Hub) (l : NextRecord) → sheet_of (step_hub h l) ≡ sheet_of h
unfolding step_hub updated_of updated_at filtered_hub pushed_of marked_of
same-sheet h l = refl

module _ (P : Float → Type 0) (alike : (a b : Float) → P a → P b → eq a b ≡ true → a ≡ b) where
  -- what a place tells while q waits: pressed already, the value at last
  pub record Tells (s : Sheet) (h : Hub) (k : ℕ) (q : List Event) (b : Bool) (v : Float) : Type 0 where
    pub pressed : cell_pressed (cell_at h k) ≡ b
    pub value : due s k q (cell_value (cell_at h k)) ≡ v
    pub proper : P (cell_value (cell_at h k))
    pub still : has_axis_at h k ≡ false
    pub waits : All (Waiting P alike s k) q

  module _ (h : Hub) (w : Ready h) (desk : Desk h) (sound : Sound h) (some : 0 < h.waiting) (k : ℕ) (inside : k < nowhere)
      (bare : axial_at (sheet_of h) k ≡ false) (b : Bool) (v : Float) where
    abbrev s : Sheet
    s = sheet_of h

    abbrev front : Event
    front = front_of h

    abbrev x : Cell
    x = cell_at h k

    own : has_axis_at h k ≡ false → hits s.codes k front ≡ true → (view_of (marked_of h blank_record) front).own ≡ cell_value x
    unfolding hits
    own still hit =
        own_is h blank_record front k (eqb-true (place_of h.codes front.pad (code_of front)) k hit) (front-hasaxis h k ∙ still)
        ∙ ap cell_value (front-cell h k)

    pub serve-tells : Tells s h k (waiting_list h) b v → Tells (sheet_of (step_hub h look)) (step_hub h look) k (waiting_list (step_hub h look)) b v
    serve-tells t =
        let all = subst (All (Waiting P alike s k)) (popped h some) t.waits in
        let z = serves P alike s k front (head_of all) (view_of (marked_of h blank_record) front) x t.proper bare (sees h blank_record w desk front) (own t.still) in
        let taken = front-taken h some in
        let queue : waiting_list (step_hub h look) ≡ rest_of h ++ more_of (view_of (marked_of h blank_record) front) front =
        nothing-lost h look sound ∙ ap (λ (es : List Event). rest_of h ++ es) (pushes-of h look w (single front) taken) in
        let cell : cell_at (step_hub h look) k ≡ cond (hits s.codes k (out_of (view_of (marked_of h blank_record) front) front)) (cell_type (out_of (view_of (marked_of h blank_record) front) front).event x) x =
        cell-of h look w (single front) taken k inside
        ∙ ap (λ (y : Cell). cond (hits h.codes k (out_of (view_of (marked_of h blank_record) front) front)) (cell_type (out_of (view_of (marked_of h blank_record) front) front).event y) y) (front-cell h k) in
        let hasaxis : has_axis_at (step_hub h look) k ≡ false =
        hasaxis-of h look w (single front) taken k inside
        ∙ (ap (λ (m : Bool). cond (hits h.codes k (out_of (view_of (marked_of h blank_record) front) front)) (m || writes_axis_type (out_of (view_of (marked_of h blank_record) front) front).event) m) (front-hasaxis h k ∙ t.still)
        ∙ z.still) in
        subst (λ (g : Sheet). Tells g (step_hub h look) k (waiting_list (step_hub h look)) b v) (sym (same-sheet h look))
        (record {
          pressed = ap cell_pressed cell ∙ (z.pressed ∙ t.pressed);
          value =
              ap (λ (es : List Event). due s k es (cell_value (cell_at (step_hub h look) k))) queue
              ∙ (due-append s k (rest_of h) (more_of (view_of (marked_of h blank_record) front) front) (cell_value (cell_at (step_hub h look) k))
              ∙ (z.later (due s k (rest_of h) (cell_value (cell_at (step_hub h look) k)))
              ∙ (ap (λ (f : Float). due s k (rest_of h) f) (ap cell_value cell ∙ z.value)
              ∙ (unfold due in (ap (λ (es : List Event). due s k es (cell_value x)) (sym (popped h some)) ∙ t.value)))));
          proper = subst P (sym (ap cell_value cell)) z.proper;
          still = hasaxis;
          waits = subst (All (Waiting P alike s k)) (sym queue) (all_append (rest_of h) (more_of (view_of (marked_of h blank_record) front) front) (tail_of all) z.waits);
        })
