-- The directions of hats after a registration: those of a pad before it show what they showed, and those of the new pad nothing.
use Rattle.std.specs.Prelude.{ℕ, ◌/◌, ◌<◌, Bool, true, false, cond, ◌≡◌, eqb, get_or}
use mathlib.Core.List.{List, []}
use Rattle.std.proofs.Math.Path.{refl, ap, subst₂}
use Rattle.std.proofs.Common.{sym, ◌∙◌, subst, arith}
use Rattle.rules.specs.declared.Hub.{Hub}
use Rattle.rules.specs.declared.Event.{Event}
use Rattle.rules.specs.declared.Element.{Element}
use Rattle.rules.specs.Names.{nowhere, no_name, places_per_pad}
use Rattle.rules.specs.Sheets.{element_axis}
use Rattle.rules.specs.Places.{place_of}
use Rattle.rules.specs.Hub.{element_at}
use Rattle.rules.specs.Calls.{register_refusal}
use Rattle.theory_calls.specs.Waiting.{waiting_list}
use Rattle.pad.specs.Lookup.{place-stands}
use Rattle.theory_registered.specs.Pads.{Desk}
use Rattle.theory_history.specs.Rule.{direction_code}
use Rattle.theory_history.specs.Lemmas.Cells.{Cell, cell_at, cell_type, Long}
use Rattle.theory_history.specs.Lemmas.Waits.{sheet_of, axial_at, All, empty, more, Fit, fit-pad}
use Rattle.theory_history.specs.Lemmas.Exact.{put_at, Apart}
use Rattle.theory_history.specs.Lemmas.Register.{next, same_queue, same-hits, still-fits, old-place, old-takes, old-name, old-kind, old_element, old-axial, old-cell, old-hasaxis, new-hasbutton, new-hasaxis, new_apart}
use Rattle.theory_history.specs.Lemmas.Written.{writes, Never, writes_more, never-more}
use Rattle.theory_history.specs.Lemmas.Sides.{Shows, Side, Opposed, side-by, opposed-by}
use Rattle.theory_history.specs.Lemmas.Hats.{Unlisted, Sheeted}

module _ (h : Hub) (s : List ℕ) (desk : Desk h) (ok : register_refusal true h.pads s ≡ 0) (p : ℕ) where
  abbrev then : Hub
  then = next h s desk ok

  -- ---- a pad before it

  module _ (old : p < h.pads) where
    place : (c : ℕ) → place_of then.codes p c ≡ place_of h.codes p c
    place c = old-place h s desk ok p old c

    own : (c : ℕ) → place_of h.codes p c < nowhere → place_of h.codes p c / places_per_pad ≡ p
    own c found = (place-stands h.codes p c found).own

    pub old-unlisted : (n : ℕ) (positive : Bool) → Unlisted (sheet_of then) p n positive → Unlisted (sheet_of h) p n positive
    old-unlisted n positive u =
        let c = direction_code positive n in
        let k = place_of h.codes p c in
        let found : k < nowhere = subst (λ (i : ℕ). i < nowhere) (place c) u.plain.inside in
        let kind = sym (old-kind h s desk ok p old k (own c found)) in
        record {
          pad = old;
          takes = sym (old-takes h s desk ok p old n) ∙ u.takes;
          plain =
              record {
                inside = found;
                bare = sym (old-axial h s desk ok p old k (own c found)) ∙ (ap (λ (i : ℕ). axial_at (sheet_of then) i) (sym (place c)) ∙ u.plain.bare);
                whole = ap (λ (x : ℕ). eqb x element_axis) kind ∙ (ap (λ (i : ℕ). eqb (get_or then.kinds i 0) element_axis) (sym (place c)) ∙ u.plain.whole);
              };
          none = kind ∙ (ap (λ (i : ℕ). get_or then.kinds i 0) (sym (place c)) ∙ u.none);
        }

    pub old-sheeted : (name_of : ℕ → ℕ) (element_of : ℕ → Element) → Sheeted (sheet_of then) p name_of element_of → Sheeted (sheet_of h) p name_of element_of
    old-sheeted name_of element_of t =
        record {
          name =
              λ c found.
              sym (old-name h s desk ok p old (place_of h.codes p c) (own c found))
              ∙ (ap (λ (k : ℕ). get_or then.names k no_name) (sym (place c)) ∙ t.name c (still c found));
          element =
              λ c found.
              sym (old_element h s desk ok p old (place_of h.codes p c) (own c found))
              ∙ (ap (λ (k : ℕ). element_at then k) (sym (place c)) ∙ t.element c (still c found));
        }
      where
        still : (c : ℕ) → place_of h.codes p c < nowhere → place_of then.codes p c < nowhere
        still c found = subst (λ (k : ℕ). k < nowhere) (sym (place c)) found

    same-put : (k : ℕ) (e : Event) (x : Cell) → e.pad < h.pads → put_at (sheet_of then) k e x ≡ put_at (sheet_of h) k e x
    same-put k e x i = ap (λ (hit : Bool). cond hit (cell_type e.event x) x) (same-hits h s desk ok k e i)

    same_writes : (k : ℕ) {q : List Event} (x : Cell) → All (Fit (sheet_of h)) q → writes (sheet_of then) k q x ≡ writes (sheet_of h) k q x
    unfolding writes
    same_writes k x empty = refl
    same_writes k x (more {e} {es} f rest) =
        ap (λ (y : Cell). writes (sheet_of then) k es y) (same-put k e x (fit-pad f)) ∙ same_writes k (put_at (sheet_of h) k e x) rest

    same-never : (j k : ℕ) {q : List Event} (x y : Cell) → All (Fit (sheet_of h)) q → Never (sheet_of h) j k q x y → Never (sheet_of then) j k q x y
    unfolding Never
    same-never j k x y empty never = never
    same-never j k x y (more {e} {es} f rest) never = (
      never.0,
      subst₂ (Never (sheet_of then) j k es) (sym (same-put j e x (fit-pad f))) (sym (same-put k e y (fit-pad f)))
          (same-never j k (put_at (sheet_of h) j e x) (put_at (sheet_of h) k e y) rest never.1),
    )

    module _ (fits : All (Fit (sheet_of h)) (waiting_list h)) where
      pub old-side : (c : ℕ) → place_of h.codes p c < nowhere → (b : Bool) → Side h (place_of h.codes p c) b → Side then (place_of then.codes p c) b
      old-side c found b t =
          let k = place_of h.codes p c in
          subst (λ (i : ℕ). Side then i b) (sym (place c))
          (side-by then refl (same_queue h s desk ok) k (old-cell h s desk ok p old k (own c found))
          (subst (λ (x : Cell). Shows x b) (sym (same_writes k (cell_at h k) fits)) t.shows) (old-hasaxis h s desk ok p old k (own c found) ∙ t.still))

      pub old-opposed : (c d : ℕ) → place_of h.codes p c < nowhere → place_of h.codes p d < nowhere
          → Opposed h (place_of h.codes p c) (place_of h.codes p d) → Opposed then (place_of then.codes p c) (place_of then.codes p d)
      old-opposed c d at_c at-d t =
          let j = place_of h.codes p c in
          let k = place_of h.codes p d in
          subst₂ (Opposed then) (sym (place c)) (sym (place d))
          (opposed-by then refl (same_queue h s desk ok) j k (old-cell h s desk ok p old j (own c at_c)) (old-cell h s desk ok p old k (own d at-d))
          (same-never j k (cell_at h j) (cell_at h k) fits t))

  -- ---- the new pad

  module _ (last : p ≡ h.pads) (long : Long h) (fits : All (Fit (sheet_of h)) (waiting_list h)) where
    module _ (c : ℕ) (found : place_of then.codes p c < nowhere) where
      abbrev k : ℕ
      k = place_of then.codes p c

      -- all that waits is of other places
      apart : {q : List Event} → All (Fit (sheet_of h)) q → All (Apart (sheet_of then) k) q
      apart empty = empty
      apart (more {e} fit rest) =
          more (record { fit = still-fits h s desk ok fit; apart = new_apart h s desk ok p c (omega arith) found e (fit-pad fit) }) (apart rest)

      new-own : k / places_per_pad ≡ h.pads
      new-own = (place-stands then.codes p c found).own ∙ last

      new-shows : Shows (cell_at then k) false
      unfolding cell_at
      new-shows =
          let off = new-hasbutton h s desk ok k new-own long in
          record { pressed = rw off; value = rw off }

      pub new-side : Side then k false
      unfolding writes
      new-side =
          side-by then refl (same_queue h s desk ok) k refl
          (subst (λ (x : Cell). Shows x false) (sym (writes_more (sheet_of then) k [] (cell_at then k) (apart fits))) new-shows) (new-hasaxis h s desk ok k new-own long)

    pub new-opposed : (c d : ℕ) → place_of then.codes p c < nowhere → place_of then.codes p d < nowhere
        → Opposed then (place_of then.codes p c) (place_of then.codes p d)
    unfolding Never
    new-opposed c d at_c at-d =
        opposed-by then refl (same_queue h s desk ok) (k c at_c) (k d at-d) refl refl
        (never-more (sheet_of then) (k c at_c) (k d at-d) [] (cell_at then (k c at_c)) (cell_at then (k d at-d)) (apart c at_c fits) (apart d at-d fits)
        (rw (new-shows c at_c).pressed))
