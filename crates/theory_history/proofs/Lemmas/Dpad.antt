-- Hats, whatever is played: a direction of a converting pad that its sheet does not list shows what the last value of its axis says, whatever the sheet says of
-- the opposite one.
use Rattle.std.specs.Prelude.{ℕ, ◌<◌, Bool, false, ◌&&◌, List, [], ◌∷◌, ◌≡◌, refl, eqb, Float, get_or}
use Rattle.std.proofs.Math.Bool.{true}
use Rattle.std.proofs.Math.Path.{sym, subst}
use Rattle.std.proofs.Common.{◌∙◌, ap, arith}
use Rattle.std.specs.Float.Ieee.{eq}
use borrow.Author.Tests.{eqb-true, ne_eqb}
use Rattle.numbers.specs.Constants.{zero32}
use Rattle.rules.specs.declared.Hub.{Hub}
use Rattle.rules.specs.declared.EventType.TheVariants.{Repeated}
use Rattle.rules.specs.declared.Element.{Element}
use Rattle.rules.specs.declared.RawRecord.{RawRecord}
use Rattle.rules.specs.Names.{nowhere, no_name}
use Rattle.rules.specs.Places.{place_of}
use Rattle.rules.specs.Hub.{element_at}
use Rattle.rules.specs.Step.{record_kind, updated_of, step_hub}
use Rattle.rules.specs.Calls.{registered_at, counted_at}
use Rattle.theory_calls.specs.Waiting.{waiting_list}
use Rattle.theory_calls.proofs.Reach.{reached-sound}
use Rattle.theory_registered.specs.Pads.{Desk}
use Rattle.theory_registered.proofs.Pads.{reached-desk}
use Rattle.theory_history.specs.Rule.{rejoins, speaks, dispatched_value, hat_value, direction_code, pressing_value}
use Rattle.theory_history.specs.Lemmas.Cells.{cell_at}
use Rattle.theory_history.specs.Lemmas.Turns.{ev}
use Rattle.theory_history.specs.Lemmas.Steps.{look, look_at}
use Rattle.theory_history.specs.Lemmas.Waits.{Sheet, sheet_of}
use Rattle.theory_history.specs.Lemmas.Accepted.{Good}
use Rattle.theory_history.specs.Lemmas.Records.{foreign-joins}
use Rattle.theory_history.proofs.Lemmas.Concerned.{spoken-listed}
use Rattle.theory_history.specs.Played.{Played, reached, ready}
use Rattle.theory_history.specs.Lemmas.Register.{listed_found}
use Rattle.theory_history.specs.Lemmas.Sorts.{Same, same-sheets, same_place, step_same, update_same}
use Rattle.theory_history.specs.Lemmas.Tidy.{tidy}
use Rattle.theory_history.specs.Lemmas.Fed.{repeat-cell, repeat-hasaxis, update-sheet, update-queue}
use Rattle.theory_history.specs.Lemmas.Kept.{grown, Keeps, kept, unseen}
use Rattle.theory_history.specs.Lemmas.Sides.{Side, side-by, served-side}
use Rattle.theory_history.specs.Lemmas.Hats.{Unlisted, Sheeted, name_by, turns}
use Rattle.theory_history.proofs.Lemmas.Hats.{moves, joined-side, other-side, turned-side}
use Rattle.theory_history.specs.Lemmas.HatGrown.{old-unlisted, old-sheeted, old-side, new-side}
use Rattle.theory_history.specs.Lemmas.Presses.{zero-presses}

module _ (p n : ℕ) (positive reversed : Bool) (name_of : ℕ → ℕ) (element_of : ℕ → Element) where
  record On (h : Hub) : Type 0 where
    pub unlisted : Unlisted (sheet_of h) p n positive
    pub sheeted : Sheeted (sheet_of h) p name_of element_of
    pub reverse : h.reversed ≡ reversed

  abbrev value : List RawRecord → Float
  value rs = hat_value reversed name_of element_of n p rs

  abbrev shown : List RawRecord → Bool
  shown rs = eq (value rs) (pressing_value positive)

  abbrev place : Hub → ℕ
  place h = place_of h.codes p (direction_code positive n)

  abbrev Holds : Hub → List RawRecord → Type 0
  Holds h rs = Side h (place h) (shown rs)

  -- a hub with the same sheets has the direction where it was
  over : (h g : Hub) → Same h g → (b : Bool) → Side g (place h) b → Side g (place g) b
  over h g a b t = subst (λ (k : ℕ). Side g k b) (sym (same_place h g a p (direction_code positive n))) t

  -- ---- a record

  module _ {h : Hub} {rs : List RawRecord} (w : Played h rs) (r : RawRecord) (none : h.waiting ≡ 0) (ok : Good h r) (on : On h) where
    abbrev desk : Desk h
    desk = reached-desk (reached w)

    abbrev at : ℕ
    at = place_of h.codes r.pad r.code

    -- a code of a record that speaks is listed, and so found
    found : r.pad ≡ p → speaks r.kind ≡ true → place_of h.codes p r.code < nowhere
    unfolding record_kind
    found pad spoken = subst (λ (q : ℕ). place_of h.codes q r.code < nowhere) pad (listed_found h desk at (spoken-listed h r ok spoken))

    name-is : r.pad ≡ p → speaks r.kind ≡ true → name_by h r ≡ name_of r.code
    name-is pad spoken = ap (λ (q : ℕ). get_or h.names (place_of h.codes q r.code) no_name) pad ∙ on.sheeted.name r.code (found pad spoken)

    element-is : r.pad ≡ p → speaks r.kind ≡ true → element_at h at ≡ element_of r.code
    element-is pad spoken = ap (λ (q : ℕ). element_at h (place_of h.codes q r.code)) pad ∙ on.sheeted.element r.code (found pad spoken)

    test-is : turns h p n r ≡ (eqb r.pad p && (speaks r.kind && eqb (name_of r.code) n))
    test-is = by (eqb r.pad p) (speaks r.kind) refl refl
      where
        by : (a b : Bool) → eqb r.pad p ≡ a → speaks r.kind ≡ b → (a && (b && eqb (name_by h r) n)) ≡ (a && (b && eqb (name_of r.code) n))
        by true true a b = ap (λ (m : ℕ). eqb m n) (name-is (eqb-true r.pad p a) b)
        by true false a b = refl
        by false spoken a b = refl

    joined-value : rejoins p r ≡ true → value (r ∷ rs) ≡ zero32
    unfolding hat_value
    joined-value j = rw j

    other-value : rejoins p r ≡ false → turns h p n r ≡ false → value (r ∷ rs) ≡ value rs
    unfolding hat_value
    other-value j t = rw (j, sym test-is ∙ t)

    turned-value : rejoins p r ≡ false → turns h p n r ≡ true → value (r ∷ rs) ≡ dispatched_value h.reversed n (element_at h at) r
    unfolding hat_value
    turned-value j t =
        let m = moves h p n r t in
        rw (j, sym test-is ∙ t) (rw (element-is m.pad m.spoken, on.reverse))

    abbrev After : Float → Type 0
    After v = Side (step_hub h (look_at r)) (place h) (eq v (pressing_value positive))

    takes : Holds h rs → Holds (step_hub h (look_at r)) (r ∷ rs)
    takes t = over h (step_hub h (look_at r)) (step_same h (look_at r)) (shown (r ∷ rs)) (by (rejoins p r) (turns h p n r) refl refl)
      where
        by : (joins hasaxis : Bool) → rejoins p r ≡ joins → turns h p n r ≡ hasaxis → After (value (r ∷ rs))
        by true hasaxis j m =
            subst After (sym (joined-value j))
            (subst (Side (step_hub h (look_at r)) (place h)) (sym (zero-presses positive))
            (joined-side h (ready w) desk (reached-sound (reached w)) p n r ok none positive on.unlisted j))
        by false true j m =
            subst After (sym (turned-value j m))
            (turned-side h (ready w) desk (reached-sound (reached w)) p n r ok none positive on.unlisted j (shown rs) t m)
        by false false j m =
            subst After (sym (other-value j m))
            (other-side h (ready w) desk (reached-sound (reached w)) p n r ok none positive on.unlisted j (shown rs) t m)

  -- ---- every call

  shown-none : shown [] ≡ false
  unfolding hat_value
  shown-none = zero-presses positive

  -- a record of another pad is none of this one's
  shown-foreign : (r : RawRecord) (rs : List RawRecord) → (r.pad ≡ p → ⊥) → shown (r ∷ rs) ≡ shown rs
  unfolding hat_value
  shown-foreign r rs other = rw (foreign-joins p r other, ne_eqb r.pad p other)

  keeps : Keeps p On Holds
  keeps =
      record {
        pad = λ h on. on.unlisted.pad;
        back =
            λ h g a on.
            record {
              unlisted = subst (λ (s : Sheet). Unlisted s p n positive) (same-sheets h g a) on.unlisted;
              sheeted = subst (λ (s : Sheet). Sheeted s p name_of element_of) (same-sheets h g a) on.sheeted;
              reverse = sym a.reversed ∙ on.reverse;
            };
        before =
            λ h rs w s ok old on.
            let desk = reached-desk (reached w) in
            record {
              unlisted = old-unlisted h s desk ok p old n positive on.unlisted;
              sheeted = old-sheeted h s desk ok p old name_of element_of on.sheeted;
              reverse = unfold registered_at in on.reverse;
            };
        newer =
            λ h rs w s ok last on.
            subst (Side (grown h s) (place (grown h s))) (sym (unseen p shown shown-foreign w (omega arith) ∙ shown-none))
            (new-side h s (reached-desk (reached w)) ok p last (ready w).long (tidy w) (direction_code positive n) on.unlisted.plain.inside);
        older =
            λ h rs w s ok old on t.
            old-side h s (reached-desk (reached w)) ok p old (tidy w) (direction_code positive n) on.unlisted.plain.inside (shown rs) t;
        takes = λ h rs w r none ok on t. takes w r none ok on t;
        serves =
            λ h rs w some on t.
            over h (step_hub h look) (step_same h look) (shown rs)
            (served-side h (ready w) (reached-desk (reached w)) (reached-sound (reached w)) some (tidy w) (place h) on.unlisted.plain (shown rs) t);
        counts = λ h rs m t. unfold counted_at cell_at waiting_list in record { shows = t.shows; still = t.still };
        repeats =
            λ h rs w pad time m c down on t.
            let e = ev pad time (Repeated m c) in
            let found = on.unlisted.plain.inside in
            over h (updated_of true h e) (update_same h e) (shown rs)
            (side-by (updated_of true h e) (sym (update-sheet h e)) (sym (update-queue h e)) (place h)
            (repeat-cell h (ready w) pad time m c down (place h) found) t.shows (repeat-hasaxis h (ready w) pad time m c down (place h) found t.still));
      }

  pub sides : {h : Hub} {rs : List RawRecord} → Played h rs → Unlisted (sheet_of h) p n positive → Sheeted (sheet_of h) p name_of element_of
      → h.reversed ≡ reversed
      → Side h (place_of h.codes p (direction_code positive n)) (eq (hat_value reversed name_of element_of n p rs) (pressing_value positive))
  sides w unlisted sheeted reverse = kept p On Holds keeps w (record { unlisted = unlisted; sheeted = sheeted; reverse = reverse })
