-- Opposite directions, whatever is played: two that the sheet of a converting pad does not list are never pressed together, now or while what waits is written.
use Rattle.std.specs.Prelude.{ℕ, Bool, List}
use Rattle.std.proofs.Math.Bool.{true, false}
use Rattle.std.proofs.Common.{sym, subst, subst₂}
use Rattle.rules.specs.declared.Hub.{Hub}
use Rattle.rules.specs.declared.EventType.TheVariants.{Repeated}
use Rattle.rules.specs.declared.RawRecord.{RawRecord}
use Rattle.rules.specs.Names.{positive_code, negative_code}
use Rattle.rules.specs.Places.{place_of}
use Rattle.rules.specs.Step.{updated_of, step_hub}
use Rattle.rules.specs.Calls.{counted_at}
use Rattle.theory_calls.specs.Waiting.{waiting_list}
use Rattle.theory_calls.proofs.Reach.{reached-sound}
use Rattle.theory_registered.proofs.Pads.{reached-desk}
use Rattle.theory_history.specs.Rule.{direction_code}
use Rattle.theory_history.specs.Lemmas.Cells.{cell_at}
use Rattle.theory_history.specs.Lemmas.Turns.{ev}
use Rattle.theory_history.specs.Lemmas.Steps.{look, look_at}
use Rattle.theory_history.specs.Lemmas.Waits.{Sheet, sheet_of}
use Rattle.theory_history.specs.Played.{Played, reached, ready}
use Rattle.theory_history.specs.Lemmas.Sorts.{Same, same-sheets, same_place, step_same, update_same}
use Rattle.theory_history.specs.Lemmas.Tidy.{tidy}
use Rattle.theory_history.specs.Lemmas.Fed.{repeat-cell, update-sheet, update-queue}
use Rattle.theory_history.specs.Lemmas.Kept.{Keeps, kept}
use Rattle.theory_history.specs.Lemmas.Sides.{Opposed, opposed-by, served-opposed}
use Rattle.theory_history.specs.Lemmas.Hats.{Unlisted}
use Rattle.theory_history.proofs.Lemmas.Hats.{record-opposed}
use Rattle.theory_history.specs.Lemmas.HatGrown.{old-unlisted, old-opposed, new-opposed}

module _ (p n : ℕ) where
  record On (h : Hub) : Type 0 where
    pub plus : Unlisted (sheet_of h) p n true
    pub minus : Unlisted (sheet_of h) p n false

  abbrev place : Bool → Hub → ℕ
  place positive h = place_of h.codes p (direction_code positive n)

  abbrev Holds : Hub → List RawRecord → Type 0
  Holds h rs = Opposed h (place true h) (place false h)

  -- a hub with the same sheets has the two where they were
  over : (h g : Hub) → Same h g → Opposed g (place true h) (place false h) → Opposed g (place true g) (place false g)
  over h g a t = subst₂ (Opposed g) (sym (same_place h g a p (positive_code n))) (sym (same_place h g a p (negative_code n))) t

  keeps : Keeps p On Holds
  keeps =
      record {
        pad = λ h on. on.plus.pad;
        back =
            λ h g a on.
            record {
              plus = subst (λ (s : Sheet). Unlisted s p n true) (same-sheets h g a) on.plus;
              minus = subst (λ (s : Sheet). Unlisted s p n false) (same-sheets h g a) on.minus;
            };
        before =
            λ h rs w s ok old on.
            let desk = reached-desk (reached w) in
            record { plus = old-unlisted h s desk ok p old n true on.plus; minus = old-unlisted h s desk ok p old n false on.minus };
        newer =
            λ h rs w s ok last on.
            new-opposed h s (reached-desk (reached w)) ok p last (ready w).long (tidy w) (positive_code n) (negative_code n) on.plus.plain.inside
            on.minus.plain.inside;
        older =
            λ h rs w s ok old on t.
            old-opposed h s (reached-desk (reached w)) ok p old (tidy w) (positive_code n) (negative_code n) on.plus.plain.inside
            on.minus.plain.inside t;
        takes =
            λ h rs w r none ok on t.
            over h (step_hub h (look_at r)) (step_same h (look_at r))
            (record-opposed h (ready w) (reached-desk (reached w)) (reached-sound (reached w)) p n r ok none on.plus on.minus t);
        serves =
            λ h rs w some on t.
            over h (step_hub h look) (step_same h look)
            (served-opposed h (ready w) (reached-desk (reached w)) (reached-sound (reached w)) some (tidy w) (place true h) (place false h) on.plus.plain
            on.minus.plain t);
        counts = λ h rs m t. unfold counted_at cell_at waiting_list in t;
        repeats =
            λ h rs w pad time m c down on t.
            let e = ev pad time (Repeated m c) in
            over h (updated_of true h e) (update_same h e)
            (opposed-by (updated_of true h e) (sym (update-sheet h e)) (sym (update-queue h e)) (place true h) (place false h)
            (repeat-cell h (ready w) pad time m c down (place true h) on.plus.plain.inside)
            (repeat-cell h (ready w) pad time m c down (place false h) on.minus.plain.inside) t);
      }

  pub opposed : {h : Hub} {rs : List RawRecord} → Played h rs → Unlisted (sheet_of h) p n true → Unlisted (sheet_of h) p n false
      → Opposed h (place_of h.codes p (positive_code n)) (place_of h.codes p (negative_code n))
  opposed w plus minus = kept p On Holds keeps w (record { plus = plus; minus = minus })
