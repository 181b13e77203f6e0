-- Buttons and triggers, whatever is played: what a code's place tells is what the rule says of the records that were taken. By induction on the calls.
use Rattle.std.specs.Prelude.{ℕ, ◌<◌, Bool, true, false, List, [], ◌∷◌, ◌≡◌, refl, Float}
use Rattle.std.proofs.Common.{sym, ◌∙◌, arith, ne_eqb}
use Rattle.std.proofs.Math.Path.{ap, subst}
use Rattle.std.specs.Float.Ieee.{le}
use Rattle.std.proofs.Math.ListN.{get_or}
use Rattle.numbers.specs.Constants.{zero32}
use Rattle.numbers.specs.Scale.{button_scaled_of}
use Rattle.numbers.specs.Deadzone.{deadzone_of}
use Rattle.rules.specs.declared.Hub.{Hub}
use Rattle.rules.specs.declared.EventType.TheVariants.{Repeated}
use Rattle.rules.specs.declared.Element.{Element}
use Rattle.rules.specs.declared.RawRecord.{RawRecord}
use Rattle.rules.specs.Names.{nowhere}
use Rattle.rules.specs.Sheets.{element_axis}
use Rattle.rules.specs.Places.{place_of}
use Rattle.rules.specs.Hub.{element_at}
use Rattle.rules.specs.Step.{record_kind, updated_of, step_hub}
use Rattle.rules.specs.Calls.{counted_at}
use Rattle.theory_calls.specs.Waiting.{waiting_list}
use Rattle.theory_calls.specs.Reach.{Reached}
use Rattle.theory_calls.proofs.Reach.{reached-sound}
use Rattle.theory_arithmetic.specs.Proper.{Proper, proper-eq, zero-proper, one-proper}
use Rattle.theory_registered.specs.Pads.{Desk}
use Rattle.theory_registered.proofs.Pads.{reached-desk}
use Rattle.theory_registered.proofs.Triggers.{trigger-zoned}
use Rattle.theory_history.specs.Rule.{Reading, nothing, rejoins, concerns, button_reads, trigger_after, trigger_reads}
use Rattle.theory_history.specs.Lemmas.Cells.{cell_at}
use Rattle.theory_history.specs.Lemmas.Turns.{ev}
use Rattle.theory_history.specs.Lemmas.Steps.{Ready, look, look_at}
use Rattle.theory_history.specs.Lemmas.Waits.{sheet_of, zoned_at}
use Rattle.theory_history.specs.Lemmas.Serve.{Tells, serve-tells}
use Rattle.theory_history.specs.Lemmas.Accepted.{Good}
use Rattle.theory_history.specs.Lemmas.Own.{folded}
use Rattle.theory_history.specs.Lemmas.Records.{Place, foreign-joins}
use Rattle.theory_history.proofs.Lemmas.Records.{rejoined, unconcerned}
use Rattle.theory_history.proofs.Lemmas.Concerned.{Concerns, concerned, button-taken, trigger-taken, spoken-listed}
use Rattle.theory_history.specs.Played.{Played, reached, ready}
use Rattle.theory_history.specs.Lemmas.Kept.{grown, Keeps, kept, unseen}
use Rattle.theory_history.specs.Lemmas.Sorts.{Sort, button, silent, trigger, reads_of, Is, Same, same_place, place-back, is-back, step_same, counted_same, update_same, old-back, old-is}
use Rattle.theory_history.specs.Lemmas.Tidy.{tidy}
use Rattle.theory_history.specs.Lemmas.Fed.{repeat-told}
use Rattle.theory_history.specs.Lemmas.Grown.{old-tells, new-tells}

-- what a place of the hub tells
abbrev Tell : Hub → ℕ → Reading → Type 0
Tell h k x = Tells Proper proper-eq (sheet_of h) h k (waiting_list h) x.pressed x.value

-- ---- readings

foreign-concerns : (p c : ℕ) (r : RawRecord) → (r.pad ≡ p → ⊥) → concerns p c r ≡ false
unfolding concerns
foreign-concerns p c r other = rw (ne_eqb r.pad p other)

reads_other : (t : Sort) (p c : ℕ) (r : RawRecord) (rs : List RawRecord) → rejoins p r ≡ false → concerns p c r ≡ false → reads_of t p c (r ∷ rs) ≡ reads_of t p c rs
unfolding button_reads trigger_reads
reads_other button p c r rs j e = rw (j, e)
reads_other silent p c r rs j e = refl
reads_other (trigger on off el) p c r rs j e = rw (j, e)

reads-joined : (t : Sort) (p c : ℕ) (r : RawRecord) (rs : List RawRecord) → rejoins p r ≡ true → reads_of t p c (r ∷ rs) ≡ nothing
unfolding button_reads trigger_reads
reads-joined button p c r rs j = rw j
reads-joined silent p c r rs j = refl
reads-joined (trigger on off el) p c r rs j = rw j

reads_none : (t : Sort) (p c : ℕ) → reads_of t p c [] ≡ nothing
unfolding button_reads trigger_reads
reads_none button p c = refl
reads_none silent p c = refl
reads_none (trigger on off el) p c = refl

-- a record of another pad is none of this one's
reads-foreign : (t : Sort) (p c : ℕ) (r : RawRecord) (rs : List RawRecord) → (r.pad ≡ p → ⊥) → reads_of t p c (r ∷ rs) ≡ reads_of t p c rs
reads-foreign t p c r rs other = reads_other t p c r rs (foreign-joins p r other) (foreign-concerns p c r other)

-- ---- calls that take no record

-- the counter
counted-tells : (h : Hub) (n k : ℕ) (x : Reading) → Tell h k x → Tell (counted_at h n) k x
unfolding counted_at cell_at waiting_list
counted-tells h n k x t = record { pressed = t.pressed; value = t.value; proper = t.proper; still = t.still; waits = t.waits }

-- ---- a record

-- a trigger's reading, with what the hub keeps for what the rule is given
fold_is : (r : RawRecord) (was : Reading) (pressed released : Float) (kept : Element) (on off : Float) (el : Element) → pressed ≡ on → released ≡ off → kept ≡ el
    → record {
      pressed = folded was.pressed (le pressed (button_scaled_of kept.low kept.range r.value)) (le (button_scaled_of kept.low kept.range r.value) released);
      value = (deadzone_of (button_scaled_of kept.low kept.range r.value) zero32 kept.threshold).x;
    }
    ≡ trigger_after on off el r was
unfolding trigger_after
fold_is r was pressed released kept on off el a b c =
    ap (λ (x : Float). trigger_after x released kept r was) a ∙ (ap (λ (x : Float). trigger_after on x kept r was) b ∙ ap (λ (x : Element). trigger_after on off x r was) c)

module _ (h : Hub) (w : Ready h) (to : Reached h) (p c : ℕ) (pl : Place h p c) (t : Sort) (is : Is t h (place_of h.codes p c)) (r : RawRecord) (ok : Good h r)
    (none : h.waiting ≡ 0) (rs : List RawRecord) (told : Tell h (place_of h.codes p c) (reads_of t p c rs)) where
  abbrev k : ℕ
  k = place_of h.codes p c

  abbrev desk : Desk h
  desk = reached-desk to

  abbrev After : Reading → Type 0
  After x = Tells Proper proper-eq (sheet_of (step_hub h (look_at r))) (step_hub h (look_at r)) k (waiting_list (step_hub h (look_at r))) x.pressed x.value

  -- an axis's value is cut by its deadzone
  axis-zoned : get_or h.kinds k 0 ≡ element_axis → (z : Float) → zoned_at (sheet_of h) k z ≡ (deadzone_of z zero32 (element_at h k).threshold).x
  unfolding zoned_at
  axis-zoned kind z = rw kind

  own-reads : (on off : Float) (el : Element) → rejoins p r ≡ false → concerns p c r ≡ true
      → trigger_reads on off el p c (r ∷ rs) ≡ trigger_after on off el r (trigger_reads on off el p c rs)
  unfolding trigger_reads
  own-reads on off el j e = rw (j, e)

  -- a record of a code that is not listed is refused
  unlisted : Concerns p c r → get_or h.kinds k 0 ≡ 0 → ⊥
  unfolding record_kind
  unlisted own none =
      let here : place_of h.codes r.pad r.code ≡ k =
      ap (λ (q : ℕ). place_of h.codes q r.code) own.pad ∙ ap (λ (d : ℕ). place_of h.codes p d) own.code in
      spoken-listed h r ok own.spoken (ap (λ (i : ℕ). get_or h.kinds i 0) here ∙ none)

  own-by : (u : Sort) → Is u h k → Tell h k (reads_of u p c rs) → rejoins p r ≡ false → concerns p c r ≡ true → After (reads_of u p c (r ∷ rs))
  unfolding button_reads
  own-by button i told j e =
      rw (j, e)
      (button-taken Proper proper-eq zero-proper one-proper h w desk (reached-sound to) p c pl r ok none (button_reads p c rs).pressed (button_reads p c rs).value
      told j (concerned p c r e) i.kind)
  own-by silent i told j e = absurd (unlisted (concerned p c r e) i.kind)
  own-by (trigger on off el) i told j e =
      let was = trigger_reads on off el p c rs in
      let raw = trigger-zoned to p pl.pad c i.kind r.value ok.within in
      let z = button_scaled_of (element_at h k).low (element_at h k).range r.value in
      let zoned = axis-zoned i.kind z in
      let now =
      trigger-taken Proper proper-eq zero-proper one-proper h w desk (reached-sound to) p c pl r ok none was.pressed was.value told j (concerned p c r e) i.kind i.name
      (subst Proper (sym zoned) raw) in
      subst After (sym (own-reads on off el j e))
      (subst After (fold_is r was h.pressed h.released (element_at h k) on off el i.pressed i.released i.element)
      (subst (λ (f : Float). After (record { pressed = folded was.pressed (le h.pressed z) (le z h.released); value = f })) zoned now))

  pub taken-tells : After (reads_of t p c (r ∷ rs))
  taken-tells = by (rejoins p r) (concerns p c r) refl refl
    where
      by : (joins own : Bool) → rejoins p r ≡ joins → concerns p c r ≡ own → After (reads_of t p c (r ∷ rs))
      by true own j e =
          subst After (sym (reads-joined t p c r rs j)) (rejoined Proper proper-eq zero-proper h w desk (reached-sound to) p c pl r ok none j)
      by false true j e = own-by t is told j e
      by false false j e =
          subst After (sym (reads_other t p c r rs j e))
          (unconcerned Proper proper-eq zero-proper h w desk (reached-sound to) p c pl r ok none (reads_of t p c rs).pressed (reads_of t p c rs).value told j e)

-- ---- whatever is played

module _ (p c : ℕ) (t : Sort) where
  record On (h : Hub) : Type 0 where
    pub place : Place h p c
    pub is : Is t h (place_of h.codes p c)

  abbrev Holds : Hub → List RawRecord → Type 0
  Holds h rs = Tell h (place_of h.codes p c) (reads_of t p c rs)

  -- a hub with the same sheets has the code where it was
  over : (h g : Hub) → Same h g → (x : Reading) → Tell g (place_of h.codes p c) x → Tell g (place_of g.codes p c) x
  over h g a x told = subst (λ (k : ℕ). Tell g k x) (sym (same_place h g a p c)) told

  keeps : Keeps p On Holds
  keeps =
      record {
        pad = λ h on. on.place.pad;
        back = λ h g a on. record { place = place-back h g a p c on.place; is = is-back h g a p c t on.is };
        before =
            λ h rs w s ok old on.
            let desk = reached-desk (reached w) in
            let place = old-back h s desk ok p c old on.place in
            record { place = place; is = old-is h s desk ok p c old t place.found on.is };
        newer =
            λ h rs w s ok last on.
            subst (Tell (grown h s) (place_of (grown h s).codes p c)) (sym (unseen p (reads_of t p c) (reads-foreign t p c) w (omega arith) ∙ reads_none t p c))
            (subst (λ (q : ℕ). place_of (grown h s).codes q c < nowhere → Tell (grown h s) (place_of (grown h s).codes q c) nothing) (sym last)
            (λ found. new-tells Proper proper-eq zero-proper h s (reached-desk (reached w)) ok c found (ready w).long (tidy w)) on.place.found);
        older =
            λ h rs w s ok old on told.
            old-tells Proper proper-eq zero-proper h s (reached-desk (reached w)) ok p c old on.place.found (reads_of t p c rs).pressed (reads_of t p c rs).value
            told;
        takes =
            λ h rs w r none ok on told.
            over h (step_hub h (look_at r)) (step_same h (look_at r)) (reads_of t p c (r ∷ rs))
            (taken-tells h (ready w) (reached w) p c on.place t on.is r ok none rs told);
        serves =
            λ h rs w some on told.
            over h (step_hub h look) (step_same h look) (reads_of t p c rs)
            (serve-tells Proper proper-eq h (ready w) (reached-desk (reached w)) (reached-sound (reached w)) some (place_of h.codes p c) on.place.found
            on.place.bare (reads_of t p c rs).pressed (reads_of t p c rs).value told);
        counts =
            λ h rs m told.
            over h (counted_at h m) (counted_same h m) (reads_of t p c rs) (counted-tells h m (place_of h.codes p c) (reads_of t p c rs) told);
        repeats =
            λ h rs w pad time m d down on told.
            let e = ev pad time (Repeated m d) in
            over h (updated_of true h e) (update_same h e) (reads_of t p c rs)
            (repeat-told Proper proper-eq h (ready w) (place_of h.codes p c) on.place.found (reads_of t p c rs).pressed (reads_of t p c rs).value pad time m d
            down told);
      }

  pub tells : {h : Hub} {rs : List RawRecord} → Played h rs → Place h p c → Is t h (place_of h.codes p c) → Holds h rs
  tells w pl is = kept p On Holds keeps w (record { place = pl; is = is })
