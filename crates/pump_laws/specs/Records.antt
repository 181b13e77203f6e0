-- What holds of a record that a step takes: its value is in 01's limits, and it lies whole in the batch. By the refusal that is 0.
use Rattle.std.specs.Prelude.{ℕ, ◌-◌, ◌≤◌, ◌<◌, ◌≡◌, refl, Bool, true, false, cond, ◌&&◌, List, length, eqb, ltb}
use Rattle.std.proofs.Common.{sym, ◌∙◌, ap, arith, leb-true, eqb-true}
use Rattle.std.proofs.lemmas.Bool.{eqb-false}
use Rattle.numbers.specs.Constants.{within_of}
use Rattle.rules.specs.declared.NextRecord.{NextRecord}
use Rattle.rules.specs.declared.RawRecord.{RawRecord}
use Rattle.rules.specs.Forms.{record_size, record_fits, record_fields, read_record, pick_record}
use Rattle.rules.specs.Refusals.{record_refusal, fields_refusal, element_refusal, is_registered, time_fits, first, unless_fits}
use Rattle.rules.specs.Places.{place_of}
use Rattle.rules.specs.Step.{next_record_of, next_record_by, record_kind, step_refusal}
use Rattle.rules.specs.declared.Hub.{Hub}
use Rattle.gather.specs.declared.Found.{Found}
use Rattle.gather.specs.EventPlaces.{found_at}

-- where the first of two numbers is none, both are none
none-by : (t : Bool) (a b : ℕ) → eqb a 0 ≡ t → cond t b a ≤ 0 → (a ≤ 0) × (b ≤ 0)
none-by true a b e h = (omega (arith, eqb-true a 0 e), h)
none-by false a b e h = absurd (eqb-false a 0 e (omega arith))

none_first : (a b : ℕ) → first a b ≤ 0 → (a ≤ 0) × (b ≤ 0)
none_first a b h = none-by (eqb a 0) a b refl h

fits-unless : (fits : Bool) (number : ℕ) → 0 < number → unless_fits fits number ≤ 0 → fits ≡ true
fits-unless true number p h = refl
fits-unless false number p h = absurd (omega arith)

-- a record that is not refused fits, and its value is in the limits
pub record Taken (l : NextRecord) : Type 0 where
  pub fits : l.fits ≡ true
  pub within : within_of l.raw.value ≡ true

all_none : (a b c d e : ℕ) → first a (first b (first c (first d e))) ≤ 0 → (a ≤ 0) × (d ≤ 0)
all_none a b c d e h =
    let one = none_first a (first b (first c (first d e))) h in
    let two = none_first b (first c (first d e)) one.1 in
    let three = none_first c (first d e) two.1 in
    (one.0, (none_first d e three.1).0)

pub taken : (l : NextRecord) (pads kind : ℕ) → record_refusal l pads kind ≤ 0 → Taken l
unfolding record_refusal fields_refusal
taken l pads kind h =
    let n = all_none (unless_fits l.fits 8) (unless_fits (is_registered pads l.raw.pad) 6) (element_refusal l.raw.kind kind) (unless_fits (within_of l.raw.value) 11) (unless_fits (time_fits l.raw.time) 12) h in
    record { fits = fits-unless l.fits 8 (omega arith) n.0; within = fits-unless (within_of l.raw.value) 11 (omega arith) n.1 }

-- ---- a record that fits lies whole in the batch

fits_by : (b : Bool) (r : RawRecord) → (next_record_by (pick_record b r)).fits ≡ b
fits_by true r = refl
fits_by false r = refl

both_true : (a b : Bool) → (a && b) ≡ true → a ≡ true
both_true true b e = refl
both_true false b e = e

pub whole : (s : List ℕ) (at : ℕ) → (next_record_by (read_record s at)).fits ≡ true → record_size ≤ length s - at
unfolding read_record record_fits
whole s at e = leb-true record_size (length s - at) (both_true _ _ (sym (fits_by (record_fits s at) (record_fields s at)) ∙ e))

-- ---- the refusal that the code worked out is the step's

pub refusal_is :
    (h : Hub) (s : List ℕ) (at : ℕ) {l : NextRecord} {found : Found} {number : ℕ} →
    l ≡ next_record_of h.waiting s at →
    found ≡ found_at h.kinds h.names h.renames h.renamed h.hasbutton l.raw.pad (place_of h.codes l.raw.pad l.raw.code) →
    number ≡ cond (ltb 0 h.waiting) 0 (record_refusal l h.pads found.kind) →
    number ≡ step_refusal h (next_record_of h.waiting s at)
unfolding step_refusal record_kind found_at
refusal_is h s at {l} el ef en = en ∙ by-found h l ef ∙ ap (step_refusal h) el
  where
    by-found : (h : Hub) (l : NextRecord) {found : Found} → found ≡ found_at h.kinds h.names h.renames h.renamed h.hasbutton l.raw.pad (place_of h.codes l.raw.pad l.raw.code) → cond (ltb 0 h.waiting) 0 (record_refusal l h.pads found.kind) ≡ step_refusal h l
    by-found h l ef = ap (λ (x : Found). cond (ltb 0 h.waiting) 0 (record_refusal l h.pads x.kind)) ef
