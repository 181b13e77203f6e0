-- What a record that is not refused tells: its pad is registered, a press or a release is of a button element and a value of an axis, and the value is
-- inside the limits.
use Rattle.std.specs.Prelude.{ℕ, ◌<◌, ◌≤◌, Bool, true, false, cond, ◌&&◌, ◌≡◌, refl, eqb, ltb}
use Rattle.std.proofs.Common.{arith, ltb-true, eqb-true}
use Rattle.std.proofs.lemmas.Bool.{eqb-false}
use Rattle.numbers.specs.Constants.{within_of}
use Rattle.rules.specs.declared.Hub.{Hub}
use Rattle.rules.specs.declared.RawRecord.{RawRecord}
use Rattle.rules.specs.Forms.{kind_axis}
use Rattle.rules.specs.Sheets.{element_button, element_axis}
use Rattle.rules.specs.Refusals.{is_registered, element_refusal, first, unless_fits, fields_refusal, record_refusal}
use Rattle.rules.specs.Step.{record_kind}
use Rattle.theory_history.specs.Lemmas.Steps.{look_at}

pub first-zero : (a b : ℕ) → first a b ≡ 0 → (a ≡ 0) × (b ≡ 0)
first-zero a b e = by (eqb a 0) refl e
  where
    by : (none : Bool) → eqb a 0 ≡ none → cond none b a ≡ 0 → (a ≡ 0) × (b ≡ 0)
    by true n z = (eqb-true a 0 n, z)
    by false n z = absurd (eqb-false a 0 n z)

pub fits-zero : (fits : Bool) (number : ℕ) → 0 < number → unless_fits fits number ≡ 0 → fits ≡ true
fits-zero true number some e = refl
fits-zero false number some e = absurd (omega arith)

both_true : (a b : Bool) → (a && b) ≡ true → a ≡ true
both_true true b e = refl
both_true false b e = e

-- the kind that a record's element must have
element-by : (record-kind kind : ℕ) (later : Bool) → ltb kind_axis record-kind ≡ later → record-kind ≤ kind_axis → element_refusal record-kind kind ≡ 0
    → kind ≡ cond (eqb record-kind kind_axis) element_axis element_button
unfolding element_refusal
element-by record-kind kind true l short e = absurd (omega (arith, ltb-true kind_axis record-kind l))
element-by record-kind kind false l short e = by (eqb kind 0) (eqb kind (cond (eqb record-kind kind_axis) element_axis element_button)) refl refl (rw l at e)
  where
    by : (none same : Bool) → eqb kind 0 ≡ none → eqb kind (cond (eqb record-kind kind_axis) element_axis element_button) ≡ same
        → ◌≡◌ {A = ℕ} (cond none 9 (cond same 0 10)) 0 → kind ≡ cond (eqb record-kind kind_axis) element_axis element_button
    by true same n s z = absurd (omega arith)
    by false true n s z = eqb-true kind (cond (eqb record-kind kind_axis) element_axis element_button) s
    by false false n s z = absurd (omega arith)

pub record Good (h : Hub) (r : RawRecord) : Type 0 where
  pub pad : r.pad < h.pads
  pub element : r.kind ≤ kind_axis → record_kind h r ≡ cond (eqb r.kind kind_axis) element_axis element_button
  pub within : within_of r.value ≡ true

pub good : (h : Hub) (r : RawRecord) → record_refusal (look_at r) h.pads (record_kind h r) ≡ 0 → Good h r
unfolding record_refusal fields_refusal is_registered
good h r e =
    let fields = (first-zero (unless_fits true 8) (fields_refusal r h.pads (record_kind h r)) e).1 in
    let a = first-zero (unless_fits (is_registered h.pads r.pad) 6) _ fields in
    let b = first-zero (element_refusal r.kind (record_kind h r)) _ a.1 in
    let c = first-zero (unless_fits (within_of r.value) 11) _ b.1 in
    record {
      pad = ltb-true r.pad h.pads (both_true (ltb r.pad h.pads) _ (fits-zero _ 6 (omega arith) a.0));
      element = λ short. element-by r.kind (record_kind h r) (ltb kind_axis r.kind) refl short b.0;
      within = fits-zero (within_of r.value) 11 (omega arith) c.0;
    }
