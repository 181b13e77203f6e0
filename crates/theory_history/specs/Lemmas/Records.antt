-- Kinds of records, and a place that no axis event is of: what `proofs/Lemmas/Records` tells of a record that is taken stands on these.
use Rattle.std.specs.Prelude.{ℕ, ◌<◌, Bool, cond, ◌||◌, ◌⊎◌, ◌≡◌, get_or}
use Rattle.std.proofs.Math.Bool.{true, false}
use mathlib.Core.List.{List, []}
use Rattle.std.proofs.Common.{inl, inr, sym, ◌∙◌, ap, arith}
use Rattle.std.proofs.Math.Path.{refl}
use Rattle.std.proofs.Math.Dec.{eqb}
use borrow.Author.Tests.{eqb-true, ne_eqb}
use Rattle.rules.specs.declared.Hub.{Hub}
use Rattle.rules.specs.declared.RawRecord.{RawRecord}
use Rattle.rules.specs.Names.{nowhere, positive_code, negative_code}
use Rattle.rules.specs.Sheets.{element_axis}
use Rattle.rules.specs.Forms.{kind_pressed, kind_released, kind_axis, kind_connected}
use Rattle.rules.specs.Places.{place_of}
use Rattle.rules.specs.Dispatch.{Move, pressing, moving, joining, leaving, move_of}
use Rattle.rules.specs.Step.{record_kind}
use Rattle.theory_calls.specs.Waiting.{waiting_list, ring_list}
use Rattle.pad.specs.Lookup.{places-differ}
use Rattle.theory_history.specs.Rule.{rejoins, speaks}
use Rattle.theory_history.specs.Lemmas.Waits.{sheet_of, axial_at, takes}
use Rattle.theory_history.specs.Lemmas.Accepted.{Good}
use Rattle.theory_history.specs.Lemmas.Truth.{false-true}

-- ---- kinds of records

abbrev is-moving : Move → Bool
is-moving (pressing on) = false
is-moving moving = true
is-moving joining = false
is-moving leaving = false

pub moving-kind : (kind : ℕ) → move_of kind ≡ moving → kind ≡ kind_axis
unfolding move_of
moving-kind kind e = by (eqb kind kind_pressed) (eqb kind kind_released) (eqb kind kind_axis) (eqb kind kind_connected) refl e
  where
    by : (a b c d : Bool) → eqb kind kind_axis ≡ c → cond a (pressing true) (cond b (pressing false) (cond c moving (cond d joining leaving))) ≡ moving → kind ≡ kind_axis
    by true b c d i e = false-true (ap is-moving e)
    by false true c d i e = false-true (ap is-moving e)
    by false false true d i e = eqb-true kind kind_axis i
    by false false false true i e = false-true (ap is-moving e)
    by false false false false i e = false-true (ap is-moving e)

pub silent-move : (kind : ℕ) → speaks kind ≡ false → (move_of kind ≡ joining) ⊎ (move_of kind ≡ leaving)
unfolding move_of speaks
silent-move kind e = by (eqb kind kind_pressed) (eqb kind kind_released) (eqb kind kind_axis) (eqb kind kind_connected) e
  where
    by : (a b c d : Bool) → (a || (b || c)) ≡ false
        → (cond a (pressing true) (cond b (pressing false) (cond c moving (cond d joining leaving))) ≡ joining)
        ⊎ (cond a (pressing true) (cond b (pressing false) (cond c moving (cond d joining leaving))) ≡ leaving)
    by true b c d e = false-true (sym e)
    by false true c d e = false-true (sym e)
    by false false true d e = false-true (sym e)
    by false false false true e = inl refl
    by false false false false e = inr refl

-- a record of another pad does not join this one
pub foreign-joins : (p : ℕ) (r : RawRecord) → (r.pad ≡ p → ⊥) → rejoins p r ≡ false
unfolding rejoins
foreign-joins p r other = rw (ne_eqb r.pad p other)

-- ---- what a place tells after a record

pub none-waits : (h : Hub) → h.waiting ≡ 0 → waiting_list h ≡ []
unfolding waiting_list ring_list
none-waits h none = rw none

-- a place that no axis event is of: of a registered pad's code, and none of the directions that the pad's hat takes
pub record Place (h : Hub) (p c : ℕ) : Type 0 where
  pub pad : p < h.pads
  pub found : place_of h.codes p c < nowhere
  pub bare : axial_at (sheet_of h) (place_of h.codes p c) ≡ false
  pub plus : (n : ℕ) → takes (sheet_of h) p n ≡ true → c ≡ positive_code n → ⊥
  pub minus : (n : ℕ) → takes (sheet_of h) p n ≡ true → c ≡ negative_code n → ⊥

-- codes of the same place are the same code of the same pad
pub apart_by : (codes : List ℕ) (p c q d : ℕ) (same : Bool) → place_of codes p c < nowhere → eqb (place_of codes q d) (place_of codes p c) ≡ same
    → ((q ≡ p) → (d ≡ c) → ⊥) → same ≡ false
apart_by codes p c q d true found e differ =
    let same = places-differ codes p c q d found (sym (eqb-true (place_of codes q d) (place_of codes p c) e)) in
    absurd (differ (sym same.0) (sym same.1))
apart_by codes p c q d false found e differ = refl

-- the kind that a value's element has
pub axis-kind : (h : Hub) (r : RawRecord) → Good h r → move_of r.kind ≡ moving → get_or h.kinds (place_of h.codes r.pad r.code) 0 ≡ element_axis
unfolding record_kind
axis-kind h r ok m =
    let kind = moving-kind r.kind m in
    ok.element (omega arith) ∙ rw kind
