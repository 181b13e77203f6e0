-- What a record gives has the record's pad and its code: dispatch hands both on, and a record whose kind has no code is malformed with any code but 0.
use Rattle.std.specs.Prelude.{ℕ, ◌+◌, ◌-◌, ◌≤◌, ◌≡◌, Bool, true, false, cond, not, ◌&&◌, ◌||◌, List, length, get_or, eqb, ltb, leb, Float}
use Rattle.std.proofs.Math.Path.{refl}
use Rattle.std.proofs.Common.{sym, ◌∙◌, ap, arith, ltb-true, leb-true, eqb-true}
use Rattle.std.proofs.Math.Bool.{and-eq-true_iff}
use Rattle.std.specs.Float.Ieee.{le}
use Rattle.std.proofs.lemmas.Bool.{eqb-false}
use Rattle.numbers.specs.Scale.{axis_scaled_of, button_scaled_of}
use Rattle.rules.specs.declared.RawRecord.{RawRecord}
use Rattle.rules.specs.declared.NextRecord.{NextRecord}
use Rattle.rules.specs.declared.Element.{Element}
use Rattle.rules.specs.declared.Dispatched.{Dispatched}
use Rattle.rules.specs.Names.{is_button, is_axis, is_y}
use Rattle.rules.specs.Forms.{record_size, kind_pressed, kind_released, kind_axis, kind_connected, kind_disconnected, opens, record_kind_fits, record_fits, record_fields, read_record, field_of, pick_record}
use Rattle.rules.specs.Events.{code_of}
use Rattle.rules.specs.Dispatch.{Move, pressing, moving, joining, leaving, move_of, axis_name, press_gives, trigger_by, trigger_gives, move_gives, dispatch_by, dispatch_of}
use Rattle.rules.specs.Step.{next_record_by}

-- ---- dispatch

-- whether a record that moves so has a code
abbrev has_code : Move → Bool
has_code (pressing on) = true
has_code moving = true
has_code joining = false
has_code leaving = false

-- what a record gives, d, has the record's pad, and its code where it has one
record Keeps (r : RawRecord) (has : Bool) (d : Dispatched) : Type 0 where
  pad : d.event.pad ≡ r.pad
  code : code_of d.event ≡ cond has r.code 0

press-keeps : (r : RawRecord) (n : ℕ) (on axis : Bool) → is_axis n ≡ axis → Keeps r true (press_gives r n on)
unfolding press_gives code_of
press-keeps r n on true e = record { pad = rw e; code = rw e }
press-keeps r n true false e = record { pad = rw e; code = rw e }
press-keeps r n false false e = record { pad = rw e; code = rw e }

trigger-keeps : (down up : Bool) (r : RawRecord) (n : ℕ) (x : Float) → Keeps r true (trigger_by down up r n x)
unfolding code_of
trigger-keeps true up r n x = record { pad = refl; code = refl }
trigger-keeps false true r n x = record { pad = refl; code = refl }
trigger-keeps false false r n x = record { pad = refl; code = refl }

move-keeps :
    (r : RawRecord) (n : ℕ) (e : Element) (held : Bool) (pressed released : Float) (reversed button : Bool) →
    is_button n ≡ button →
    Keeps r true (move_gives r n e held pressed released reversed)
unfolding move_gives trigger_gives code_of
move-keeps r n e held pressed released reversed true is =
    let x = button_scaled_of e.low e.range r.value in rw is (trigger-keeps (le pressed x && not held) (le x released && held) r n x)
move-keeps r n e held pressed released reversed false is = record { pad = rw is; code = rw is }

keeps-by :
    (m : Move) (r : RawRecord) (n : ℕ) (e : Element) (held : Bool) (pressed released : Float) (reversed : Bool) →
    Keeps r (has_code m) (dispatch_by m r n e held pressed released reversed)
keeps-by (pressing on) r n e held pressed released reversed = press-keeps r n on (is_axis n) refl
keeps-by moving r n e held pressed released reversed = move-keeps r n e held pressed released reversed (is_button n) refl
keeps-by joining r n e held pressed released reversed = unfold code_of in record { pad = refl; code = refl }
keeps-by leaving r n e held pressed released reversed = unfold code_of in record { pad = refl; code = refl }

-- ---- a record that was read

codeless :
    (low : Bool) (kind code : ℕ) →
    kind_pressed ≤ kind →
    ¬ (kind ≡ kind_pressed) →
    ¬ (kind ≡ kind_released) →
    ¬ (kind ≡ kind_axis) →
    ltb kind kind_connected ≡ low →
    (low || eqb code 0) ≡ true →
    code ≡ 0
codeless true kind code some press release axis e is = let small = ltb-true kind kind_connected e in absurd (omega arith)
codeless false kind code some press release axis e is = eqb-true code 0 is

coded_by :
    (press release axis joins : Bool) (kind code : ℕ) →
    kind_pressed ≤ kind →
    eqb kind kind_pressed ≡ press →
    eqb kind kind_released ≡ release →
    eqb kind kind_axis ≡ axis →
    (ltb kind kind_connected || eqb code 0) ≡ true →
    cond (has_code (cond press (pressing true) (cond release (pressing false) (cond axis moving (cond joins joining leaving))))) code 0 ≡ code
coded_by true release axis joins kind code some ep er ea is = refl
coded_by false true axis joins kind code some ep er ea is = refl
coded_by false false true joins kind code some ep er ea is = refl
coded_by false false false true kind code some ep er ea is =
    sym (codeless (ltb kind kind_connected) kind code some (eqb-false kind kind_pressed ep) (eqb-false kind kind_released er) (eqb-false kind kind_axis ea) refl is)
coded_by false false false false kind code some ep er ea is =
    sym (codeless (ltb kind kind_connected) kind code some (eqb-false kind kind_pressed ep) (eqb-false kind kind_released er) (eqb-false kind kind_axis ea) refl is)

coded : (kind code value : ℕ) → record_kind_fits kind code value ≡ true → cond (has_code (move_of kind)) code 0 ≡ code
unfolding record_kind_fits move_of
coded kind code value fits =
    let some = (and-eq-true_iff (leb kind_pressed kind) _).0 fits in
    let small = (and-eq-true_iff (leb kind kind_disconnected) _).0 some.1 in
    let last = (and-eq-true_iff (eqb kind kind_axis || eqb value 0) (ltb kind kind_connected || eqb code 0)).0 small.1 in
    coded_by (eqb kind kind_pressed) (eqb kind kind_released) (eqb kind kind_axis) (eqb kind kind_connected) kind code
    (leb-true kind_pressed kind some.0) refl refl refl last.1

-- a record that fits has the code of its event
read-coded :
    (b : Bool) (s : List ℕ) (at : ℕ) →
    record_fits s at ≡ b →
    (next_record_by (pick_record b (record_fields s at))).fits ≡ true →
    let r = (next_record_by (pick_record b (record_fields s at))).raw in cond (has_code (move_of r.kind)) r.code 0 ≡ r.code
unfolding record_fits record_fields move_of
read-coded true s at fits e =
    let long = (and-eq-true_iff (leb record_size (length s - at)) _).0 fits in
    let opened = (and-eq-true_iff (opens s at record_size) (record_kind_fits (get_or s (at + 3) 0) (field_of s (at + 5) 4) (field_of s (at + 9) 4))).0 long.1 in
    coded (get_or s (at + 3) 0) (field_of s (at + 5) 4) (field_of s (at + 9) 4) opened.1
read-coded false s at fits e = refl

-- what a record that was read gives: the event has the record's pad and code
pub record Kept (r : RawRecord) (d : Dispatched) : Type 0 where
  pub pad : d.event.pad ≡ r.pad
  pub code : code_of d.event ≡ r.code

kept_at :
    (s : List ℕ) (at n : ℕ) (e : Element) (held : Bool) (pressed released : Float) (reversed : Bool) →
    (next_record_by (read_record s at)).fits ≡ true →
    let r = (next_record_by (read_record s at)).raw in Kept r (dispatch_of r n e held pressed released reversed)
unfolding read_record dispatch_of
kept_at s at n e held pressed released reversed fits =
    let r = (next_record_by (read_record s at)).raw in
    let k = keeps-by (move_of r.kind) r n e held pressed released reversed in
    record { pad = k.pad; code = k.code ∙ read-coded (record_fits s at) s at refl fits }

pub kept_by :
    (s : List ℕ) (at n : ℕ) (e : Element) (held : Bool) (pressed released : Float) (reversed : Bool) {l : NextRecord} {d : Dispatched} →
    l ≡ next_record_by (read_record s at) →
    l.fits ≡ true →
    d ≡ dispatch_of l.raw n e held pressed released reversed →
    Kept l.raw d
kept_by s at n e held pressed released reversed el fits ed = rw (ed, el) (kept_at s at n e held pressed released reversed (rw el at fits))
