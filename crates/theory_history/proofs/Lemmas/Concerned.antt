-- A record of a place's own code, taken: a button tells the press or the release, a trigger the fold of its thresholds and its value, cut by its deadzone.
use Rattle.std.specs.Prelude.{ℕ, ◌≤◌, Bool, cond, ◌&&◌, ◌||◌, ◌≡◌, Float}
use Rattle.std.proofs.Math.Bool.{true, false}
use Rattle.std.proofs.Math.Path.{refl, sym}
use Rattle.std.proofs.Common.{◌∙◌, ap, subst, arith, eqb-true, eq-eqb}
use Rattle.std.proofs.Math.Dec.{eqb}
use Rattle.std.specs.Float.Ieee.{eq, le}
use Rattle.std.proofs.Math.ListN.{get_or}
use Rattle.numbers.specs.Constants.{zero32, one32}
use Rattle.numbers.specs.Scale.{button_scaled_of}
use Rattle.rules.specs.declared.Hub.{Hub}
use Rattle.rules.specs.declared.EventType.TheVariants.{Changed}
use Rattle.rules.specs.declared.RawRecord.{RawRecord}
use Rattle.rules.specs.declared.Dispatched.{Dispatched}
use Rattle.rules.specs.Names.{no_name, is_axis, is_button}
use Rattle.rules.specs.Sheets.{element_axis, element_button}
use Rattle.rules.specs.Forms.{kind_pressed, kind_released, kind_axis, kind_connected}
use Rattle.rules.specs.Places.{place_of}
use Rattle.rules.specs.Events.{code_of}
use Rattle.rules.specs.State.{read_pressed}
use Rattle.rules.specs.Dispatch.{Move, pressing, moving, joining, leaving, move_of, button_name, press_type, amount, from, double, press_gives, trigger_gives, move_gives, dispatch_by}
use Rattle.rules.specs.Hub.{element_at, pressed_at, view_of}
use Rattle.rules.specs.Step.{marked_of, record_kind}
use Rattle.theory_calls.specs.Waiting.{waiting_list}
use Rattle.theory_calls.specs.Queue.{Sound}
use Rattle.theory_registered.specs.Pads.{Desk}
use Rattle.theory_history.specs.Rule.{rejoins, speaks, concerns}
use Rattle.theory_history.specs.Lemmas.Cells.{Cell, cell_at, cell_pressed}
use Rattle.theory_history.specs.Lemmas.Steps.{Ready}
use Rattle.theory_history.specs.Lemmas.Waits.{sheet_of, axial_at, zoned_at}
use Rattle.theory_history.specs.Lemmas.Views.{sees, own_is}
use Rattle.theory_history.specs.Lemmas.Serve.{Tells}
use Rattle.theory_history.specs.Lemmas.Accepted.{Good}
use Rattle.theory_history.specs.Lemmas.Take.{Fine, take-tells, taken_as}
use Rattle.theory_history.specs.Lemmas.Own.{press-fine, trigger-fine, folded}
use Rattle.theory_history.specs.Lemmas.Records.{Place}
use Rattle.theory_history.proofs.Lemmas.Records.{After, now-pressed, now-fits, still, same}
use Rattle.theory_history.specs.Lemmas.Truth.{false-true}

-- ---- what a record that concerns a code is

pub record Concerns (p c : ℕ) (r : RawRecord) : Type 0 where
  pub pad : r.pad ≡ p
  pub code : r.code ≡ c
  pub spoken : speaks r.kind ≡ true

pub concerned : (p c : ℕ) (r : RawRecord) → concerns p c r ≡ true → Concerns p c r
unfolding concerns
concerned p c r e = by (eqb r.pad p) (eqb r.code c) (speaks r.kind) refl refl refl e
  where
    by : (a d s : Bool) → eqb r.pad p ≡ a → eqb r.code c ≡ d → speaks r.kind ≡ s → (a && (d && s)) ≡ true → Concerns p c r
    by true true true ea ed es e = record { pad = eqb-true r.pad p ea; code = eqb-true r.code c ed; spoken = es }
    by true true false ea ed es e = false-true e
    by true false s ea ed es e = false-true e
    by false d s ea ed es e = false-true e

-- a press or a release
pub press-move : (kind : ℕ) → speaks kind ≡ true → eqb kind kind_axis ≡ false → move_of kind ≡ pressing (eqb kind kind_pressed)
unfolding speaks move_of
press-move kind s other = by (eqb kind kind_pressed) (eqb kind kind_released) s
  where
    by : (a b : Bool) → (a || (b || eqb kind kind_axis)) ≡ true
        → cond a (pressing true) (cond b (pressing false) (cond (eqb kind kind_axis) moving (cond (eqb kind kind_connected) joining leaving))) ≡ pressing a
    by true b e = refl
    by false true e = refl
    by false false e = false-true (sym other ∙ e)

spoken-small : (kind : ℕ) → speaks kind ≡ true → kind ≤ kind_axis
unfolding speaks
spoken-small kind s = by (eqb kind kind_pressed) (eqb kind kind_released) (eqb kind kind_axis) refl refl refl s
  where
    by : (a b c : Bool) → eqb kind kind_pressed ≡ a → eqb kind kind_released ≡ b → eqb kind kind_axis ≡ c → (a || (b || c)) ≡ true → kind ≤ kind_axis
    by true b c ea eb ec e = omega (arith, eqb-true kind kind_pressed ea)
    by false true c ea eb ec e = omega (arith, eqb-true kind kind_released eb)
    by false false true ea eb ec e = omega (arith, eqb-true kind kind_axis ec)
    by false false false ea eb ec e = false-true e

-- its element is listed
pub spoken-listed : (h : Hub) (r : RawRecord) → Good h r → speaks r.kind ≡ true → record_kind h r ≡ 0 → ⊥
spoken-listed h r ok spoken zero = by (eqb r.kind kind_axis) (sym (ok.element (spoken-small r.kind spoken)) ∙ zero)
  where
    by : (value : Bool) → ◌≡◌ {A = ℕ} (cond value element_axis element_button) 0 → ⊥
    by true e = omega arith
    by false e = omega arith

module _ (P : Float → Type 0) (alike : (a b : Float) → P a → P b → eq a b ≡ true → a ≡ b) (zero-fits : P zero32) (one-fits : P one32) (h : Hub)
    (w : Ready h) (desk : Desk h) (sound : Sound h) (p c : ℕ) (pl : Place h p c) (r : RawRecord) (ok : Good h r) (none : h.waiting ≡ 0) (b : Bool) (f : Float)
    (t : Tells P alike (sheet_of h) h (place_of h.codes p c) (waiting_list h) b f) (away : rejoins p r ≡ false) (own : Concerns p c r) where
  abbrev k : ℕ
  k = place_of h.codes p c

  abbrev at : ℕ
  at = place_of h.codes r.pad r.code

  here : at ≡ k
  here = ap (λ (q : ℕ). place_of h.codes q r.code) own.pad ∙ ap (λ (d : ℕ). place_of h.codes p d) own.code

  abbrev x : Cell
  x = cell_at (marked_of h r) k

  abbrev Then : Bool → Float → Type 0
  Then = After P alike zero-fits h w desk sound p c pl r ok none

  -- the record's kind is its element's
  kind-is : get_or h.kinds k 0 ≡ cond (eqb r.kind kind_axis) element_axis element_button
  unfolding record_kind
  kind-is = sym (ap (λ (j : ℕ). get_or h.kinds j 0) here) ∙ ok.element (spoken-small r.kind own.spoken)

  no-axis : is_axis (get_or h.names k no_name) ≡ false
  unfolding axial_at
  no-axis = first (is_axis (get_or h.names k no_name)) _ pl.bare
    where
      first : (a b : Bool) → (a || b) ≡ false → a ≡ false
      first true b e = e
      first false b e = refl

  put-by : (m : Move) → move_of r.kind ≡ m → (d : Dispatched)
      → dispatch_by m r (get_or h.names k no_name) (element_at h k) (cell_pressed (cell_at h k)) h.pressed h.released h.reversed ≡ d
      → (on : Bool) (v : Float) → Fine P alike (sheet_of h) k d (view_of (marked_of h r) d.event) x on v → Then on v
  unfolding pressed_at read_pressed cell_at
  put-by m e d is on v fine =
      take-tells P alike h w sound r none k pl.found (still P alike zero-fits h w desk sound p c pl r ok none b f t away) d
      (taken_as h r w none m e
      ∙ (ap (λ (j : ℕ). dispatch_by m r (get_or h.names j no_name) (element_at h j) (pressed_at h j) h.pressed h.released h.reversed) here ∙ is))
      on v fine

  -- ---- a button

  module _ (kind : get_or h.kinds k 0 ≡ element_button) where
    no_value : (value : Bool) → eqb r.kind kind_axis ≡ value → value ≡ false
    no_value true e = absurd (differ (sym kind ∙ (kind-is ∙ (rw e))))
      where
        differ : element_button ≡ element_axis → ⊥
        differ e = omega arith
    no_value false e = refl

    pub button-taken : Then (eqb r.kind kind_pressed) (amount (eqb r.kind kind_pressed))
    unfolding press_gives
    button-taken =
        let on = eqb r.kind kind_pressed in
        let n = get_or h.names k no_name in
        put-by (pressing on) (press-move r.kind own.spoken (no_value (eqb r.kind kind_axis) refl))
        (double (from r (press_type on (button_name n) r.code)) (from r (Changed (button_name n) r.code (amount on)))) (rw no-axis) on (amount on)
        (press-fine P alike zero-fits one-fits (sheet_of h) k pl.bare r ok.pad (eq-eqb at k here) x (now-fits P alike zero-fits h w desk sound p c pl r ok none b f t away)
        (view_of (marked_of h r) _) (button_name n) on (rw kind))

  -- ---- a trigger

  module _ (kind : get_or h.kinds k 0 ≡ element_axis) (name : is_button (get_or h.names k no_name) ≡ true) where
    abbrev z : Float
    z = button_scaled_of (element_at h k).low (element_at h k).range r.value

    value-kind : (value : Bool) → eqb r.kind kind_axis ≡ value → value ≡ true
    value-kind true e = refl
    value-kind false e = absurd (differ (sym kind ∙ (kind-is ∙ (rw e))))
      where
        differ : element_axis ≡ element_button → ⊥
        differ e = omega arith

    value-move : move_of r.kind ≡ moving
    unfolding move_of
    value-move = rw (eqb-true r.kind kind_axis (value-kind (eqb r.kind kind_axis) refl))

    pub trigger-taken : P (zoned_at (sheet_of h) k z) → Then (folded b (le h.pressed z) (le z h.released)) (zoned_at (sheet_of h) k z)
    unfolding move_gives
    trigger-taken zoned =
        let n = get_or h.names k no_name in
        let fits = now-fits P alike zero-fits h w desk sound p c pl r ok none b f t away in
        let held : cell_pressed (cell_at h k) ≡ cell_pressed x = sym (ap cell_pressed (same P alike zero-fits h w desk sound p c pl r ok none b f t away)) in
        let fine =
        trigger-fine P alike zero-fits one-fits (sheet_of h) k pl.bare r ok.pad (eq-eqb at k here) x fits (λ e. view_of (marked_of h r) e) (λ e. sees h r w desk e) n z zoned
        (own_is h r (from r (Changed n r.code z)) k (unfold code_of in here) (still P alike zero-fits h w desk sound p c pl r ok none b f t away)) h.pressed h.released in
        put-by moving value-move (trigger_gives r n z (cell_pressed x) h.pressed h.released) (rw (name, held)) (folded b (le h.pressed z) (le z h.released)) (zoned_at (sheet_of h) k z)
        (subst (λ (was : Bool). Fine P alike (sheet_of h) k (trigger_gives r n z (cell_pressed x) h.pressed h.released) (view_of (marked_of h r) (trigger_gives r n z (cell_pressed x) h.pressed h.released).event) x (folded was (le h.pressed z) (le z h.released)) (zoned_at (sheet_of h) k z))
        (now-pressed P alike zero-fits h w desk sound p c pl r ok none b f t away) fine)
