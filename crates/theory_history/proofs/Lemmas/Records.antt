-- A record that is taken, and a place: one that joins the place's pad makes it tell nothing, and one that does not concern it leaves what it tells. By the marks
-- that the record sets, which are its own pad's alone.
use Rattle.std.specs.Prelude.{ℕ, ◌+◌, ◌*◌, ◌/◌, ◌<◌, ◌≤◌, Bool, ◌&&◌, ◌⊎◌, ◌≡◌, ltb, Float, length, get_or}
use Rattle.std.proofs.Math.Bool.{true, false}
use mathlib.Core.List.{List}
use Rattle.std.proofs.Common.{inl, inr, sym, ◌∙◌, ap, arith}
use Rattle.std.proofs.Math.Path.{refl, subst}
use Rattle.std.proofs.Math.Dec.{eqb}
use Rattle.std.specs.Float.Ieee.{eq}
use borrow.Author.Tests.{eqb-true, eqb-false, ltb-true, ltb-false}
use Rattle.numbers.specs.Constants.{zero32}
use Rattle.rules.specs.declared.Hub.{Hub}
use Rattle.rules.specs.declared.Event.{Event}
use Rattle.rules.specs.declared.EventType.TheVariants.{Connected, Disconnected}
use Rattle.rules.specs.declared.RawRecord.{RawRecord}
use Rattle.rules.specs.declared.Dispatched.{Dispatched}
use Rattle.rules.specs.declared.View.{View}
use Rattle.rules.specs.Names.{nowhere, no_name, places_per_pad, positive_code, negative_code}
use Rattle.rules.specs.Forms.{kind_connected}
use Rattle.rules.specs.Places.{place_of, cleared_of}
use Rattle.rules.specs.Dispatch.{joining, leaving, move_of, from, single, dispatch_by}
use Rattle.rules.specs.Hub.{element_at, pressed_at, has_axis_at, has_button_at, view_of}
use Rattle.rules.specs.Step.{taken_of, marked_of, marks_cleared, step_hub}
use Rattle.theory_calls.specs.Waiting.{waiting_list}
use Rattle.theory_calls.specs.Queue.{Sound}
use Rattle.pad.specs.Lookup.{Stands, place-stands}
use Rattle.theory_registered.specs.Pads.{Desk}
use Rattle.theory_history.specs.Rule.{rejoins, speaks, concerns}
use Rattle.theory_history.specs.Lemmas.Cells.{Cell, cell_at, cell_pressed, cell_value}
use Rattle.theory_history.specs.Lemmas.Marks.{cleared-before, cleared-behind, cleared-inside}
use Rattle.theory_history.specs.Lemmas.Steps.{Ready, look_at}
use Rattle.theory_history.specs.Lemmas.Waits.{sheet_of, takes}
use Rattle.theory_history.specs.Lemmas.Served.{due}
use Rattle.theory_history.specs.Lemmas.Views.{sees}
use Rattle.theory_history.specs.Lemmas.Serve.{Tells}
use Rattle.theory_history.specs.Lemmas.Accepted.{Good}
use Rattle.theory_history.specs.Lemmas.Take.{Fine, take-tells, Spares, spared, taken_as}
use Rattle.theory_history.specs.Lemmas.Other.{Clear, move-aside, join-aside, leave-aside}
use Rattle.theory_history.specs.Lemmas.Truth.{false-true}
use Rattle.theory_history.specs.Lemmas.Records.{Place, apart_by, axis-kind, none-waits, silent-move}

-- ---- kinds of records

pub joins-move : (p : ℕ) (r : RawRecord) → rejoins p r ≡ true → move_of r.kind ≡ joining
unfolding rejoins move_of
joins-move p r e =
    let kind = eqb-true r.kind kind_connected (second (eqb r.pad p) (eqb r.kind kind_connected) e) in
    rw kind
  where
    second : (a b : Bool) → (a && b) ≡ true → b ≡ true
    second true b e = e
    second false b e = false-true e

-- ---- the marks of a place after a record

module _ (h : Hub) (r : RawRecord) (w : Ready h) (p k : ℕ) (own : k / places_per_pad ≡ p) (inside : k < nowhere) where
  -- the run of marks that a pad has, where this place is none of them
  outside : (marks : List Bool) → (eqb r.pad p ≡ false) → (before : Bool) → ltb k (places_per_pad * r.pad) ≡ before
      → get_or (cleared_of marks (places_per_pad * r.pad) places_per_pad) k false ≡ get_or marks k false
  outside marks other true l = cleared-before places_per_pad marks (places_per_pad * r.pad) k (ltb-true k (places_per_pad * r.pad) l)
  outside marks other false l =
      let from = ltb-false k (places_per_pad * r.pad) l in
      cleared-behind places_per_pad marks (places_per_pad * r.pad) k (past r.pad p (eqb-false r.pad p other) own from)
    where
      past : (q p : ℕ) → (q ≡ p → ⊥) → k / places_per_pad ≡ p → places_per_pad * q ≤ k → places_per_pad * q + places_per_pad ≤ k
      past q p other own from = omega arith

  mark-same : (marks : List Bool) (same joins : Bool) → eqb r.pad p ≡ same → eqb r.kind kind_connected ≡ joins → (same && joins) ≡ false
      → get_or (cleared_of marks (places_per_pad * r.pad) (marks_cleared r.kind places_per_pad)) k false ≡ get_or marks k false
  unfolding marks_cleared
  mark-same marks true true s j e = false-true (sym e)
  mark-same marks true false s j e = rw j (unfold cleared_of in refl)
  mark-same marks false true s j e = rw j (outside marks s (ltb k (places_per_pad * r.pad)) refl)
  mark-same marks false false s j e = rw j (unfold cleared_of in refl)

  pub cell_same : rejoins p r ≡ false → cell_at (marked_of h r) k ≡ cell_at h k
  unfolding rejoins cell_at marked_of
  cell_same e = rw (mark-same h.hasbutton (eqb r.pad p) (eqb r.kind kind_connected) refl refl e)

  pub hasaxis-same : rejoins p r ≡ false → has_axis_at (marked_of h r) k ≡ has_axis_at h k
  unfolding rejoins marked_of
  hasaxis-same e = mark-same h.hasaxis (eqb r.pad p) (eqb r.kind kind_connected) refl refl e

  mark-off : (marks : List Bool) (same joins : Bool) → eqb r.pad p ≡ same → eqb r.kind kind_connected ≡ joins → (same && joins) ≡ true
      → length marks ≡ nowhere → get_or (cleared_of marks (places_per_pad * r.pad) (marks_cleared r.kind places_per_pad)) k false ≡ false
  unfolding marks_cleared
  mark-off marks true true s j e long =
      let pad = eqb-true r.pad p s in
      rw j (cleared-inside places_per_pad marks (places_per_pad * r.pad) k (omega arith) (omega arith) (omega arith))
  mark-off marks true false s j e long = false-true e
  mark-off marks false joins s j e long = false-true e

  pub cell-off : rejoins p r ≡ true → has_button_at (marked_of h r) k ≡ false
  unfolding rejoins marked_of
  cell-off e = mark-off h.hasbutton (eqb r.pad p) (eqb r.kind kind_connected) refl refl e w.long.hasbutton

  pub hasaxis-off : rejoins p r ≡ true → has_axis_at (marked_of h r) k ≡ false
  unfolding rejoins marked_of
  hasaxis-off e = mark-off h.hasaxis (eqb r.pad p) (eqb r.kind kind_connected) refl refl e w.long.hasaxis

-- ---- what a place tells after a record

module _ (P : Float → Type 0) (alike : (a b : Float) → P a → P b → eq a b ≡ true → a ≡ b) (zero-fits : P zero32) (h : Hub) (w : Ready h) (desk : Desk h)
    (sound : Sound h) (p c : ℕ) (pl : Place h p c) (r : RawRecord) (ok : Good h r) (none : h.waiting ≡ 0) where
  abbrev k : ℕ
  k = place_of h.codes p c

  abbrev stands : Stands h.codes p c k
  stands = place-stands h.codes p c pl.found

  abbrev at : ℕ
  at = place_of h.codes r.pad r.code

  abbrev pub After : Bool → Float → Type 0
  After b f = Tells P alike (sheet_of (step_hub h (look_at r))) (step_hub h (look_at r)) k (waiting_list (step_hub h (look_at r))) b f

  -- what the place holds once the record has set its marks
  abbrev x : Cell
  x = cell_at (marked_of h r) k

  clear : (n : ℕ) → Clear (sheet_of h) k r.pad n
  clear n =
      record {
        plus =
            λ t.
            apart_by h.codes p c r.pad (positive_code n) (eqb (place_of h.codes r.pad (positive_code n)) k) pl.found refl
            (λ same code. pl.plus n (subst (λ (q : ℕ). takes (sheet_of h) q n ≡ true) same t) (sym code));
        minus =
            λ t.
            apart_by h.codes p c r.pad (negative_code n) (eqb (place_of h.codes r.pad (negative_code n)) k) pl.found refl
            (λ same code. pl.minus n (subst (λ (q : ℕ). takes (sheet_of h) q n ≡ true) same t) (sym code));
      }

  -- what the filters see, for any event of this step
  abbrev see : Event → View
  see e = view_of (marked_of h r) e

  pub rejoined : rejoins p r ≡ true → After false zero32
  rejoined e =
      let off = cell-off h r w p k stands.own pl.found e in
      let still = hasaxis-off h r w p k stands.own pl.found e in
      let taken : taken_of h (look_at r) ≡ single (from r Connected) = taken_as h r w none joining (joins-move p r e) in
      let pressed : cell_pressed x ≡ false = unfold cell_at in rw off in
      let value : cell_value x ≡ zero32 = unfold cell_at in rw off in
      let fits : P (cell_value x) = subst P (sym value) zero-fits in
      let fine = spared P alike (sheet_of h) k (single (from r Connected)) (see (from r Connected)) x fits (join-aside (sheet_of h) k pl.bare r ok.pad see (λ e. sees h r w desk e)) in
      take-tells P alike h w sound r none k pl.found still (single (from r Connected)) taken false zero32
      (subst (λ (b : Bool). Fine P alike (sheet_of h) k (single (from r Connected)) (see (from r Connected)) x b zero32) pressed
      (subst (λ (f : Float). Fine P alike (sheet_of h) k (single (from r Connected)) (see (from r Connected)) x (cell_pressed x) f) value fine))

  -- a record of another code, or of another pad
  module _ (b : Bool) (f : Float) (t : Tells P alike (sheet_of h) h k (waiting_list h) b f) (away : rejoins p r ≡ false) where
    pub same : x ≡ cell_at h k
    same = cell_same h r w p k stands.own pl.found away

    pub still : has_axis_at (marked_of h r) k ≡ false
    still = hasaxis-same h r w p k stands.own pl.found away ∙ t.still

    pub now-pressed : cell_pressed x ≡ b
    now-pressed = ap cell_pressed same ∙ t.pressed

    pub now-value : cell_value x ≡ f
    now-value = ap cell_value same ∙ (unfold due in (sym (ap (λ (es : List Event). due (sheet_of h) k es (cell_value (cell_at h k))) (none-waits h none)) ∙ t.value))

    pub now-fits : P (cell_value x)
    now-fits = subst P (sym (ap cell_value same)) t.proper

    -- a step whose event leaves the place alone
    leaves : (d : Dispatched) → taken_of h (look_at r) ≡ d → Spares (sheet_of h) k d (see d.event) → After b f
    leaves d is spares =
        let fine = spared P alike (sheet_of h) k d (see d.event) x now-fits spares in
        take-tells P alike h w sound r none k pl.found still d is b f
        (subst (λ (a : Bool). Fine P alike (sheet_of h) k d (see d.event) x a f) now-pressed
        (subst (λ (a : Float). Fine P alike (sheet_of h) k d (see d.event) x (cell_pressed x) a) now-value fine))

    silent-by : (move_of r.kind ≡ joining) ⊎ (move_of r.kind ≡ leaving) → After b f
    silent-by (inl j) =
        leaves (single (from r Connected)) (taken_as h r w none joining j)
        (join-aside (sheet_of h) k pl.bare r ok.pad see (λ e. sees h r w desk e))
    silent-by (inr l) =
        leaves (single (from r Disconnected)) (taken_as h r w none leaving l)
        (leave-aside (sheet_of h) k pl.bare r ok.pad see (λ e. sees h r w desk e))

    spoken-by : (eqb at k ≡ false) → After b f
    spoken-by apart =
        leaves (dispatch_by (move_of r.kind) r (get_or h.names at no_name) (element_at h at) (pressed_at h at) h.pressed h.released h.reversed)
        (taken_as h r w none (move_of r.kind) refl)
        (move-aside (sheet_of h) k pl.bare r ok.pad see (λ e. sees h r w desk e) apart (get_or h.names at no_name) (clear _) (clear _) refl
        (element_at h at) (pressed_at h at) h.pressed h.released h.reversed (move_of r.kind) (axis-kind h r ok))

    pub unconcerned : concerns p c r ≡ false → After b f
    unfolding concerns
    unconcerned e = by (eqb r.pad p) (eqb r.code c) (speaks r.kind) refl refl refl e
      where
        by : (a d s : Bool) → eqb r.pad p ≡ a → eqb r.code c ≡ d → speaks r.kind ≡ s → (a && (d && s)) ≡ false → After b f
        by true true true ea ed es e = false-true (sym e)
        by true true false ea ed es e = silent-by (silent-move r.kind es)
        by true false s ea ed es e =
            spoken-by (apart_by h.codes p c r.pad r.code (eqb at k) pl.found refl (λ pad code. eqb-false r.code c ed code))
        by false d s ea ed es e =
            spoken-by (apart_by h.codes p c r.pad r.code (eqb at k) pl.found refl (λ pad code. eqb-false r.pad p ea pad))
