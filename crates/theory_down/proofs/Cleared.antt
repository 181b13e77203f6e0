-- A pad that begins anew, at Connected and at registration: none of its places reads pressed and its summary is 0, while every other pad's stay. And a hub whose
-- records, sheets and summary are the same. So each stage of a step, and each call, keeps what is claimed.
use Rattle.std.specs.Prelude.{ℕ, ◌+◌, ◌*◌, ◌/◌, ◌<◌, ◌≤◌, Bool, ◌≡◌, eqb, ltb, length, set}
use Rattle.std.proofs.Math.Bool.{true, false}
use mathlib.Core.List.{List, [], ◌∷◌, map}
use Rattle.std.proofs.Math.Path.{refl, ap}
use Rattle.std.proofs.Common.{sym, ◌∙◌, subst, length-set, get_or-set_same, get_or-set_other}
use Rattle.std.proofs.Math.ListN.{get_or, length-map}
use native.Mathlib.Omega.{arith}
use borrow.Author.Tests.{eqb-true, eqb-false, ltb-true, ltb-false}
use Rattle.rules.specs.declared.Hub.{Hub}
use Rattle.rules.specs.declared.ButtonData.{ButtonData}
use Rattle.rules.specs.declared.RawRecord.{RawRecord}
use Rattle.rules.specs.declared.NextRecord.{NextRecord}
use Rattle.rules.specs.declared.Dispatched.{Dispatched}
use Rattle.rules.specs.Names.{pad_limit, places_per_pad, nowhere}
use Rattle.rules.specs.Forms.{kind_connected}
use Rattle.rules.specs.Sheets.{element_axis, hats_of, count_of}
use Rattle.rules.specs.Places.{place_of, cleared_of, rows_of}
use Rattle.rules.specs.Hub.{kind_at, has_button_at, past_button, pressed_at}
use Rattle.rules.specs.State.{read_pressed}
use Rattle.rules.specs.Step.{marks_cleared, down_cleared, marked_of, taken_of, pushed_of, filtered_hub, updated_of, step_event, step_hub}
use Rattle.rules.specs.Calls.{row_code, row_kind, registered_at}
use Rattle.theory_history.specs.Lemmas.Marks.{cleared-length, cleared-before, cleared-behind, cleared-inside}
use Rattle.theory_history.specs.Lemmas.Truth.{false-true}
use Rattle.theory_registered.specs.Laid.{laid-behind}
use Rattle.theory_registered.specs.Columns.{places-length, laid-places}
use Rattle.theory_registered.specs.Converts.{place_same}
use Rattle.theory_down.specs.Summed.{reads_on, axis_on, OnPad, sums-alike, sums_none}
use Rattle.theory_down.proofs.Stages.{Whole, Placed, Good, same_reads, updated-whole, updated-good, updated-placed}

-- ---- the same records, sheets and summary

-- what is looked at, as one value, so that one equation tells that all of it stays
pub record Looked : Type 0 where
  pub hasbutton : List Bool
  pub buttons : List ButtonData
  pub summary : List (List ℕ)
  pub pads : ℕ
  pub codes : List ℕ
  pub kinds : List ℕ

abbrev pub looked_at : Hub → Looked
looked_at h =
    record {
      hasbutton = h.hasbutton;
      buttons = h.buttons;
      summary = h.down ∷ h.held ∷ h.heldaxes ∷ [];
      pads = h.pads;
      codes = h.codes;
      kinds = h.kinds;
    }

abbrev pub Same : Hub → Hub → Type 0
Same h g = looked_at g ≡ looked_at h

module _ (h g : Hub) (s : Same h g) where
  alike-reads : (i : ℕ) → pressed_at g i ≡ pressed_at h i
  unfolding pressed_at
  alike-reads i = ap (λ (l : Looked). read_pressed (get_or l.hasbutton i false) (get_or l.buttons i past_button)) s

  -- one of the summary's three lists
  one_list : (n : ℕ) → get_or (looked_at g).summary n [] ≡ get_or (looked_at h).summary n []
  one_list n = ap (λ (l : Looked). get_or l.summary n []) s

  same_whole : Whole h → Whole g
  same_whole w =
      record {
        hasbutton = ap (λ (l : Looked). length l.hasbutton) s ∙ w.hasbutton;
        buttons = ap (λ (l : Looked). length l.buttons) s ∙ w.buttons;
        down = ap length (one_list 0) ∙ w.down;
        held = ap length (one_list 1) ∙ w.held;
        heldaxes = ap length (one_list 2) ∙ w.heldaxes;
      }

  at-pad : (n p : ℕ) → get_or (get_or (looked_at g).summary n []) p 0 ≡ get_or (get_or (looked_at h).summary n []) p 0
  at-pad n p = ap (λ (numbers : List ℕ). get_or numbers p 0) (one_list n)

  pub same_good : Good h → Good g
  same_good w =
      record {
        whole = same_whole w.whole;
        pads =
            λ p few.
            sums-alike (at-pad 0 p) (at-pad 1 p) (at-pad 2 p) (λ k short. alike-reads (places_per_pad * p + k))
            (λ k short. ap (λ (l : Looked). eqb (get_or l.kinds (places_per_pad * p + k) 0) element_axis) s) (w.pads p few);
      }

  pub same-placed : Placed h → Placed g
  same-placed w =
      let codes = ap (λ (l : Looked). l.codes) s in
      let pads = ap (λ (l : Looked). l.pads) s in
      record { found = λ i inside registered reads. rw codes (w.found i inside (rw pads at registered) (sym (alike-reads i) ∙ reads)) }

-- ---- pad q begins anew

pub record Anew (h g : Hub) (q : ℕ) : Type 0 where
  pub hasbutton : g.hasbutton ≡ cleared_of h.hasbutton (places_per_pad * q) places_per_pad
  pub buttons : g.buttons ≡ h.buttons
  pub down : g.down ≡ set h.down q 0
  pub held : g.held ≡ set h.held q 0
  pub heldaxes : g.heldaxes ≡ set h.heldaxes q 0
  -- another pad's places hold the elements that they held
  pub kinds : (i : ℕ) → i < nowhere → (i / places_per_pad ≡ q → ⊥) → kind_at g i ≡ kind_at h i

module _ (h g : Hub) (q : ℕ) (a : Anew h g q) (whole : Whole h) where
  pub gone : (i : ℕ) → i < nowhere → i / places_per_pad ≡ q → pressed_at g i ≡ false
  unfolding pressed_at read_pressed
  gone i inside own =
      rw (a.hasbutton, cleared-inside places_per_pad h.hasbutton (places_per_pad * q) i (omega arith) (omega arith) (omega (arith, whole.hasbutton)))

  marks_stay : (i : ℕ) → (i / places_per_pad ≡ q → ⊥) → (before : Bool) → ltb i (places_per_pad * q) ≡ before
      → get_or (cleared_of h.hasbutton (places_per_pad * q) places_per_pad) i false ≡ has_button_at h i
  marks_stay i other true e = cleared-before places_per_pad h.hasbutton (places_per_pad * q) i (ltb-true i (places_per_pad * q) e)
  marks_stay i other false e =
      let from = ltb-false i (places_per_pad * q) e in
      cleared-behind places_per_pad h.hasbutton (places_per_pad * q) i (omega arith)

  pub stays : (i : ℕ) → (i / places_per_pad ≡ q → ⊥) → pressed_at g i ≡ pressed_at h i
  stays i other =
      same_reads h g i (rw a.hasbutton (marks_stay i other (ltb i (places_per_pad * q)) refl)) (rw a.buttons)

  pub anew-whole : Whole g
  anew-whole =
      record {
        hasbutton = ap length a.hasbutton ∙ (cleared-length places_per_pad h.hasbutton (places_per_pad * q) ∙ whole.hasbutton);
        buttons = ap length a.buttons ∙ whole.buttons;
        down = ap length a.down ∙ (length-set h.down q 0 ∙ whole.down);
        held = ap length a.held ∙ (length-set h.held q 0 ∙ whole.held);
        heldaxes = ap length a.heldaxes ∙ (length-set h.heldaxes q 0 ∙ whole.heldaxes);
      }

  own-pad : q < pad_limit → OnPad g q
  own-pad few =
      sums-alike (ap (λ (xs : List ℕ). get_or xs q 0) a.down ∙ get_or-set_same h.down q 0 0 (omega (arith, whole.down)))
      (ap (λ (xs : List ℕ). get_or xs q 0) a.held ∙ get_or-set_same h.held q 0 0 (omega (arith, whole.held)))
      (ap (λ (xs : List ℕ). get_or xs q 0) a.heldaxes ∙ get_or-set_same h.heldaxes q 0 0 (omega (arith, whole.heldaxes)))
      (λ k short. refl) (λ k short. refl)
      (sums_none (λ k. reads_on g q k) (λ k. axis_on g q k)
      (λ k short. gone (places_per_pad * q + k) (omega arith) (omega arith)))

  other-pad : (p : ℕ) → p < pad_limit → (p ≡ q → ⊥) → OnPad h p → OnPad g p
  other-pad p few other w =
      sums-alike (ap (λ (xs : List ℕ). get_or xs p 0) a.down ∙ get_or-set_other h.down q p 0 0 other)
      (ap (λ (xs : List ℕ). get_or xs p 0) a.held ∙ get_or-set_other h.held q p 0 0 other)
      (ap (λ (xs : List ℕ). get_or xs p 0) a.heldaxes ∙ get_or-set_other h.heldaxes q p 0 0 other)
      (λ k short. stays (places_per_pad * p + k) (λ same. other (omega arith)))
      (λ k short. ap (λ (kind : ℕ). eqb kind element_axis) (a.kinds (places_per_pad * p + k) (omega arith) (λ same. other (omega arith)))) w

  pub anew-pad : (p : ℕ) → p < pad_limit → OnPad h p → OnPad g p
  anew-pad p few w = by (eqb p q) refl
    where
      by : (own : Bool) → eqb p q ≡ own → OnPad g p
      by true e =
          let same = eqb-true p q e in
          subst (λ (i : ℕ). OnPad g i) (sym same) (own-pad (omega arith))
      by false e = other-pad p few (eqb-false p q e) w

  -- what reads pressed read pressed before, on another pad
  pub read-before : (i : ℕ) → i < nowhere → pressed_at g i ≡ true → (i / places_per_pad ≡ q → ⊥) × (pressed_at h i ≡ true)
  read-before i inside reads = by (eqb (i / places_per_pad) q) refl
    where
      by : (own : Bool) → eqb (i / places_per_pad) q ≡ own → (i / places_per_pad ≡ q → ⊥) × (pressed_at h i ≡ true)
      by true e = false-true (sym (gone i inside (eqb-true (i / places_per_pad) q e)) ∙ reads)
      by false e =
          let other = eqb-false (i / places_per_pad) q e in
          (other, sym (stays i other) ∙ reads)

-- ---- "Connected gives fresh state"

module _ (h : Hub) (r : RawRecord) where
  joined : eqb r.kind kind_connected ≡ true → Anew h (marked_of h r) r.pad
  unfolding marked_of marks_cleared down_cleared
  joined e = record { hasbutton = rw e; buttons = refl; down = rw e; held = rw e; heldaxes = rw e; kinds = λ i inside other. refl }

  left : eqb r.kind kind_connected ≡ false → Same h (marked_of h r)
  unfolding marked_of marks_cleared down_cleared cleared_of
  left e = rw e

  whole_by : (joins : Bool) → eqb r.kind kind_connected ≡ joins → Whole h → Whole (marked_of h r)
  whole_by true e w = anew-whole h (marked_of h r) r.pad (joined e) w
  whole_by false e w = same_whole h (marked_of h r) (left e) w

  marked-whole : Whole h → Whole (marked_of h r)
  marked-whole w = whole_by (eqb r.kind kind_connected) refl w

  good-by : (joins : Bool) → eqb r.kind kind_connected ≡ joins → Good h → Good (marked_of h r)
  good-by true e w =
      record { whole = marked-whole w.whole; pads = λ p few. anew-pad h (marked_of h r) r.pad (joined e) w.whole p few (w.pads p few) }
  good-by false e w = same_good h (marked_of h r) (left e) w

  pub marked-good : Good h → Good (marked_of h r)
  marked-good w = good-by (eqb r.kind kind_connected) refl w

  placed_by : (joins : Bool) → eqb r.kind kind_connected ≡ joins → Whole h → Placed h → Placed (marked_of h r)
  placed_by true e whole w =
      record {
        found =
            λ i inside registered reads.
            unfold marked_of in
            w.found i inside (unfold marked_of in registered) (read-before h (marked_of h r) r.pad (joined e) whole i inside reads).1;
      }
  placed_by false e whole w = same-placed h (marked_of h r) (left e) w

  pub marked-placed : Whole h → Placed h → Placed (marked_of h r)
  marked-placed whole w = placed_by (eqb r.kind kind_connected) refl whole w

-- ---- a step, which may be the last before its pump stops

filtered-same : (g : Hub) (d : Dispatched) → Same g (filtered_hub g d)
unfolding filtered_hub pushed_of
filtered-same g d = refl

module _ (h : Hub) (l : NextRecord) where
  -- the hub before its state is updated
  abbrev taken : Hub
  taken = filtered_hub (marked_of h l.raw) (taken_of h l)

  taken-same : Same (marked_of h l.raw) taken
  taken-same = filtered-same (marked_of h l.raw) (taken_of h l)

  taken-whole : Whole h → Whole taken
  taken-whole w = same_whole (marked_of h l.raw) taken taken-same (marked-whole h l.raw w)

  pub step-whole : Whole h → Whole (step_hub h l)
  unfolding step_hub updated_of
  step-whole w = updated-whole h.updates taken (step_event h l) _ (taken-whole w)

  pub step-good : Good h → Good (step_hub h l)
  unfolding step_hub
  step-good w =
      updated-good h.updates taken (step_event h l) (same_good (marked_of h l.raw) taken taken-same (marked-good h l.raw w))

  pub step-placed : Whole h → Placed h → Placed (step_hub h l)
  unfolding step_hub
  step-placed whole w =
      updated-placed h.updates taken (step_event h l) (taken-whole whole)
      (same-placed (marked_of h l.raw) taken taken-same (marked-placed h l.raw whole w))

-- ---- registration

module _ (h : Hub) (s : List ℕ) (few : h.pads < pad_limit) where
  abbrev grown : Hub
  grown = registered_at h h.pads (hats_of s) (count_of s) (rows_of s (count_of s))

  kinds-stay : (i : ℕ) → i < nowhere → (i / places_per_pad ≡ h.pads → ⊥) → (older : Bool) → ltb (i / places_per_pad) h.pads ≡ older → kind_at grown i ≡ kind_at h i
  unfolding registered_at
  kinds-stay i inside other true e =
      let old = ltb-true (i / places_per_pad) h.pads e in
      laid-places h.kinds (map row_kind (rows_of s (count_of s))) (i / places_per_pad) h.pads i 0 old (omega arith)
  kinds-stay i inside other false e =
      let past = ltb-false (i / places_per_pad) h.pads e in
      let size = length-map (rows_of s (count_of s)) row_kind ∙ places-length s in
      let behind : places_per_pad * h.pads + places_per_pad ≤ i = beyond h.pads past other in
      laid-behind 0 (map row_kind (rows_of s (count_of s))) h.kinds (places_per_pad * h.pads) i (omega arith)
    where
      beyond : (q : ℕ) → q ≤ i / places_per_pad → (i / places_per_pad ≡ q → ⊥) → places_per_pad * q + places_per_pad ≤ i
      beyond q past other = omega arith

  begun : Anew h grown h.pads
  unfolding registered_at
  begun =
      record {
        hasbutton = refl;
        buttons = refl;
        down = refl;
        held = refl;
        heldaxes = refl;
        kinds = λ i inside other. kinds-stay i inside other (ltb (i / places_per_pad) h.pads) refl;
      }

  -- a place of an earlier pad is found as before
  found-as-before : (i : ℕ) → i / places_per_pad < h.pads → place_of h.codes (i / places_per_pad) (get_or h.codes i 0) ≡ i
      → place_of grown.codes (i / places_per_pad) (get_or grown.codes i 0) ≡ i
  unfolding registered_at
  found-as-before i old found =
      let p = i / places_per_pad in
      let codes = map row_code (rows_of s (count_of s)) in
      let code : get_or grown.codes i 0 ≡ get_or h.codes i 0 = laid-places h.codes codes p h.pads i 0 old (omega arith) in
      rw code
      (place_same grown.codes h.codes p (get_or h.codes i 0) (record { at = λ j past from to. laid-places h.codes codes p h.pads j past old to }) ∙ found)

  pub registered-good : Good h → Good grown
  registered-good w =
      record {
        whole = anew-whole h grown h.pads begun w.whole;
        pads = λ p stands. anew-pad h grown h.pads begun w.whole p stands (w.pads p stands);
      }

  pub registered-placed : Whole h → Placed h → Placed grown
  registered-placed whole w =
      record {
        found =
            λ i inside registered reads.
            let before = read-before h grown h.pads begun whole i inside reads in
            let old : i / places_per_pad < h.pads = earlier h.pads (i / places_per_pad) (unfold registered_at in registered) before.0 in
            found-as-before i old (w.found i inside old before.1);
      }
    where
      earlier : (pads q : ℕ) → q < pads + 1 → (q ≡ pads → ⊥) → q < pads
      earlier pads q short other = omega arith
