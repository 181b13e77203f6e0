-- What each kind of call makes of the summary and of the records: an event writes the record of its place and moves the summary there, Connected and
-- registration clear a pad's records and its summary, and leave every other pad's. And a record reads pressed only at the place that the lookup of its code finds.
use Rattle.std.specs.Prelude.{ℕ, ◌+◌, ◌*◌, ◌/◌, ◌%◌, ◌<◌, Bool, cond, ◌&&◌, ◌||◌, List, ◌≡◌, get_or, set}
use Rattle.std.proofs.Math.Bool.{true, false}
use Rattle.std.proofs.Math.Path.{refl}
use Rattle.std.proofs.Common.{sym, ap, ◌∙◌, subst, get_or-set_other, eqb-true}
use Rattle.std.proofs.Math.Dec.{eqb}
use Rattle.std.proofs.Math.ListN.{length, length-set}
use Rattle.std.proofs.Math.Seq.{get_or-set_same}
use native.Mathlib.Omega.{arith}
use Rattle.std.proofs.lemmas.Bool.{eqb-false}
use Rattle.rules.specs.declared.Hub.{Hub}
use Rattle.rules.specs.declared.Event.{Event}
use Rattle.rules.specs.declared.ButtonData.{ButtonData}
use Rattle.rules.specs.Names.{pad_limit, places_per_pad, nowhere}
use Rattle.rules.specs.Sheets.{element_axis}
use Rattle.rules.specs.Places.{place_of}
use Rattle.rules.specs.Events.{code_of}
use Rattle.rules.specs.State.{read_pressed, writes_button, button_after}
use Rattle.rules.specs.Hub.{place_in, kind_at, has_button_at, button_at, past_button, pressed_at}
use Rattle.rules.specs.Down.{changes, put_bit, count_after, bits_after, counts_after}
use Rattle.rules.specs.Step.{followed_at, updated_at, updated_of}
use Rattle.pad.specs.Lookup.{place-stands}
use Rattle.theory_down.specs.Summed.{reads_on, axis_on, OnPad, sums-alike, sums-put}

-- the lengths of what is looked at
pub record Whole (h : Hub) : Type 0 where
  pub hasbutton : length h.hasbutton ≡ nowhere
  pub buttons : length h.buttons ≡ nowhere + 1
  pub down : length h.down ≡ pad_limit
  pub held : length h.held ≡ pad_limit
  pub heldaxes : length h.heldaxes ≡ pad_limit

-- a place of a registered pad that reads pressed is the one that the lookup of its code finds
pub record Placed (h : Hub) : Type 0 where
  pub found : (i : ℕ) → i < nowhere → i / places_per_pad < h.pads → pressed_at h i ≡ true
      → place_of h.codes (i / places_per_pad) (get_or h.codes i 0) ≡ i

-- what a step keeps: the lengths, and the summary of every pad
pub record Good (h : Hub) : Type 0 where
  pub whole : Whole h
  pub pads : (p : ℕ) → p < pad_limit → OnPad h p

-- a hub with the same records reads the same
pub same_reads : (h g : Hub) (i : ℕ) → has_button_at g i ≡ has_button_at h i → button_at g i ≡ button_at h i → pressed_at g i ≡ pressed_at h i
unfolding pressed_at
same_reads h g i marks records = rw (marks, records)

-- ---- a number of one pad that is set, or not

set-length-if : (c : Bool) (xs : List ℕ) (i v : ℕ) → length (cond c (set xs i v) xs) ≡ length xs
set-length-if true xs i v = length-set xs i v
set-length-if false xs i v = refl

set-own-if : (c : Bool) (xs : List ℕ) (i v : ℕ) → i < length xs → get_or (cond c (set xs i v) xs) i 0 ≡ cond c v (get_or xs i 0)
set-own-if true xs i v short = get_or-set_same xs i v 0 short
set-own-if false xs i v short = refl

set-other-if : (c : Bool) (xs : List ℕ) (i j v : ℕ) → (j ≡ i → ⊥) → get_or (cond c (set xs i v) xs) j 0 ≡ get_or xs j 0
set-other-if true xs i j v other = get_or-set_other xs i j v 0 other
set-other-if false xs i j v other = refl

-- the law book's lists after place k was read anew
module _ (numbers : List ℕ) (k : ℕ) (was is : Bool) where
  bits-length : length (bits_after numbers k was is) ≡ length numbers
  unfolding bits_after
  bits-length = set-length-if (changes was is) numbers (k / places_per_pad) _

  bits-own : k / places_per_pad < length numbers
      → get_or (bits_after numbers k was is) (k / places_per_pad) 0
      ≡ cond (changes was is) (put_bit (get_or numbers (k / places_per_pad) 0) (k % places_per_pad) is) (get_or numbers (k / places_per_pad) 0)
  unfolding bits_after
  bits-own short = set-own-if (changes was is) numbers (k / places_per_pad) _ short

  bits-other : (p : ℕ) → (p ≡ k / places_per_pad → ⊥) → get_or (bits_after numbers k was is) p 0 ≡ get_or numbers p 0
  unfolding bits_after
  bits-other p other = set-other-if (changes was is) numbers (k / places_per_pad) p _ other

  counts-length : length (counts_after numbers k was is) ≡ length numbers
  unfolding counts_after
  counts-length = set-length-if (changes was is) numbers (k / places_per_pad) _

  counts-own : k / places_per_pad < length numbers
      → get_or (counts_after numbers k was is) (k / places_per_pad) 0
      ≡ cond (changes was is) (count_after (get_or numbers (k / places_per_pad) 0) is) (get_or numbers (k / places_per_pad) 0)
  unfolding counts_after
  counts-own short = set-own-if (changes was is) numbers (k / places_per_pad) _ short

  counts-other : (p : ℕ) → (p ≡ k / places_per_pad → ⊥) → get_or (counts_after numbers k was is) p 0 ≡ get_or numbers p 0
  unfolding counts_after
  counts-other p other = set-other-if (changes was is) numbers (k / places_per_pad) p _ other

-- ---- an event that is applied, at place k

module _ (on : Bool) (h : Hub) (e : Event) (k : ℕ) (whole : Whole h) where
  abbrev stands : Bool
  stands = has_button_at h k || (on && writes_button e)

  abbrev button : ButtonData
  button = cond on (button_after e (has_button_at h k) (button_at h k) h.counter) (button_at h k)

  abbrev was : Bool
  was = pressed_at h k

  abbrev is : Bool
  is = read_pressed stands button

  abbrev axis : Bool
  axis = eqb (kind_at h k) element_axis

  read-other : (i : ℕ) → (i ≡ k → ⊥) → pressed_at (updated_at on h e k) i ≡ pressed_at h i
  unfolding updated_at followed_at
  read-other i other =
      same_reads h (updated_at on h e k) i (get_or-set_other h.hasbutton k i _ false other) (get_or-set_other h.buttons k i _ past_button other)

  read-own : k < nowhere → pressed_at (updated_at on h e k) k ≡ is
  unfolding updated_at followed_at pressed_at
  read-own inside =
      let marked : k < length h.hasbutton = omega (arith, whole.hasbutton) in
      let stored : k < length h.buttons = omega (arith, whole.buttons) in
      rw (get_or-set_same h.hasbutton k stands false marked, get_or-set_same h.buttons k button past_button stored)

  pub updated-whole : Whole (updated_at on h e k)
  unfolding updated_at followed_at
  updated-whole =
      record {
        hasbutton = length-set h.hasbutton k _ ∙ whole.hasbutton;
        buttons = length-set h.buttons k _ ∙ whole.buttons;
        down = bits-length h.down k was is ∙ whole.down;
        held = counts-length h.held k was is ∙ whole.held;
        heldaxes = counts-length h.heldaxes k (axis && was) (axis && is) ∙ whole.heldaxes;
      }

  -- another pad's summary stays
  other-pad : (p : ℕ) → (p ≡ k / places_per_pad → ⊥) → OnPad h p → OnPad (updated_at on h e k) p
  unfolding updated_at followed_at
  other-pad p other w =
      sums-alike (bits-other h.down k was is p other) (counts-other h.held k was is p other)
      (counts-other h.heldaxes k (axis && was) (axis && is) p other)
      (λ i short. read-other (places_per_pad * p + i) (λ same. other (omega arith)))
      (λ i short. refl) w

  -- its own follows the record
  own-pad : k < nowhere → OnPad h (k / places_per_pad) → OnPad (updated_at on h e k) (k / places_per_pad)
  unfolding updated_at followed_at
  own-pad inside w =
      let p = k / places_per_pad in
      let at : places_per_pad * p + k % places_per_pad ≡ k = omega arith in
      let own : p < pad_limit = omega arith in
      sums-alike
      (bits-own h.down k was is (omega (arith, whole.down))) (counts-own h.held k was is (omega (arith, whole.held)))
      (counts-own h.heldaxes k (axis && was) (axis && is) (omega (arith, whole.heldaxes)))
      (λ i short. refl) (λ i short. refl)
      (sums-put (λ i. reads_on h p i) (λ i. reads_on (updated_at on h e k) p i) (λ i. axis_on h p i)
      (k % places_per_pad) (omega arith)
      (λ i other. read-other (places_per_pad * p + i) (λ same. other (omega arith)))
      was is axis
      (ap (λ (i : ℕ). pressed_at h i) at)
      (ap (λ (i : ℕ). pressed_at (updated_at on h e k) i) at ∙ read-own inside)
      (ap (λ (i : ℕ). eqb (kind_at h i) element_axis) at)
      _ _ _ w)

  pad-by : (p : ℕ) (own : Bool) → eqb p (k / places_per_pad) ≡ own → p < pad_limit → OnPad h p → OnPad (updated_at on h e k) p
  pad-by p true same few w =
      let q = eqb-true p (k / places_per_pad) same in
      subst (λ (i : ℕ). OnPad (updated_at on h e k) i) (sym q) (own-pad (omega arith) (subst (λ (i : ℕ). OnPad h i) q w))
  pad-by p false same few w = other-pad p (eqb-false p (k / places_per_pad) same) w

  pub updated-pad : (p : ℕ) → p < pad_limit → OnPad h p → OnPad (updated_at on h e k) p
  updated-pad p few w = pad-by p (eqb p (k / places_per_pad)) refl few w

module _ (on : Bool) (h : Hub) (e : Event) where
  abbrev at : ℕ
  at = place_in h e.pad (code_of e)

  pub updated-good : Good h → Good (updated_of on h e)
  unfolding updated_of
  updated-good w =
      record { whole = updated-whole on h e at w.whole; pads = λ p few. updated-pad on h e at w.whole p few (w.pads p few) }

  -- what reads pressed afterwards is found: the place that it wrote is its code's, and the others read as before
  module _ (whole : Whole h) (w : Placed h) where
    found-by : (i : ℕ) (own : Bool) → eqb i at ≡ own → i < nowhere → i / places_per_pad < h.pads → pressed_at (updated_of on h e) i ≡ true
        → place_of h.codes (i / places_per_pad) (get_or h.codes i 0) ≡ i
    unfolding updated_of
    found-by i true same inside registered reads =
        let s = place-stands h.codes e.pad (code_of e) (rw (eqb-true i at same) at inside) in
        rw (eqb-true i at same, s.own, s.has)
    found-by i false same inside registered reads =
        w.found i inside registered (sym (read-other on h e at whole i (eqb-false i at same)) ∙ reads)

    pub updated-placed : Placed (updated_of on h e)
    unfolding updated_of
    updated-placed =
        record { found = λ i inside registered reads. found-by i (eqb i at) refl inside (unfold updated_at followed_at in registered) (unfold updated_of in reads) }
