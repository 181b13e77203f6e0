-- W-213's two queries on every hub that the public calls reach, of a registered pad: `down` answers the fresh counts, and `lowest_pressed` the least code that reads
-- pressed, or None exactly where none does (`Lowest` of `specs/Asked`). From the summary (Kept); a pad's places are in code order, and what reads pressed is its
-- code's place.
use Rattle.std.specs.Prelude.{ℕ, ◌+◌, ◌*◌, ◌/◌, ◌%◌, ◌<◌, ◌≤◌, Bool, true, ◌&&◌, ◌≡◌, refl, ltb, get_or, None, Ok, Option, Result}
use Rattle.std.proofs.Math.Bool.{false}
use Rattle.std.proofs.Common.{sym, ap, ap₂, ◌∙◌, subst, arith}
use Rattle.std.proofs.Math.ListN.{get_or-eq_default}
use borrow.Author.Tests.{eqb-true, eq-eqb, ltb-true, ltb-false, lt-ltb}
use Rattle.rules.specs.declared.Hub.{Hub}
use Rattle.rules.specs.declared.Refusal.{Refusal}
use Rattle.rules.specs.Names.{pad_limit, places_per_pad, nowhere}
use Rattle.rules.specs.Sheets.{element_axis}
use Rattle.rules.specs.Places.{place_of}
use Rattle.rules.specs.Refusals.{is_registered}
use Rattle.rules.specs.State.{read_pressed}
use Rattle.rules.specs.Hub.{place_in, kind_at, pressed_at}
use Rattle.rules.specs.Down.{lowest_of}
use Rattle.rules.specs.Queries.{pad_refusal, pressed_by_code, found_by, down_of, lowest_pressed, pad_down}
use Rattle.pad.specs.Lookup.{place-stands}
use Rattle.theory_calls.specs.Reach.{Reached}
use Rattle.theory_history.specs.Lemmas.Truth.{false-true}
use Rattle.theory_registered.proofs.Pads.{four-pads, never-falls}
use Rattle.theory_down.specs.Bits.{lowest_set, lowest-first}
use Rattle.theory_down.specs.Counts.{Some, some-counts, counted-some, count_none}
use Rattle.theory_down.specs.Summed.{reads_on, axis_on, pressed_on, pressed_axes_on, Summed}
use Rattle.theory_down.proofs.Kept.{reached-kept, reached-summed}
use Rattle.theory_down.specs.Asked.{Lowest, PressedAxis, none, least}

-- ---- a registered pad of a reached hub

truth-is : (b : Bool) → ◌≡◌ {A = Result Bool Refusal} (Ok b) (Ok true) → b ≡ true
truth-is b e = cc e

module _ {h : Hub} (w : Reached h) (p : ℕ) (registered : p < h.pads) where
  few : p < pad_limit
  few =
      let most = four-pads w p registered in
      omega arith

  unrefused : pad_refusal h p ≡ 0
  unfolding is_registered
  unrefused = rw (lt-ltb p h.pads registered, lt-ltb p pad_limit few)

  by_code : (c : ℕ) → pressed_by_code h p c ≡ Ok (pressed_at h (place_in h p c))
  unfolding pressed_by_code
  by_code c = rw unrefused

  summed : Summed h
  summed = reached-summed w

  -- ---- place k of the pad and its code

  abbrev code_at : ℕ → ℕ
  code_at k = get_or h.codes (places_per_pad * p + k) 0

  -- a place that reads pressed is its code's
  own-place : (k : ℕ) → k < places_per_pad → reads_on h p k ≡ true → place_in h p (code_at k) ≡ places_per_pad * p + k
  own-place k short reads =
      let pad : (places_per_pad * p + k) / places_per_pad ≡ p = omega arith in
      let limit = few in
      subst (λ (q : ℕ). place_of h.codes q (code_at k) ≡ places_per_pad * p + k) pad
      ((reached-kept w).placed.found (places_per_pad * p + k) (omega arith) (omega arith) reads)

  place_read : (k : ℕ) → k < places_per_pad → reads_on h p k ≡ true → pressed_by_code h p (code_at k) ≡ Ok true
  place_read k short reads = by_code (code_at k) ∙ ap Ok (ap (λ (i : ℕ). pressed_at h i) (own-place k short reads) ∙ reads)

  -- a code that reads pressed has a place of the pad
  record At (c : ℕ) : Type 0 where
    pub k : ℕ
    pub short : k < places_per_pad
    pub place : place_in h p c ≡ places_per_pad * p + k
    pub reads : reads_on h p k ≡ true
    pub code : code_at k ≡ c

  past-reads : (i : ℕ) → nowhere ≤ i → pressed_at h i ≡ false
  unfolding pressed_at read_pressed
  past-reads i past = rw (get_or-eq_default h.hasbutton false {n = i} (omega (arith, (reached-kept w).good.whole.hasbutton)))

  place-below : (c : ℕ) → pressed_at h (place_in h p c) ≡ true → (inside : Bool) → ltb (place_in h p c) nowhere ≡ inside → place_in h p c < nowhere
  place-below c reads true e = ltb-true (place_in h p c) nowhere e
  place-below c reads false e = false-true (sym (past-reads (place_in h p c) (ltb-false (place_in h p c) nowhere e)) ∙ reads)

  code_read : (c : ℕ) → pressed_by_code h p c ≡ Ok true → At c
  code_read c read =
      let reads = truth-is (pressed_at h (place_in h p c)) (sym (by_code c) ∙ read) in
      let s = place-stands h.codes p c (place-below c reads (ltb (place_in h p c) nowhere) refl) in
      let own = s.own in
      let i = place_in h p c in
      let same : i ≡ places_per_pad * p + i % places_per_pad = omega arith in
      record {
        k = i % places_per_pad;
        short = omega arith;
        place = same;
        reads = subst (λ (j : ℕ). pressed_at h j ≡ true) same reads;
        code = subst (λ (j : ℕ). get_or h.codes j 0 ≡ c) same s.has;
      }

  -- ---- down

  -- "the number of pressed elements on each pad and whether any axis element reads pressed"
  pub down_answers : down_of h p ≡ Ok (pad_down (pressed_on h p) (ltb 0 (pressed_axes_on h p)))
  unfolding down_of
  down_answers = rw (unrefused, summed.count p few, summed.axes p few)

  -- the truth beside the count: some axis element reads pressed, by its code
  pub axis-some : ltb 0 (pressed_axes_on h p) ≡ true → PressedAxis h p
  axis-some up = by (counted-some (λ k. axis_on h p k && reads_on h p k) places_per_pad (ltb-true 0 (pressed_axes_on h p) up))
    where
      both : (a r : Bool) → (a && r) ≡ true → (a ≡ true) × (r ≡ true)
      both true r e = (refl, e)
      both false r e = false-true e

      by : Some (λ k. axis_on h p k && reads_on h p k) places_per_pad → PressedAxis h p
      by s =
          let k = s.place in
          let b = both (axis_on h p k) (reads_on h p k) s.says_so in
          record {
            code = code_at k;
            kind = ap (λ (i : ℕ). kind_at h i) (own-place k s.inside b.1) ∙ eqb-true (kind_at h (places_per_pad * p + k)) element_axis b.0;
            reads = place_read k s.inside b.1;
          }

  pub some-axis : PressedAxis h p → ltb 0 (pressed_axes_on h p) ≡ true
  some-axis s =
      let a = code_read s.code s.reads in
      let kind : kind_at h (places_per_pad * p + a.k) ≡ element_axis = subst (λ (i : ℕ). kind_at h i ≡ element_axis) a.place s.kind in
      lt-ltb 0 (pressed_axes_on h p)
      (some-counts (λ k. axis_on h p k && reads_on h p k) places_per_pad a.k a.short
      (ap₂ (λ (x y : Bool). x && y) (eq-eqb (kind_at h (places_per_pad * p + a.k)) element_axis kind) a.reads))

  -- ---- the lowest pressed code

  abbrev bits : ℕ
  bits = get_or h.down p 0

  -- no place that reads pressed stands before the lowest
  not-before : (k : ℕ) → k < places_per_pad → reads_on h p k ≡ true → (before : Bool) → ltb k (lowest_of bits) ≡ before → lowest_of bits ≤ k
  not-before k short reads true e =
      false-true (sym (lowest-first bits k (ltb-true k (lowest_of bits) e)) ∙ (summed.bit p k few short ∙ reads))
  not-before k short reads false e = ltb-false k (lowest_of bits) e

  least-code : (d : ℕ) → At d → code_at (lowest_of bits) ≤ d
  least-code d a =
      let from = not-before a.k a.short a.reads (ltb a.k (lowest_of bits)) refl in
      let short = a.short in
      let code = a.code in
      let climbs = (never-falls w p registered).rises (places_per_pad * p + lowest_of bits) (places_per_pad * p + a.k) (omega arith) (omega arith) (omega arith) in
      omega arith

  none_reads : places_per_pad ≤ lowest_of bits → (c : ℕ) (b : Bool) → pressed_by_code h p c ≡ Ok b → b ≡ false
  none_reads past c false read = refl
  none_reads past c true read =
      let a = code_read c read in
      let short = a.short in
      let from = not-before a.k a.short a.reads (ltb a.k (lowest_of bits)) refl in
      absurd (omega arith)

  lowest_by : (some : Bool) → ltb (lowest_of bits) places_per_pad ≡ some → Lowest h p (found_by 0 some (code_at (lowest_of bits)))
  lowest_by true e =
      let k = lowest_of bits in
      let short = ltb-true k places_per_pad e in
      let reads = sym (summed.bit p k few short) ∙ lowest_set bits short in
      least (code_at k) (place_read k short reads) (λ d read. least-code d (code_read d read))
  lowest_by false e =
      let past = ltb-false (lowest_of bits) places_per_pad e in
      none (λ c. by_code c ∙ ap Ok (none_reads past c (pressed_at h (place_in h p c)) (by_code c)))

  pub lowest-is : Lowest h p (lowest_pressed h p)
  unfolding lowest_pressed
  lowest-is = rw unrefused (lowest_by (ltb (lowest_of bits) places_per_pad) refl)

  -- "which says that there is none exactly when no record is pressed": by codes, and by the fresh count
  pub absent_none : lowest_pressed h p ≡ Ok None → (c : ℕ) → pressed_by_code h p c ≡ Ok false
  absent_none absent = by (lowest_pressed h p) lowest-is absent
    where
      by : (a : Result (Option ℕ) Refusal) → Lowest h p a → a ≡ Ok None → (c : ℕ) → pressed_by_code h p c ≡ Ok false
      by a (none all) e = all
      by a (least c read less) e = let z : ◌≡◌ {A = ℕ} 0 1 = cc in absurd (omega arith)

  pub none-absent : ((c : ℕ) → pressed_by_code h p c ≡ Ok false) → lowest_pressed h p ≡ Ok None
  none-absent all = by (lowest_pressed h p) lowest-is
    where
      by : (a : Result (Option ℕ) Refusal) → Lowest h p a → a ≡ Ok None
      by a (none same) = refl
      by a (least c read less) =
          let down = all c in
          let z : ◌≡◌ {A = ℕ} 0 1 = cc in
          absurd (omega arith)

  pub absent-zero : lowest_pressed h p ≡ Ok None → pressed_on h p ≡ 0
  absent-zero absent = count_none (λ k. reads_on h p k) places_per_pad (λ k short. by k short (reads_on h p k) refl)
    where
      by : (k : ℕ) → k < places_per_pad → (b : Bool) → reads_on h p k ≡ b → b ≡ false
      by k short true reads =
          let up = place_read k short reads in
          let down = absent_none absent (code_at k) in
          let z : ◌≡◌ {A = ℕ} 0 1 = cc in
          absurd (omega arith)
      by k short false reads = refl

  pub zero-absent : pressed_on h p ≡ 0 → lowest_pressed h p ≡ Ok None
  zero-absent zeros = by (lowest_pressed h p) lowest-is
    where
      by : (a : Result (Option ℕ) Refusal) → Lowest h p a → a ≡ Ok None
      by a (none same) = refl
      by a (least c read less) =
          let at = code_read c read in
          let some = some-counts (λ k. reads_on h p k) places_per_pad at.k at.short at.reads in
          absurd (omega arith)
