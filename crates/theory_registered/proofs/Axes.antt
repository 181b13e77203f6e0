-- A place that the hub keeps as an axis's is a listed axis element's: what is kept there is what the element's min, max and deadzone give, and they lie inside
-- 01's limits. For registration lays an element's row, or one of no kind; and past the last place stands no kind either.
use Prim.Native.Nat.{ℕ, zero, suc, ◌+◌, ◌-◌, ◌*◌, ◌<◌}
use Rattle.std.specs.Prelude.{Bool, List, ltb, get_or}
use Rattle.std.proofs.Math.Bool.{true, false}
use Rattle.std.proofs.Common.{ap, ◌∙◌, subst, arith, ltb-true, ltb-false}
use Rattle.std.proofs.Math.Path.{◌≡◌, refl, sym}
use Rattle.std.proofs.Math.ListN.{get_or-eq_default}
use Rattle.rules.specs.declared.Hub.{Hub}
use Rattle.rules.specs.declared.Row.{Row}
use Rattle.rules.specs.Names.{places_per_pad, nowhere}
use Rattle.rules.specs.Sheets.{sheet_refusal, count_of, element_of, element_axis}
use Rattle.rules.specs.Places.{listed_row, unlisted_row, element_next, next_row, rows_from, rows_of}
use Rattle.rules.specs.Hub.{place_in, kind_at}
use Rattle.pad.specs.Lookup.{place-stands}
use Rattle.sheets.specs.Laws.{element-fits, sort}
use Rattle.theory_calls.specs.Reach.{Reached}
use Rattle.theory_registered.specs.Rows.{element-facts}
use Rattle.theory_registered.specs.Columns.{row_at, Keeps}
use Rattle.theory_registered.proofs.Pads.{reached-desk, sheet-of}
use Rattle.theory_registered.specs.Axes.{Axis, axis-of, listed-axis}

-- ---- a row

-- it is that of one of the sheet's n elements
record Laid (s : List ℕ) (n : ℕ) (r : Row) : Type 0 where
  e : ℕ
  inside : e < n
  is : r ≡ listed_row (element_of s e)

module _ (s : List ℕ) (n : ℕ) where
  next-laid : (i d last : ℕ) (element : Bool) → element_next s n i d ≡ element → (next_row s n i d last).kind ≡ element_axis → Laid s n (next_row s n i d last)
  unfolding next_row
  next-laid i d last true e kind = record { e = i; inside = (element-facts s n i d e).0; is = rw e }
  next-laid i d last false e kind = let z : ◌≡◌ {A = ℕ} 0 element_axis = rw e at kind in absurd (omega arith)

  row_laid : (k i d last j : ℕ) → j < k → (get_or (rows_from k s n i d last) j (unlisted_row 0)).kind ≡ element_axis → Laid s n (get_or (rows_from k s n i d last) j (unlisted_row 0))
  unfolding rows_from
  row_laid zero i d last j short kind = absurd (omega arith)
  row_laid (suc k) i d last zero short kind = next-laid i d last (element_next s n i d) refl kind
  row_laid (suc k) i d last (suc j) short kind = row_laid k _ _ _ j (omega arith) kind

-- ---- what the hub keeps in a place is a listed axis element's

module _ (h : Hub) (p : ℕ) (s : List ℕ) (taken : sheet_refusal true s ≡ 0) (keeps : Keeps h p s) (j : ℕ) (short : j < places_per_pad) where
  kept-axis : kind_at h (places_per_pad * p + j) ≡ element_axis → Axis h (places_per_pad * p + j)
  unfolding row_at rows_of listed_row
  kept-axis kind =
      let row = row_laid s (count_of s) places_per_pad 0 0 0 j short (sym (keeps.kinds j short) ∙ kind) in
      let e = element_of s row.e in
      let axis : e.kind ≡ element_axis = sym (ap (λ (r : Row). r.kind) row.is) ∙ (sym (keeps.kinds j short) ∙ kind) in
      record {
        of = e;
        keeps = axis-of e axis (sort e (element-fits s taken row.e row.inside));
        element = keeps.elements j short ∙ (ap (λ (r : Row). r.element) row.is ∙ listed-axis e axis);
      }

-- ---- the place of a code, in a pad that stands

module _ {h : Hub} (w : Reached h) (p : ℕ) (short : p < h.pads) (c : ℕ) where
  found-by : (found : Bool) → ltb (place_in h p c) nowhere ≡ found → kind_at h (place_in h p c) ≡ element_axis → Axis h (place_in h p c)
  found-by true e kind =
      let sheet = sheet-of w p short in
      let own = (place-stands h.codes p c (ltb-true (place_in h p c) nowhere e)).own in
      let q : places_per_pad * p + (place_in h p c - places_per_pad * p) ≡ place_in h p c = omega arith in
      subst (Axis h) q (kept-axis h p sheet.sheet sheet.kept.taken sheet.kept.keeps (place_in h p c - places_per_pad * p) (omega arith)
      (subst (λ (k : ℕ). kind_at h k ≡ element_axis) (sym q) kind))
  found-by false e kind =
      let past = ltb-false (place_in h p c) nowhere e in
      let size = (reached-desk w).sized.kinds in
      let none = get_or-eq_default h.kinds 0 {n = place_in h p c} (omega arith) in
      let z : ◌≡◌ {A = ℕ} 0 element_axis = sym none ∙ kind in
      absurd (omega arith)

  pub axis-kept : kind_at h (place_in h p c) ≡ element_axis → Axis h (place_in h p c)
  axis-kept = found-by (ltb (place_in h p c) nowhere) refl
