-- A code that the sheet does not list and that is no direction's is not found in the pad: 9, "code not listed (an event may also carry a direction code)",
-- is given for exactly these. Every row has an element's code, a direction's, or that of a row before it.
use Prim.Native.Nat.{ℕ, zero, suc, ◌+◌, ◌-◌, ◌*◌, ◌<◌}
use Rattle.std.specs.Prelude.{Bool, List, ◌⊎◌, ◌≡◌, get_or}
use Rattle.std.proofs.Math.Bool.{true, false}
use Rattle.std.proofs.Common.{inl, inr, sym, ◌∙◌}
use Rattle.std.proofs.Math.Path.{refl}
use native.Mathlib.Omega.{arith}
use Rattle.rules.specs.declared.Hub.{Hub}
use Rattle.rules.specs.Names.{pad_limit, places_per_pad, nowhere, code_up}
use Rattle.rules.specs.Sheets.{sheet_refusal, count_of}
use Rattle.rules.specs.Places.{scan_of, listed_row, unlisted_row, directions, element_next, direction_next, next_row, rows_from, rows_of}
use Rattle.rules.specs.Hub.{place_in}
use Rattle.pad.specs.Lookup.{Absent, First, scan-cases}
use Rattle.pad.specs.Rising.{place-is-scan}
use Rattle.theory_registered.specs.Rows.{code_at, element-facts, no-element-facts, direction-facts, no-direction-facts}
use Rattle.theory_registered.specs.Columns.{row_at, Keeps, keeps-rise, code_here}

-- neither an element of the sheet nor a direction has the code
pub record Foreign (s : List ℕ) (c : ℕ) : Type 0 where
  pub element : (e : ℕ) → e < count_of s → code_at s e ≡ c → ⊥
  pub direction : (d : ℕ) → d < directions → code_up + d ≡ c → ⊥

module _ (s : List ℕ) (c : ℕ) (foreign : Foreign s c) where
  -- a direction is still to be laid, or what was laid last is not the code
  abbrev Fine : ℕ → ℕ → Type 0
  Fine d last = (d < directions) ⊎ (last ≡ c → ⊥)

  next-other : (i d last : ℕ) (element direction : Bool) → element_next s (count_of s) i d ≡ element → direction_next s (count_of s) i d ≡ direction → Fine d last
      → (next_row s (count_of s) i d last).code ≡ c → ⊥
  unfolding next_row listed_row
  next-other i d last true direction ee ed fine same = foreign.element i (element-facts s (count_of s) i d ee).0 (rw ee at same)
  next-other i d last false true ee ed fine same = foreign.direction d (direction-facts s (count_of s) i d ed).0 (rw (ee, ed) at same)
  next-other i d last false false ee ed (inl left) same =
      let g = no-direction-facts s (count_of s) i d ed left in
      let f = no-element-facts s (count_of s) i d ee g.0 in
      omega arith
  next-other i d last false false ee ed (inr other) same = other (rw (ee, ed) at same)

  rows_other : (k i d last : ℕ) → Fine d last → (j : ℕ) → j < k → (get_or (rows_from k s (count_of s) i d last) j (unlisted_row 0)).code ≡ c → ⊥
  unfolding rows_from
  rows_other zero i d last fine j short same = absurd (omega arith)
  rows_other (suc k) i d last fine zero short same = next-other i d last (element_next s (count_of s) i d) (direction_next s (count_of s) i d) refl refl fine same
  rows_other (suc k) i d last fine (suc j) short same =
      rows_other k _ _ _ (inr (next-other i d last (element_next s (count_of s) i d) (direction_next s (count_of s) i d) refl refl fine)) j (omega arith) same

  row_other : (j : ℕ) → j < places_per_pad → (row_at s j).code ≡ c → ⊥
  unfolding row_at rows_of
  row_other j short same =
      let left : 0 < directions = omega arith in
      rows_other places_per_pad 0 0 0 (inl left) j short same

  -- the code is not found
  pub not_found : (h : Hub) (p : ℕ) → p < pad_limit → sheet_refusal true s ≡ 0 → Keeps h p s → place_in h p c ≡ nowhere
  not_found h p stands taken keeps =
      place-is-scan h.codes p c stands (keeps-rise h p s taken keeps) ∙ by (scan-cases h.codes c places_per_pad (places_per_pad * p))
    where
      by : ((scan_of h.codes places_per_pad (places_per_pad * p) c ≡ nowhere) × Absent h.codes c (places_per_pad * p) places_per_pad)
          ⊎ First h.codes c (places_per_pad * p) places_per_pad (scan_of h.codes places_per_pad (places_per_pad * p) c)
          → scan_of h.codes places_per_pad (places_per_pad * p) c ≡ nowhere
      by (inl (nothing, absent)) = nothing
      by (inr first) =
          let from = first.from in
          let to = first.to in
          absurd
          (row_other (scan_of h.codes places_per_pad (places_per_pad * p) c - places_per_pad * p) (omega arith)
          (sym (code_here h p s keeps (scan_of h.codes places_per_pad (places_per_pad * p) c) from to) ∙ first.has))
