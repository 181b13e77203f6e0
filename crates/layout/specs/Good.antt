-- What a sheet that is not refused has: its size, at most 48 elements, and elements that fit. By the order of the refusals.
use Rattle.std.specs.Prelude.{ℕ, zero, suc, ◌+◌, ◌-◌, ◌*◌, ◌<◌, ◌≤◌, Bool, true, false, cond, not, ◌&&◌, ◌||◌, List, ◌≡◌, refl, eqb, ltb, leb, length}
use Rattle.std.proofs.Common.{subst, arith, eqb-true, leb-true, ltb-true, ltb-false, ne_eqb}
use Rattle.rules.specs.declared.SheetElement.{SheetElement}
use Rattle.rules.specs.Names.{element_limit, name_allowed}
use Rattle.rules.specs.Forms.{opens}
use Rattle.rules.specs.Sheets.{sheet_opening, element_size, element_button, element_axis, last_hats, name_offset, element_of, hats_of, count_of, sheet_fits, button_fits, axis_fits, element_fits, rises, elements_fit, occurs_twice, sheet_refusal}

pub record Good (s : List ℕ) (n : ℕ) : Type 0 where
  pub size : length s ≡ sheet_opening + element_size * n
  pub few : n ≤ element_limit
  pub fits : (i : ℕ) → i < n → element_fits (element_of s i) ≡ true
  pub rising : (i : ℕ) → i + 1 < n → (element_of s i).code < (element_of s (i + 1)).code

-- ---- of two tests that both pass

both_left : (a b : Bool) → (a && b) ≡ true → a ≡ true
both_left true b e = refl
both_left false b e = e

both_right : (a b : Bool) → (a && b) ≡ true → b ≡ true
both_right true b e = e
both_right false b e = let z : ◌≡◌ {A = ℕ} 0 1 = cc in absurd (omega arith)

-- ---- the refusals in their order

not-refused : (size many elements twice : Bool) → ◌≡◌ {A = ℕ} (cond (not size) 3 (cond (many || not elements) 4 (cond twice 5 0))) 0
    → (size ≡ true) × (elements ≡ true)
not-refused true false true twice e = (refl, refl)
not-refused true true elements twice e = absurd (omega arith)
not-refused true false false twice e = absurd (omega arith)
not-refused false many elements twice e = absurd (omega arith)

-- what is kept of each element: it fits, and its code is above the one before it
abbrev Kept : List ℕ → ℕ → Type 0
Kept s i = (element_fits (element_of s i) ≡ true) × (rises s i ≡ true)

at-or-past : (s : List ℕ) (k i : ℕ) → Kept s k → (k < i → Kept s i) → (later : Bool) → ltb k i ≡ later → k ≤ i → Kept s i
at-or-past s k i here rest true e from = rest (ltb-true k i e)
at-or-past s k i here rest false e from =
    let most = ltb-false k i e in
    let at : k ≡ i = omega arith in
    subst (Kept s) at here

kept_at : (s : List ℕ) (n k : ℕ) → elements_fit s n k ≡ true → (i : ℕ) → k ≤ i → i < k + n → Kept s i
unfolding elements_fit
kept_at s zero k e i from to = absurd (omega arith)
kept_at s (suc n) k e i from to =
    let past_first = both_right (element_fits (element_of s k)) (rises s k && elements_fit s n (k + 1)) e in
    at-or-past s k i
    (both_left (element_fits (element_of s k)) (rises s k && elements_fit s n (k + 1)) e, both_left (rises s k) (elements_fit s n (k + 1)) past_first)
    (λ past. kept_at s n (k + 1) (both_right (rises s k) (elements_fit s n (k + 1)) past_first) i (omega arith) (omega arith))
    (ltb k i) refl from

above : (s : List ℕ) (i : ℕ) → rises s (i + 1) ≡ true → (element_of s i).code < (element_of s (i + 1)).code
unfolding rises
above s i e =
    let later : i + 1 ≡ 0 → ⊥ = λ z. omega arith in
    let before : i + 1 - 1 ≡ i = omega arith in
    ltb-true (element_of s i).code (element_of s (i + 1)).code (rw (ne_eqb (i + 1) 0 later, before) at e)

pub good : (s : List ℕ) → sheet_refusal true s ≡ 0 → Good s (count_of s)
unfolding sheet_refusal sheet_fits
good s e =
    let parts =
    not-refused (sheet_fits s) (ltb last_hats (hats_of s)) (elements_fit s (count_of s) 0)
    (occurs_twice s (sheet_opening + name_offset) element_size (count_of s) 0) e in
    let right = both_right (eqb (length s) (sheet_opening + element_size * count_of s)) (opens s 0 (length s) && leb (count_of s) element_limit) parts.0 in
    record {
      size =
          eqb-true (length s) (sheet_opening + element_size * count_of s)
          (both_left (eqb (length s) (sheet_opening + element_size * count_of s)) (opens s 0 (length s) && leb (count_of s) element_limit) parts.0);
      few = leb-true (count_of s) element_limit (both_right (opens s 0 (length s)) (leb (count_of s) element_limit) right);
      fits = λ i short. (kept_at s (count_of s) 0 parts.1 i (omega arith) (omega arith)).0;
      rising = λ i short. above s i (kept_at s (count_of s) 0 parts.1 (i + 1) (omega arith) (omega arith)).1;
    }

-- ---- an axis element

-- an element that fits and is no button is an axis that fits
pub axis-fits : (e : SheetElement) → element_fits e ≡ true → (e.kind ≡ element_button → ⊥) → axis_fits e ≡ true
unfolding element_fits
axis-fits e fits other =
    by (eqb e.kind element_button) (ne_eqb e.kind element_button other)
    (both_right (name_allowed e.name) ((eqb e.kind element_button && button_fits e) || (eqb e.kind element_axis && axis_fits e)) fits)
  where
    by : (button : Bool) → button ≡ false → ((button && button_fits e) || (eqb e.kind element_axis && axis_fits e)) ≡ true → axis_fits e ≡ true
    by true other either = let z : ◌≡◌ {A = ℕ} 0 1 = cc in absurd (omega arith)
    by false other either = both_right (eqb e.kind element_axis) (axis_fits e) either
