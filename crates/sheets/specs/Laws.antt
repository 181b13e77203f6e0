-- What a sheet or a rename list that is not refused has: its size, its count, its hats, elements that each keep to the rules, names that stand
-- once. Registration and rename go by these.
use Rattle.std.specs.Prelude.{◌≡◌, refl, Bool, true, false, cond, not, ◌&&◌, ◌||◌, ◌⊎◌, List, ℕ, zero, suc, ◌+◌, ◌*◌, ◌≤◌, ◌<◌, length, ℤ, pos, negsuc, eqb, ltb}
use Rattle.std.proofs.Common.{subst, true≢false, inl, inr, ⊎_elim, arith}
use Rattle.std.proofs.lemmas.Bool.{false≢true}
use Rattle.std.specs.Int.Signed.{lt_z}
use Rattle.std.proofs.Math.Dec.{leb}
use borrow.Author.Tests.{eqb-true, leb-true, ltb-false, lt-ltb, not-false}
use Rattle.numbers.specs.Constants.{within_of, whole_limit, deadzone_within_of}
use Rattle.rules.specs.declared.SheetElement.{SheetElement}
use Rattle.rules.specs.Names.{name_allowed, element_limit}
use Rattle.rules.specs.Forms.{opens}
use Rattle.rules.specs.Sheets.{sheet_opening, element_size, name_offset, element_button, element_axis, last_hats, element_of, hats_of, count_of, sheet_fits, is_zero, button_fits, axis_fits, element_fits, rises, elements_fit, partial_of, occurs_twice, sheet_refusal, names_fit, rename_list_refusal}

-- ---- tests taken apart

left : (a b : Bool) → a && b ≡ true → a ≡ true
left true b h = refl
left false b h = h

right : (a b : Bool) → a && b ≡ true → b ≡ true
right true b h = h
right false b h = absurd (false≢true h)

-- the one that holds of the two
either : (a b : Bool) → a || b ≡ true → (a ≡ true) ⊎ (b ≡ true)
either true b h = inl refl
either false b h = inr h

no_number : (n : ℕ) → suc n ≡ 0 → ⊥
no_number n h = omega arith

-- the three tests of a refusal that is 0
passes : (fits breaks twice : Bool) → ◌≡◌ {A = ℕ} (cond (not fits) 3 (cond breaks 4 (cond twice 5 0))) 0 → (fits ≡ true) × (breaks ≡ false) × (twice ≡ false)
passes false breaks twice h = absurd (no_number 2 h)
passes true true twice h = absurd (no_number 3 h)
passes true false true h = absurd (no_number 4 h)
passes true false false h = (refl, refl, refl)

neither : (a b : Bool) → a || not b ≡ false → (a ≡ false) × (b ≡ true)
neither true b h = absurd (true≢false h)
neither false true h = (refl, refl)
neither false false h = absurd (true≢false h)

-- ---- sheets

module _ (s : List ℕ) (h : sheet_fits s ≡ true) where
  pub sheet-size : length s ≡ sheet_opening + element_size * count_of s
  unfolding sheet_fits
  sheet-size = eqb-true _ _ (left (eqb (length s) (sheet_opening + element_size * count_of s)) (opens s 0 (length s) && leb (count_of s) element_limit) h)

  pub sheet-count : count_of s ≤ element_limit
  unfolding sheet_fits
  sheet-count =
      leb-true _ _
      (right (opens s 0 (length s)) (leb (count_of s) element_limit)
      (right (eqb (length s) (sheet_opening + element_size * count_of s)) (opens s 0 (length s) && leb (count_of s) element_limit) h))

-- what either call takes, the archived one takes
pub archived-takes : (archived : Bool) (s : List ℕ) → sheet_refusal archived s ≡ 0 → sheet_refusal true s ≡ 0
unfolding sheet_refusal
archived-takes true s h = h
archived-takes false s h =
    by (sheet_fits s) (ltb last_hats (hats_of s) || not (elements_fit s (count_of s) 0)) (partial_of (hats_of s))
    (occurs_twice s (sheet_opening + name_offset) element_size (count_of s) 0) h
  where
    by :
        (fits breaks partial twice : Bool) →
        ◌≡◌ {A = ℕ} (cond (not fits) 3 (cond breaks 4 (cond partial 29 (cond twice 5 0)))) 0 →
        ◌≡◌ {A = ℕ} (cond (not fits) 3 (cond breaks 4 (cond twice 5 0))) 0
    by false breaks partial twice h = h
    by true true partial twice h = h
    by true false true twice h = absurd (no_number 28 h)
    by true false false twice h = h

-- a sheet that is not refused
pub record Good (s : List ℕ) : Type 0 where
  pub fits : sheet_fits s ≡ true
  pub size : length s ≡ sheet_opening + element_size * count_of s
  pub few : count_of s ≤ element_limit
  pub hats : hats_of s ≤ last_hats
  pub keep : elements_fit s (count_of s) 0 ≡ true
  pub once : occurs_twice s (sheet_opening + name_offset) element_size (count_of s) 0 ≡ false

pub good : (s : List ℕ) → sheet_refusal true s ≡ 0 → Good s
unfolding sheet_refusal
good s h =
    let p = passes (sheet_fits s) (ltb last_hats (hats_of s) || not (elements_fit s (count_of s) 0)) (occurs_twice s (sheet_opening + name_offset) element_size (count_of s) 0) h in
    let q = neither (ltb last_hats (hats_of s)) (elements_fit s (count_of s) 0) p.1 in
    record {
      fits = p.0;
      size = sheet-size s p.0;
      few = sheet-count s p.0;
      hats = ltb-false _ _ q.0;
      keep = q.1;
      once = p.2;
    }

first-keeps : (s : List ℕ) (n i : ℕ) → elements_fit s (suc n) i ≡ true
    → (element_fits (element_of s i) ≡ true) × (rises s i ≡ true) × (elements_fit s n (i + 1) ≡ true)
unfolding elements_fit
first-keeps s n i h =
    let fits = element_fits (element_of s i) in
    let rest = elements_fit s n (i + 1) in
    let r = right fits (rises s i && rest) h in
    (left fits (rises s i && rest) h, left (rises s i) rest r, right (rises s i) rest r)

-- each of the elements keeps to its rules, and its code is above the one before it
pub element-keeps : (s : List ℕ) (n i k : ℕ) → elements_fit s n i ≡ true → k < n → (element_fits (element_of s (i + k)) ≡ true) × (rises s (i + k) ≡ true)
element-keeps s zero i k h l = absurd (omega arith)
element-keeps s (suc n) i zero h l =
    let e : i ≡ i + 0 = omega arith in
    let p = first-keeps s n i h in
    (subst (λ (j : ℕ). element_fits (element_of s j) ≡ true) e p.0, subst (λ (j : ℕ). rises s j ≡ true) e p.1)
element-keeps s (suc n) i (suc k) h l =
    let e : i + 1 + k ≡ i + suc k = omega arith in
    let m : k < n = omega arith in
    let p = element-keeps s n (i + 1) k (first-keeps s n i h).2 m in
    (subst (λ (j : ℕ). element_fits (element_of s j) ≡ true) e p.0, subst (λ (j : ℕ). rises s j ≡ true) e p.1)

pub element-fits : (s : List ℕ) → sheet_refusal true s ≡ 0 → (i : ℕ) → i < count_of s → element_fits (element_of s i) ≡ true
element-fits s h i l =
    let e : 0 + i ≡ i = omega arith in
    subst (λ (j : ℕ). element_fits (element_of s j) ≡ true) e (element-keeps s (count_of s) 0 i (good s h).keep l).0

-- ---- what an element that keeps to its rules has

zero-within : (z : ℤ) → is_zero z ≡ true → within_of z ≡ true
unfolding within_of
zero-within (pos n) h = let e = eqb-true n 0 h in let l : n < whole_limit = omega arith in lt-ltb n whole_limit l
zero-within (negsuc n) h = absurd (false≢true h)

-- the parts of the two definitions
record ButtonKeeps (e : SheetElement) : Type 0 where
  pub min : is_zero e.min ≡ true
  pub max : is_zero e.max ≡ true
  pub deadzone : e.deadzone ≡ 0

pub record AxisKeeps (e : SheetElement) : Type 0 where
  pub min : within_of e.min ≡ true
  pub max : within_of e.max ≡ true
  pub rising : lt_z e.min e.max ≡ true
  pub deadzone : deadzone_within_of e.deadzone ≡ true

button-keeps : (e : SheetElement) → button_fits e ≡ true → ButtonKeeps e
unfolding button_fits
button-keeps e h =
    let min = is_zero e.min in
    let max = is_zero e.max in
    let none = eqb e.deadzone 0 in
    let r = right min (max && none) h in
    record { min = left min (max && none) h; max = left max none r; deadzone = eqb-true _ _ (right max none r) }

pub axis-keeps : (e : SheetElement) → axis_fits e ≡ true → AxisKeeps e
unfolding axis_fits
axis-keeps e h =
    let min = within_of e.min in
    let max = within_of e.max in
    let rising = lt_z e.min e.max in
    let dead = deadzone_within_of e.deadzone in
    let r = right min (max && (rising && dead)) h in
    let q = right max (rising && dead) r in
    record {
      min = left min (max && (rising && dead)) h;
      max = left max (rising && dead) r;
      rising = left rising dead q;
      deadzone = right rising dead q;
    }

module _ (e : SheetElement) (fits : element_fits e ≡ true) where
  parts : (name_allowed e.name ≡ true) × ((eqb e.kind element_button && button_fits e) || (eqb e.kind element_axis && axis_fits e) ≡ true)
  unfolding element_fits
  parts =
      let kind = (eqb e.kind element_button && button_fits e) || (eqb e.kind element_axis && axis_fits e) in
      (left (name_allowed e.name) kind fits, right (name_allowed e.name) kind fits)

  pub name-allowed : name_allowed e.name ≡ true
  name-allowed = parts.0

  -- a button with its rules kept, or an axis
  pub sort : ((e.kind ≡ element_button) × (button_fits e ≡ true)) ⊎ ((e.kind ≡ element_axis) × (axis_fits e ≡ true))
  sort =
      ⊎_elim
      (λ h. inl (eqb-true _ _ (left (eqb e.kind element_button) (button_fits e) h), right (eqb e.kind element_button) (button_fits e) h))
      (λ h. inr (eqb-true _ _ (left (eqb e.kind element_axis) (axis_fits e) h), right (eqb e.kind element_axis) (axis_fits e) h))
      (either (eqb e.kind element_button && button_fits e) (eqb e.kind element_axis && axis_fits e) parts.1)

  -- of either kind: a button's are 0
  pub min-within : within_of e.min ≡ true
  min-within = ⊎_elim (λ h. zero-within e.min (button-keeps e h.1).min) (λ h. (axis-keeps e h.1).min) sort

  pub max-within : within_of e.max ≡ true
  max-within = ⊎_elim (λ h. zero-within e.max (button-keeps e h.1).max) (λ h. (axis-keeps e h.1).max) sort

-- ---- rename lists

pub record GoodList (s : List ℕ) (count : ℕ) : Type 0 where
  pub size : length s ≡ count
  pub allowed : names_fit s count 0 ≡ true
  pub once : occurs_twice s 0 1 count 0 ≡ false

pub good-list : (s : List ℕ) (count : ℕ) → rename_list_refusal s count ≡ 0 → GoodList s count
unfolding rename_list_refusal
good-list s count h =
    let p = passes (eqb (length s) count) (not (names_fit s count 0)) (occurs_twice s 0 1 count 0) h in
    record { size = eqb-true _ _ p.0; allowed = not-false _ p.1; once = p.2 }
