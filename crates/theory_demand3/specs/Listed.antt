-- What a sheet reads is what the hub keeps of the pad that was registered with it: a listed code has its element's kind, name and limits, a code that is not
-- listed has none of these, and the pad converts where the sheet's elements say so.
use Rattle.std.specs.Prelude.{ℕ, zero, suc, ◌+◌, ◌<◌, ◌≤◌, Bool, true, false, List, ◌≡◌, eqb, get_or}
use Rattle.std.proofs.Common.{◌∙◌, ap, arith, eqb-true}
use Rattle.std.proofs.Math.Path.{refl, subst}
use Rattle.std.proofs.lemmas.Bool.{eqb-false}
use Rattle.rules.specs.declared.Hub.{Hub}
use Rattle.rules.specs.declared.SheetElement.{SheetElement}
use Rattle.rules.specs.Names.{pad_limit, nowhere, no_name}
use Rattle.rules.specs.Sheets.{count_of, element_of}
use Rattle.rules.specs.Places.{listed_row}
use Rattle.rules.specs.Hub.{place_in, kind_at, element_at}
use Rattle.theory_registered.specs.Found as kept
use Rattle.theory_registered.specs.Listing.{Bare, bare}
use Rattle.theory_registered.specs.Pads.{Kept}
use Rattle.theory_demand3.specs.Demand3.{elements_from, sheet_read, Lookup, listed, unlisted, lookup, lookup_name, lookup_element}

-- ---- the element that a lookup finds

pub record Among (s : List ℕ) (n i c : ℕ) (e : SheetElement) : Type 0 where
  pub number : ℕ
  pub from : i ≤ number
  pub to : number < i + n
  pub is : element_of s number ≡ e
  pub code : (element_of s number).code ≡ c

pub lookup-among : (n : ℕ) (s : List ℕ) (i c : ℕ) (e : SheetElement) → lookup c (elements_from n s i) ≡ listed e → Among s n i c e
unfolding lookup elements_from
lookup-among zero s i c e found = absurd (let z : ◌≡◌ {A = ℕ} 0 1 = cc in omega arith)
lookup-among (suc n) s i c e found = by (eqb (element_of s i).code c) refl (λ x. lookup-among n s (i + 1) c e x)
  where
    by : (here : Bool) → eqb (element_of s i).code c ≡ here → (lookup c (elements_from n s (i + 1)) ≡ listed e → Among s n (i + 1) c e) → Among s (suc n) i c e
    by true t rest =
        let same : listed (element_of s i) ≡ listed e = rw t at found in
        record { number = i; from = omega arith; to = omega arith; is = cc; code = eqb-true (element_of s i).code c t }
    by false t rest =
        let r = rest (rw t at found) in
        let from = r.from in
        let to = r.to in
        record { number = r.number; from = omega arith; to = omega arith; is = r.is; code = r.code }

pub lookup-none : (n : ℕ) (s : List ℕ) (i c : ℕ) → lookup c (elements_from n s i) ≡ unlisted → (j : ℕ) → i ≤ j → j < i + n → (element_of s j).code ≡ c → ⊥
unfolding lookup elements_from
lookup-none zero s i c none j from to same = absurd (omega arith)
lookup-none (suc n) s i c none j from to same = by (eqb (element_of s i).code c) (eqb i j) refl refl (λ x past. lookup-none n s (i + 1) c x j past (omega arith) same)
  where
    by : (here at : Bool) → eqb (element_of s i).code c ≡ here → eqb i j ≡ at → (lookup c (elements_from n s (i + 1)) ≡ unlisted → i + 1 ≤ j → ⊥) → ⊥
    by true at t e rest =
        let same : listed (element_of s i) ≡ unlisted = rw t at none in
        let z : ◌≡◌ {A = ℕ} 0 1 = cc in
        omega arith
    by false true t e rest = eqb-false (element_of s i).code c t (ap (λ (k : ℕ). (element_of s k).code) (eqb-true i j e) ∙ same)
    by false false t e rest = let other = eqb-false i j e in rest (rw t at none) (omega arith)

-- ---- what is kept

-- what the hub keeps of a code is an element's
pub record Holds (h : Hub) (p c : ℕ) (e : SheetElement) : Type 0 where
  pub found : place_in h p c < nowhere
  pub kind : kind_at h (place_in h p c) ≡ e.kind
  pub name : get_or h.names (place_in h p c) no_name ≡ e.name
  pub element : element_at h (place_in h p c) ≡ (listed_row e).element
  pub code : e.code ≡ c

module _ (h : Hub) (p : ℕ) (b : List ℕ) (stands : p < pad_limit) (k : Kept h p b) where
  abbrev elements : List SheetElement
  elements = (sheet_read b).elements

  pub listed-holds : (c : ℕ) (e : SheetElement) → lookup c elements ≡ listed e → Holds h p c e
  unfolding sheet_read listed_row
  listed-holds c e found =
      let a = lookup-among (count_of b) b 0 c e found in
      let to = a.to in
      let l = kept.listed h p b stands k.taken k.keeps a.number (omega arith) in
      by (element_of b a.number) a.is a.code l
    where
      by : (d : SheetElement) → d ≡ e → d.code ≡ c → kept.Listed h p d → Holds h p c e
      by d is code l =
          subst (Holds h p c) is
          (subst (λ (x : ℕ). Holds h p x d) code
          (record { found = l.found; kind = l.kind; name = l.name; element = l.element; code = refl }))

  pub unlisted-bare : (c : ℕ) → lookup c elements ≡ unlisted → place_in h p c < nowhere → Bare h (place_in h p c)
  unfolding sheet_read
  unlisted-bare c none found = bare h p b k.keeps c (λ e short same. lookup-none (count_of b) b 0 c none e (omega arith) (omega arith) same) found

  -- the name and the limits of a code
  pub name-kept : (c : ℕ) → place_in h p c < nowhere → get_or h.names (place_in h p c) no_name ≡ lookup_name (lookup c elements)
  name-kept c found = by (lookup c elements) refl
    where
      by : (l : Lookup) → lookup c elements ≡ l → get_or h.names (place_in h p c) no_name ≡ lookup_name l
      by (listed e) is = (listed-holds c e is).name
      by unlisted is = (unlisted-bare c is found).name

  pub element-kept : (c : ℕ) → place_in h p c < nowhere → element_at h (place_in h p c) ≡ lookup_element (lookup c elements)
  element-kept c found = by (lookup c elements) refl
    where
      by : (l : Lookup) → lookup c elements ≡ l → element_at h (place_in h p c) ≡ lookup_element l
      by (listed e) is = (listed-holds c e is).element
      by unlisted is = (unlisted-bare c is found).element
