-- Whether a pad converts, told over its sheet's elements, is what the hub keeps: a direction has a name where a listed element has its code and a name, and some
-- place is named DPadRight where a listed element is.
use Rattle.std.specs.Prelude.{ℕ, zero, suc, ◌+◌, ◌-◌, ◌*◌, ◌<◌, ◌≤◌, Bool, not, ◌&&◌, ◌||◌, List, ◌⊎◌, ◌≡◌, ltb}
use Rattle.std.proofs.Math.Bool.{true, false}
use Rattle.std.proofs.Common.{inl, inr, ◌∙◌}
use Rattle.std.proofs.Math.Path.{refl, sym, ap}
use Rattle.std.proofs.Math.Dec.{eqb}
use Rattle.std.proofs.Math.ListN.{get_or}
use native.Mathlib.Omega.{arith}
use borrow.Author.Tests.{eqb-true, eqb-false, eq-eqb, ne_eqb, ltb-true, ltb-false, lt-ltb}
use Rattle.rules.specs.declared.Hub.{Hub}
use Rattle.rules.specs.declared.Row.{Row}
use Rattle.rules.specs.declared.SheetElement.{SheetElement}
use Rattle.rules.specs.Names.{pad_limit, places_per_pad, nowhere, no_name, dpad_right, code_up, code_down, code_left, code_right}
use Rattle.rules.specs.Sheets.{hats_of, count_of, element_of, last_hats}
use Rattle.rules.specs.Places.{scan_of, named_of, unlisted_row, code_named, direction_named, converts_of}
use Rattle.rules.specs.Hub.{place_in}
use Rattle.rules.specs.Calls.{row_name}
use Rattle.pad.specs.Lookup.{place-stands, named-stands, named_small, Absent, First, scan-cases}
use Rattle.theory_registered.specs.Found as kept
use Rattle.theory_registered.specs.Columns.{row_at, inside-any}
use Rattle.theory_registered.specs.Directions.{direction-found}
use Rattle.theory_registered.specs.Listing.{Of, row_of, row-name}
use Rattle.theory_registered.specs.Pads.{Desk, Kept}
use Rattle.theory_history.specs.Rule.{is_direction}
use Rattle.theory_history.specs.Lemmas.Truth.{false-true, true-false}
use Rattle.theory_demand3.specs.Demand3.{elements_from, sheet_read, Lookup, listed, unlisted, lookup, lookup_name, speaks_of_hats, converts}
use Rattle.theory_demand3.specs.Listed.{lookup-among, name-kept}

-- what holds of the four directions holds of any
pub each-direction : (P : ℕ → Type 0) → P code_up → P code_down → P code_left → P code_right → (c : ℕ) → is_direction c ≡ true → P c
unfolding is_direction
each-direction P up down left right c is = by (eqb c code_up) (eqb c code_down) (eqb c code_left) (eqb c code_right) refl refl refl refl is
  where
    by : (a b d e : Bool) → eqb c code_up ≡ a → eqb c code_down ≡ b → eqb c code_left ≡ d → eqb c code_right ≡ e → (a || (b || (d || e))) ≡ true → P c
    by true b d e ea eb ed ee is = rw (eqb-true c code_up ea) up
    by false true d e ea eb ed ee is = rw (eqb-true c code_down eb) down
    by false false true e ea eb ed ee is = rw (eqb-true c code_left ed) left
    by false false false true ea eb ed ee is = rw (eqb-true c code_right ee) right
    by false false false false ea eb ed ee is = false-true is

-- ---- elements that speak of hats

abbrev marks : SheetElement → Bool
marks e = (is_direction e.code && not (eqb e.name no_name)) || eqb e.name dpad_right

record Marked (s : List ℕ) (n i : ℕ) : Type 0 where
  number : ℕ
  to : number < i + n
  is : marks (element_of s number) ≡ true

some-marked : (n : ℕ) (s : List ℕ) (i : ℕ) → speaks_of_hats (elements_from n s i) ≡ true → Marked s n i
unfolding speaks_of_hats elements_from
some-marked zero s i does = false-true does
some-marked (suc n) s i does = by (marks (element_of s i)) refl does (λ x. some-marked n s (i + 1) x)
  where
    by : (here : Bool) → marks (element_of s i) ≡ here → (here || speaks_of_hats (elements_from n s (i + 1))) ≡ true
        → (speaks_of_hats (elements_from n s (i + 1)) ≡ true → Marked s n (i + 1)) → Marked s (suc n) i
    by true e does rest = record { number = i; to = omega arith; is = e }
    by false e does rest =
        let r = rest does in
        let to = r.to in
        record { number = r.number; to = omega arith; is = r.is }

none-marked : (n : ℕ) (s : List ℕ) (i : ℕ) → speaks_of_hats (elements_from n s i) ≡ false → (j : ℕ) → i ≤ j → j < i + n → marks (element_of s j) ≡ false
unfolding speaks_of_hats elements_from
none-marked zero s i none j from to = absurd (omega arith)
none-marked (suc n) s i none j from to = by (marks (element_of s i)) (eqb i j) refl refl none (λ x past. none-marked n s (i + 1) x j past (omega arith))
  where
    by : (here at : Bool) → marks (element_of s i) ≡ here → eqb i j ≡ at → (here || speaks_of_hats (elements_from n s (i + 1))) ≡ false
        → (speaks_of_hats (elements_from n s (i + 1)) ≡ false → i + 1 ≤ j → marks (element_of s j) ≡ false) → marks (element_of s j) ≡ false
    by true at e same none rest = true-false none
    by false true e same none rest = ap (λ (k : ℕ). marks (element_of s k)) (sym (eqb-true i j same)) ∙ e
    by false false e same none rest =
        let other = eqb-false i j same in
        rest none (omega arith)

-- ---- what is kept

module _ (h : Hub) (desk : Desk h) (p : ℕ) (b : List ℕ) (stands : p < pad_limit) (k : Kept h p b) where
  abbrev elements : List SheetElement
  elements = (sheet_read b).elements

  abbrev named : ℕ → Bool
  named c = code_named h.codes h.names p c

  -- a direction that has a name
  some-direction : (c : ℕ) → is_direction c ≡ true → named c ≡ true → direction_named h.codes h.names p ≡ true
  unfolding direction_named
  some-direction c is does =
      each-direction (λ (d : ℕ). named d ≡ true → (named code_right || (named code_left || (named code_down || named code_up))) ≡ true)
      (λ up. any (named code_right) (named code_left) (named code_down) up)
      (λ down. rw down (many (named code_right) (named code_left)))
      (λ left. rw left (any-two (named code_right)))
      (λ right. rw right) c is does
    where
      any-two : (a : Bool) → (a || true) ≡ true
      any-two true = refl
      any-two false = refl

      many : (a b : Bool) → (a || (b || true)) ≡ true
      many true b = refl
      many false b = any-two b

      any : (a b d : Bool) {e : Bool} → e ≡ true → (a || (b || (d || e))) ≡ true
      any true b d up = refl
      any false true d up = refl
      any false false true up = refl
      any false false false up = up

  -- a place that is named DPadRight
  right-found : (e : SheetElement) → kept.Listed h p e → e.name ≡ dpad_right → named_of h.names p dpad_right < nowhere
  unfolding named_of
  right-found e l is =
      let at = place_in h p e.code in
      let own = (place-stands h.codes p e.code l.found).own in
      let has : get_or h.names at 0 ≡ dpad_right = inside-any h.names at 0 no_name (rw desk.sized.names l.found) ∙ (l.name ∙ is) in
      rw (lt-ltb p pad_limit stands) (by at (omega arith) (omega arith) has (scan-cases h.names dpad_right places_per_pad (places_per_pad * p)))
    where
      by : (at : ℕ) → places_per_pad * p ≤ at → at < places_per_pad * p + places_per_pad → get_or h.names at 0 ≡ dpad_right
          → ((scan_of h.names places_per_pad (places_per_pad * p) dpad_right ≡ nowhere) × Absent h.names dpad_right (places_per_pad * p) places_per_pad)
          ⊎ First h.names dpad_right (places_per_pad * p) places_per_pad (scan_of h.names places_per_pad (places_per_pad * p) dpad_right)
          → scan_of h.names places_per_pad (places_per_pad * p) dpad_right < nowhere
      by at from to has (inl (none, absent)) = absurd (absent.none at from to has)
      by at from to has (inr first) =
          let inside = first.to in
          omega arith

  -- a listed element that speaks of hats
  marked-named : (e : SheetElement) → kept.Listed h p e → (direction name right : Bool) → is_direction e.code ≡ direction → eqb e.name no_name ≡ name
      → eqb e.name dpad_right ≡ right → ((direction && not name) || right) ≡ true
      → (not (direction_named h.codes h.names p) && eqb (named_of h.names p dpad_right) nowhere) ≡ false
  unfolding code_named
  marked-named e l true false right d n r does = rw (some-direction e.code d (rw (l.name, n)))
  marked-named e l true true true d n r does = absurd (clash e.name (eqb-true e.name no_name n) (eqb-true e.name dpad_right r))
    where
      clash : (n : ℕ) → n ≡ no_name → n ≡ dpad_right → ⊥
      clash n a b = omega arith
  marked-named e l true true false d n r does = false-true does
  marked-named e l false name false d n r does = false-true does
  marked-named e l false name true d n r does =
      let found = right-found e l (eqb-true e.name dpad_right r) in
      falls (not (direction_named h.codes h.names p)) (ne_eqb (named_of h.names p dpad_right) nowhere (λ same. omega arith))
    where
      falls : (a : Bool) {b : Bool} → b ≡ false → (a && b) ≡ false
      falls true e = e
      falls false e = refl

  -- ---- where no element does

  module _ (none : (j : ℕ) → j < count_of b → marks (element_of b j) ≡ false) where
    unnamed-by : (direction name right : Bool) → direction ≡ true → ((direction && not name) || right) ≡ false → name ≡ true
    unnamed-by true true right d m = refl
    unnamed-by true false right d m = true-false m
    unnamed-by false name right d m = false-true d

    no-name : (c : ℕ) → is_direction c ≡ true → (l : Lookup) → lookup c elements ≡ l → lookup_name l ≡ no_name
    unfolding sheet_read
    no-name c is (listed e) found =
        let a = lookup-among (count_of b) b 0 c e found in
        let to = a.to in
        let d = element_of b a.number in
        let direction : is_direction d.code ≡ true = ap is_direction a.code ∙ is in
        let blank = unnamed-by (is_direction d.code) (eqb d.name no_name) (eqb d.name dpad_right) direction (none a.number (omega arith)) in
        sym (ap (λ (x : SheetElement). x.name) a.is) ∙ eqb-true d.name no_name blank
    no-name c is unlisted found = refl

    unnamed : (c : ℕ) → is_direction c ≡ true → place_in h p c < nowhere → named c ≡ false
    unfolding code_named
    unnamed c is found = rw (name-kept h p b stands k c found, no-name c is (lookup c elements) refl)

    no-direction : direction_named h.codes h.names p ≡ false
    unfolding direction_named is_direction
    no-direction =
        rw (
          unnamed code_right refl (direction-found h p b stands k.taken k.keeps 3 (omega arith)),
          unnamed code_left refl (direction-found h p b stands k.taken k.keeps 2 (omega arith)),
          unnamed code_down refl (direction-found h p b stands k.taken k.keeps 1 (omega arith)),
          unnamed code_up refl (direction-found h p b stands k.taken k.keeps 0 (omega arith)),
        )

    abbrev right : ℕ
    right = named_of h.names p dpad_right

    wrong : right < nowhere → ⊥
    wrong found =
        let st = named-stands h.names p dpad_right found in
        let own = st.own in
        let at : places_per_pad * p + (right - places_per_pad * p) ≡ right = omega arith in
        let name : (row_at b (right - places_per_pad * p)).name ≡ dpad_right =
        sym (k.keeps.names (right - places_per_pad * p) (omega arith))
        ∙ (ap (λ (i : ℕ). get_or h.names i no_name) at ∙ (inside-any h.names right no_name 0 (rw desk.sized.names found) ∙ st.has)) in
        by (row_at b (right - places_per_pad * p)) name (row_of b (right - places_per_pad * p))
      where
        either : (a : Bool) {c : Bool} → c ≡ true → (a || c) ≡ true
        either true e = refl
        either false e = e

        clash : ◌≡◌ {A = ℕ} dpad_right no_name → ⊥
        clash e = omega arith

        by : (row : Row) → row.name ≡ dpad_right → (row ≡ unlisted_row row.code) ⊎ Of b (count_of b) row → ⊥
        by row name (inl bare) = clash (sym name ∙ ap row_name bare)
        by row name (inr o) =
            let e = element_of b o.element in
            let is : e.name ≡ dpad_right = sym (row-name b (count_of b) row o) ∙ name in
            true-false (sym (either (is_direction e.code && not (eqb e.name no_name)) (eq-eqb e.name dpad_right is)) ∙ none o.element o.inside)

    no-right : right ≡ nowhere
    no-right = by (ltb (named_of h.names p dpad_right) nowhere) refl
      where
        by : (found : Bool) → ltb (named_of h.names p dpad_right) nowhere ≡ found → named_of h.names p dpad_right ≡ nowhere
        by true f = absurd (wrong (ltb-true (named_of h.names p dpad_right) nowhere f))
        by false f =
            let past = ltb-false (named_of h.names p dpad_right) nowhere f in
            omega (arith, named_small h.names p dpad_right)

  -- "A pad converts if hats is 15, or hats is 0 and no direction code is named and no element is named DPadRight"
  spoken : (does : Bool) → speaks_of_hats elements ≡ does → (not (direction_named h.codes h.names p) && eqb (named_of h.names p dpad_right) nowhere) ≡ not does
  unfolding sheet_read
  spoken true e =
      let m = some-marked (count_of b) b 0 e in
      let to = m.to in
      marked-named (element_of b m.number) (kept.listed h p b stands k.taken k.keeps m.number (omega arith))
      (is_direction (element_of b m.number).code) (eqb (element_of b m.number).name no_name) (eqb (element_of b m.number).name dpad_right) refl refl refl m.is
  spoken false e =
      let none : (j : ℕ) → j < count_of b → marks (element_of b j) ≡ false = λ j short. none-marked (count_of b) b 0 e j (omega arith) (omega arith) in
      rw (no-direction none, eq-eqb (named_of h.names p dpad_right) nowhere (no-right none))

  pub converts-kept : get_or h.converts p false ≡ converts (sheet_read b)
  unfolding converts converts_of sheet_read
  converts-kept =
      k.converts
      ∙ ap (λ (x : Bool). eqb (hats_of b) last_hats || (eqb (hats_of b) 0 && x)) (spoken (speaks_of_hats elements) refl)
