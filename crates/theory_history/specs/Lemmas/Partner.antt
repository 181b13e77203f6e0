-- The partner of an axis, looked up by its name, has a code whose place has that name: a place with a name is a listed element's, and a listed code is found
-- where it stands. So a clearing event is of an axis.
use Rattle.std.specs.Prelude.{ℕ, ◌+◌, ◌-◌, ◌*◌, ◌<◌, Bool, true, false, cond, List, ◌⊎◌, ◌≡◌, refl, eqb, ltb, get_or}
use Rattle.std.proofs.Common.{inl, inr, sym, ◌∙◌, ap, arith, ltb-true, eqb-true}
use Rattle.std.proofs.lemmas.Bool.{eqb-false}
use Rattle.rules.specs.declared.Hub.{Hub}
use Rattle.rules.specs.declared.Row.{Row}
use Rattle.rules.specs.Names.{pad_limit, places_per_pad, nowhere, no_name, is_axis, partner_of, left_stick_x, left_stick_y, right_stick_x, right_stick_y, dpad_x, dpad_y}
use Rattle.rules.specs.declared.SheetElement.{SheetElement}
use Rattle.rules.specs.Sheets.{count_of, element_of, element_button, element_axis, button_fits, axis_fits, sheet_refusal}
use Rattle.rules.specs.Places.{place_of, named_of, unlisted_row}
use Rattle.rules.specs.Calls.{row_name}
use Rattle.pad.specs.Lookup.{named-stands, place-stands}
use Rattle.sheets.specs.Laws.{element-fits, sort}
use Rattle.theory_registered.specs.Columns.{row_at, inside-any}
use Rattle.theory_registered.specs.Found.{listed}
use Rattle.theory_registered.specs.Listing.{Of, row_of, row-code, row-kind, row-name}
use Rattle.theory_registered.specs.Pads.{Desk}
use Rattle.theory_history.specs.Lemmas.Waits.{sheet_of, axial_at}
use Rattle.theory_history.specs.Lemmas.Truth.{true-false}

module _ (h : Hub) (desk : Desk h) (p : ℕ) (old : p < h.pads) (n : ℕ) (some : n ≡ no_name → ⊥) where
  abbrev place : ℕ
  place = named_of h.names p n

  pub named-place : place < nowhere → get_or h.names (place_of h.codes p (get_or h.codes place 0)) no_name ≡ n
  named-place found =
      let st = named-stands h.names p n found in
      let own = st.own in
      let w = desk.sheets p old in
      let few = desk.few in
      let stands : p < pad_limit = omega arith in
      let at : places_per_pad * p + (place - places_per_pad * p) ≡ place = omega arith in
      let j : place - places_per_pad * p < places_per_pad = omega arith in
      let name : (row_at w.sheet (place - places_per_pad * p)).name ≡ n =
      sym (w.kept.keeps.names (place - places_per_pad * p) j)
      ∙ (ap (λ (i : ℕ). get_or h.names i no_name) at ∙ (inside-any h.names place no_name 0 (rw desk.sized.names found) ∙ st.has)) in
      let code : get_or h.codes place 0 ≡ (row_at w.sheet (place - places_per_pad * p)).code =
      sym (ap (λ (i : ℕ). get_or h.codes i 0) at) ∙ w.kept.keeps.codes (place - places_per_pad * p) j in
      by stands name code (row_of w.sheet (place - places_per_pad * p))
    where
      by : p < pad_limit → (row_at (desk.sheets p old).sheet (place - places_per_pad * p)).name ≡ n
          → get_or h.codes place 0 ≡ (row_at (desk.sheets p old).sheet (place - places_per_pad * p)).code
          → (row_at (desk.sheets p old).sheet (place - places_per_pad * p) ≡ unlisted_row (row_at (desk.sheets p old).sheet (place - places_per_pad * p)).code)
          ⊎ Of (desk.sheets p old).sheet (count_of (desk.sheets p old).sheet) (row_at (desk.sheets p old).sheet (place - places_per_pad * p))
          → get_or h.names (place_of h.codes p (get_or h.codes place 0)) no_name ≡ n
      by stands name code (inl none) = absurd (some (sym name ∙ ap row_name none))
      by stands name code (inr o) =
          let w = desk.sheets p old in
          let l = listed h p w.sheet stands w.kept.taken w.kept.keeps o.element o.inside in
          let c : get_or h.codes place 0 ≡ (element_of w.sheet o.element).code = code ∙ row-code w.sheet (count_of w.sheet) _ o in
          let m : (element_of w.sheet o.element).name ≡ n = sym (row-name w.sheet (count_of w.sheet) _ o) ∙ name in
          rw c (l.name ∙ m)

-- a place that the sheet does not list has no name
pub unlisted-name : (h : Hub) → Desk h → (p : ℕ) → p < h.pads → (c : ℕ) → place_of h.codes p c < nowhere → get_or h.kinds (place_of h.codes p c) 0 ≡ 0
    → get_or h.names (place_of h.codes p c) no_name ≡ no_name
unlisted-name h desk p old c found none =
    let k = place_of h.codes p c in
    let own = (place-stands h.codes p c found).own in
    let w = desk.sheets p old in
    let at : places_per_pad * p + (k - places_per_pad * p) ≡ k = omega arith in
    let j : k - places_per_pad * p < places_per_pad = omega arith in
    let name : get_or h.names k no_name ≡ (row_at w.sheet (k - places_per_pad * p)).name =
    sym (ap (λ (i : ℕ). get_or h.names i no_name) at) ∙ w.kept.keeps.names (k - places_per_pad * p) j in
    let kind : (row_at w.sheet (k - places_per_pad * p)).kind ≡ 0 =
    sym (w.kept.keeps.kinds (k - places_per_pad * p) j) ∙ (ap (λ (i : ℕ). get_or h.kinds i 0) at ∙ none) in
    name ∙ by w.sheet w.kept.taken (row_at w.sheet (k - places_per_pad * p)) kind (row_of w.sheet (k - places_per_pad * p))
  where
    by : (s : List ℕ) → sheet_refusal true s ≡ 0 → (row : Row) → row.kind ≡ 0 → (row ≡ unlisted_row row.code) ⊎ Of s (count_of s) row → row.name ≡ no_name
    by s taken row kind (inl none) = ap row_name none
    by s taken row kind (inr o) =
        absurd (listed (element_of s o.element) (sort (element_of s o.element) (element-fits s taken o.element o.inside)) (sym (row-kind s (count_of s) row o) ∙ kind))
      where
        listed : (e : SheetElement) → ((e.kind ≡ element_button) × (button_fits e ≡ true)) ⊎ ((e.kind ≡ element_axis) × (axis_fits e ≡ true)) → e.kind ≡ 0 → ⊥
        listed e (inl b) none = let is = b.0 in omega arith
        listed e (inr a) none = let is = a.0 in omega arith

-- ---- the partner

-- an axis that has a partner has an axis for it
partner-axis : (n : ℕ) → (partner_of n ≡ 0) ⊎ (is_axis (partner_of n) ≡ true)
unfolding partner_of is_axis
partner-axis n = by (eqb n left_stick_x) (eqb n left_stick_y) (eqb n right_stick_x) (eqb n right_stick_y) (eqb n dpad_x) (eqb n dpad_y) refl refl refl refl refl refl
  where
    by : (a b c d x y : Bool) → eqb n left_stick_x ≡ a → eqb n left_stick_y ≡ b → eqb n right_stick_x ≡ c → eqb n right_stick_y ≡ d → eqb n dpad_x ≡ x
        → eqb n dpad_y ≡ y → (partner_of n ≡ 0) ⊎ (is_axis (partner_of n) ≡ true)
    by true b c d x y ea eb ec ed ex ey = inr (rw ea)
    by false true c d x y ea eb ec ed ex ey = inr (rw (ea, eb))
    by false false true d x y ea eb ec ed ex ey = inr (rw (ea, eb, ec))
    by false false false true x y ea eb ec ed ex ey = inr (rw (ea, eb, ec, ed))
    by false false false false true y ea eb ec ed ex ey = inr (rw (ea, eb, ec, ed, ex))
    by false false false false false true ea eb ec ed ex ey = inr (rw (ea, eb, ec, ed, ex, ey))
    by false false false false false false ea eb ec ed ex ey = inl (rw (ea, eb, ec, ed, ex, ey))

-- and its partner is the axis
pub partner-back : (n : ℕ) → (partner_of n ≡ 0) ⊎ (partner_of (partner_of n) ≡ n)
unfolding partner_of
partner-back n = by (eqb n left_stick_x) (eqb n left_stick_y) (eqb n right_stick_x) (eqb n right_stick_y) (eqb n dpad_x) (eqb n dpad_y) refl refl refl refl refl refl
  where
    by : (a b c d x y : Bool) → eqb n left_stick_x ≡ a → eqb n left_stick_y ≡ b → eqb n right_stick_x ≡ c → eqb n right_stick_y ≡ d → eqb n dpad_x ≡ x
        → eqb n dpad_y ≡ y → (partner_of n ≡ 0) ⊎ (partner_of (partner_of n) ≡ n)
    by true b c d x y ea eb ec ed ex ey = inr (rw (eqb-true n left_stick_x ea))
    by false true c d x y ea eb ec ed ex ey = inr (rw (eqb-true n left_stick_y eb))
    by false false true d x y ea eb ec ed ex ey = inr (rw (eqb-true n right_stick_x ec))
    by false false false true x y ea eb ec ed ex ey = inr (rw (eqb-true n right_stick_y ed))
    by false false false false true y ea eb ec ed ex ey = inr (rw (eqb-true n dpad_x ex))
    by false false false false false true ea eb ec ed ex ey = inr (rw (eqb-true n dpad_y ey))
    by false false false false false false ea eb ec ed ex ey = inl (rw (ea, eb, ec, ed, ex, ey))

axis-some : (n : ℕ) → is_axis n ≡ true → n ≡ no_name → ⊥
unfolding is_axis
axis-some n e none = true-false (sym e ∙ ap is_axis none)

-- where a partner is found by its name, its code is an axis's
pub partner-axial : (h : Hub) → Desk h → (p : ℕ) → p < h.pads → (n : ℕ)
    → ltb (cond (eqb (partner_of n) 0) nowhere (named_of h.names p (partner_of n))) nowhere ≡ true
    → axial_at (sheet_of h) (place_of h.codes p (get_or h.codes (cond (eqb (partner_of n) 0) nowhere (named_of h.names p (partner_of n))) 0)) ≡ true
partner-axial h desk p old n stands = by (eqb (partner_of n) 0) refl (partner-axis n) stands
  where
    by : (lone : Bool) → eqb (partner_of n) 0 ≡ lone → (partner_of n ≡ 0) ⊎ (is_axis (partner_of n) ≡ true)
        → ltb (cond lone nowhere (named_of h.names p (partner_of n))) nowhere ≡ true
        → axial_at (sheet_of h) (place_of h.codes p (get_or h.codes (cond lone nowhere (named_of h.names p (partner_of n))) 0)) ≡ true
    by true e a found = absurd (omega (arith, ltb-true nowhere nowhere found))
    by false e (inl no-partner) found = absurd (eqb-false (partner_of n) 0 e no-partner)
    by false e (inr axis) found =
        let name = named-place h desk p old (partner_of n) (axis-some (partner_of n) axis) (ltb-true (named_of h.names p (partner_of n)) nowhere found) in
        unfold axial_at in rw (name, axis)
