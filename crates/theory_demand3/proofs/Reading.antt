-- What a code reads is what the rule says of it, told from the sheet's bytes: by the sort of the code, each sort's theorem of history, with what the hub keeps of
-- the code in place of what the sheet says.
use Rattle.std.specs.Prelude.{ℕ, zero, suc, ◌+◌, ◌<◌, Bool, true, cond, ◌&&◌, List, ◌≡◌, eqb, Float, get_or, Ok, Some}
use Rattle.std.proofs.Math.Bool.{false, not}
use Rattle.std.proofs.Math.Path.{refl, ap}
use Rattle.std.proofs.Common.{sym, ◌∙◌, subst, arith, eqb-true}
use Rattle.std.specs.Float.Ieee.{eq}
use Rattle.std.proofs.Math.ListN.{get_or-eq_default}
use Rattle.numbers.specs.Constants.{one32, minus_one32}
use Rattle.rules.specs.declared.Hub.{Hub}
use Rattle.rules.specs.declared.Element.{Element}
use Rattle.rules.specs.declared.RawRecord.{RawRecord}
use Rattle.rules.specs.declared.SheetElement.{SheetElement}
use Rattle.rules.specs.Names.{pad_limit, nowhere, is_axis, is_button, is_hat, dpad_x, dpad_y, code_up, code_down, code_left, code_right, positive_code, negative_code}
use Rattle.rules.specs.Sheets.{element_button, element_axis, count_of}
use Rattle.rules.specs.Places.{directions, listed_row}
use Rattle.rules.specs.State.{read_pressed, read_value}
use Rattle.rules.specs.Hub.{place_in, kind_at, pressed_at, value_at, has_button_at, has_axis_at}
use Rattle.rules.specs.Queries.{pressed_by_code}
use Rattle.theory_registered.specs.Directions.{direction-found}
use Rattle.theory_registered.specs.Unlisted.{not_found}
use Rattle.theory_registered.specs.Pads.{Desk, Kept}
use Rattle.theory_registered.proofs.Pads.{reached-desk}
use Rattle.theory_history.specs.Rule.{Reading, Reads, nothing, held, is_direction, button_reads, trigger_reads, hat_value}
use Rattle.theory_history.specs.Played.{Played, reached, ready}
use Rattle.theory_history.proofs.Demand as demand
use Rattle.theory_history.proofs.Demand.{asked-pressed, asked-value, standing}
use Rattle.theory_history.proofs.Directions.{positive, negative, opposites-read}
use Rattle.theory_history.specs.Lemmas.Truth.{false-true, true-false}
use Rattle.theory_demand3.specs.Demand3.{Settings, Sheet, sheet_read, Lookup, listed, unlisted, lookup, lookup_name, lookup_element, converts, says, silent, last_hat, direction_reads, element_reads, reads_by, rule_reads, Opposite, right-left, up-down}
use Rattle.theory_demand3.proofs.Scripts.{Set}
use Rattle.theory_demand3.specs.Listed.{Holds, lookup-none, listed-holds, unlisted-bare, name-kept, element-kept}
use Rattle.theory_demand3.specs.Converting.{each-direction, converts-kept}

two : (a b : Bool) → (a && b) ≡ true → (a ≡ true) × (b ≡ true)
two true b e = (refl, e)
two false b e = false-true e

down : (a : Bool) → not a ≡ true → a ≡ false
down true e = false-true e
down false e = refl

-- where one of two holds, not both is not the other
alone : (a b : Bool) → b ≡ true → (a && b) ≡ false → a ≡ false
alone true b e f = true-false (sym e ∙ f)
alone false b e f = refl

unsaid : {x : Reading} → silent ≡ says x → ⊥
unsaid e = let z : ◌≡◌ {A = ℕ} 0 1 = cc in omega arith

direction-code : (d : ℕ) → d < directions → is_direction (code_up + d) ≡ true
unfolding is_direction
direction-code zero few = refl
direction-code (suc zero) few = refl
direction-code (suc (suc zero)) few = refl
direction-code (suc (suc (suc zero))) few = refl
direction-code (suc (suc (suc (suc d)))) few = absurd (omega arith)

said : {x y : Reading} → says x ≡ says y → x ≡ y
said e = cc

module _ {h : Hub} {rs : List RawRecord} (w : Played h rs) (p : ℕ) (old : p < h.pads) (b : List ℕ) (k : Kept h p b) where
  abbrev desk : Desk h
  desk = reached-desk (reached w)

  abbrev sheet : Sheet
  sheet = sheet_read b

  stands : p < pad_limit
  stands =
      let few = desk.few in
      omega arith

  direction-place : (c : ℕ) → is_direction c ≡ true → place_in h p c < nowhere
  direction-place c direction =
      each-direction (λ (d : ℕ). place_in h p d < nowhere) (direction-found h p b stands k.taken k.keeps 0 (omega arith))
      (direction-found h p b stands k.taken k.keeps 1 (omega arith)) (direction-found h p b stands k.taken k.keeps 2 (omega arith))
      (direction-found h p b stands k.taken k.keeps 3 (omega arith)) c direction

  bare-kind : (c : ℕ) → lookup c sheet.elements ≡ unlisted → is_direction c ≡ true → kind_at h (place_in h p c) ≡ 0
  bare-kind c is direction = (unlisted-bare h p b stands k c is (direction-place c direction)).kind

  converting : converts sheet ≡ true → get_or h.converts p false ≡ true
  converting hats = converts-kept h desk p b stands k ∙ hats

  -- ---- "opposite directions never read pressed together", whatever waits

  pub opposite-reads : converts sheet ≡ true → (c d : ℕ) → Opposite c d → lookup c sheet.elements ≡ unlisted → lookup d sheet.elements ≡ unlisted
      → pressed_by_code h p c ≡ Ok true → pressed_by_code h p d ≡ Ok false
  unfolding positive_code negative_code is_hat is_direction
  opposite-reads hats c d right-left no_plus no_minus =
      opposites-read w p dpad_x old (converting hats) refl (bare-kind code_right no_plus refl) (bare-kind code_left no_minus refl)
  opposite-reads hats c d up-down no_plus no_minus =
      opposites-read w p dpad_y old (converting hats) refl (bare-kind code_up no_plus refl) (bare-kind code_down no_minus refl)

  -- ---- when none wait: the directions of a converting pad

  module _ (none : h.waiting ≡ 0) (t : Settings) (set : Set t h) where
    module _ (hats : converts sheet ≡ true) where
      abbrev sheet_name : ℕ → ℕ
      sheet_name d = lookup_name (lookup d sheet.elements)

      abbrev sheet_element : ℕ → Element
      sheet_element d = lookup_element (lookup d sheet.elements)

      -- the last value, with the hub's own flag
      last-is : (n : ℕ) → hat_value h.reversed sheet_name sheet_element n p rs ≡ last_hat t sheet n p rs
      unfolding last_hat
      last-is n = ap (λ (turned : Bool). hat_value turned sheet_name sheet_element n p rs) set.reversed

      plus-reads : (n : ℕ) → is_hat n ≡ true → kind_at h (place_in h p (positive_code n)) ≡ 0 → Reads h p (positive_code n) (held (eq (last_hat t sheet n p rs) one32))
      plus-reads n hat alone =
          subst (λ (v : Float). Reads h p (positive_code n) (held (eq v one32))) (last-is n)
          (positive w p n old (converting hats) hat none sheet_name sheet_element (name-kept h p b stands k) (element-kept h p b stands k) alone)

      minus-reads : (n : ℕ) → is_hat n ≡ true → kind_at h (place_in h p (negative_code n)) ≡ 0 → Reads h p (negative_code n) (held (eq (last_hat t sheet n p rs) minus_one32))
      minus-reads n hat alone =
          subst (λ (v : Float). Reads h p (negative_code n) (held (eq v minus_one32))) (last-is n)
          (negative w p n old (converting hats) hat none sheet_name sheet_element (name-kept h p b stands k) (element-kept h p b stands k) alone)

      right-reads : lookup code_right sheet.elements ≡ unlisted → Reads h p code_right (direction_reads t sheet p code_right rs)
      unfolding direction_reads positive_code is_hat is_direction
      right-reads is = plus-reads dpad_x refl (bare-kind code_right is refl)

      left-reads : lookup code_left sheet.elements ≡ unlisted → Reads h p code_left (direction_reads t sheet p code_left rs)
      unfolding direction_reads negative_code is_hat is_direction
      left-reads is = minus-reads dpad_x refl (bare-kind code_left is refl)

      up-reads : lookup code_up sheet.elements ≡ unlisted → Reads h p code_up (direction_reads t sheet p code_up rs)
      unfolding direction_reads positive_code is_hat is_direction
      up-reads is = plus-reads dpad_y refl (bare-kind code_up is refl)

      down-reads : lookup code_down sheet.elements ≡ unlisted → Reads h p code_down (direction_reads t sheet p code_down rs)
      unfolding direction_reads negative_code is_hat is_direction
      down-reads is = minus-reads dpad_y refl (bare-kind code_down is refl)

    module _ (c : ℕ) where
      abbrev at : ℕ
      at = place_in h p c

      -- the hub's own word for whether the rule of hats applies
      free : (converts sheet && is_direction c) ≡ false → (get_or h.converts p false && is_direction c) ≡ false
      free e = ap (λ (x : Bool). x && is_direction c) (converts-kept h desk p b stands k) ∙ e

      -- ---- a listed code

      module _ (e : SheetElement) (is : lookup c sheet.elements ≡ listed e) (other : (converts sheet && is_direction c) ≡ false) where
        abbrev holds : Holds h p c e
        holds = listed-holds h p b stands k c e is

        button-reads : (e.kind ≡ element_button) → is_axis e.name ≡ false → Reads h p c (button_reads p e.code rs)
        button-reads kind name =
            subst (λ (d : ℕ). Reads h p c (button_reads p d rs)) (sym holds.code)
            (demand.buttons w none p c old (holds.kind ∙ kind) (ap is_axis holds.name ∙ name) (free other))

        trigger-reads : (e.kind ≡ element_axis) → is_button e.name ≡ true → Reads h p c (trigger_reads t.pressed t.released (listed_row e).element p e.code rs)
        trigger-reads kind name =
            rw (← set.pressed, ← set.released, ← holds.element, holds.code)
            (demand.triggers w none p c old (holds.kind ∙ kind) (ap is_button holds.name ∙ name) (free other))

        element-by : (x : Reading) (button trigger : Bool) → (eqb e.kind element_button && not (is_axis e.name)) ≡ button
            → (eqb e.kind element_axis && is_button e.name) ≡ trigger
            → cond button (says (button_reads p e.code rs))
            (cond trigger (says (trigger_reads t.pressed t.released (listed_row e).element p e.code rs)) silent)
            ≡ says x
            → Reads h p c x
        element-by x true trigger eb et r =
            let both = two (eqb e.kind element_button) (not (is_axis e.name)) eb in
            subst (Reads h p c) (said r) (button-reads (eqb-true e.kind element_button both.0) (down (is_axis e.name) both.1))
        element-by x false true eb et r =
            let both = two (eqb e.kind element_axis) (is_button e.name) et in
            subst (Reads h p c) (said r) (trigger-reads (eqb-true e.kind element_axis both.0) both.1)
        element-by x false false eb et r = absurd (unsaid r)

        listed-reads : (x : Reading) → element_reads t e p rs ≡ says x → Reads h p c x
        unfolding element_reads
        listed-reads x r =
            element-by x (eqb e.kind element_button && not (is_axis e.name)) (eqb e.kind element_axis && is_button e.name) refl refl r

      -- ---- a code that is not listed

      module _ (is : lookup c sheet.elements ≡ unlisted) where
        -- nor a direction: it is not found
        foreign : is_direction c ≡ false → at ≡ nowhere
        unfolding sheet_read
        foreign other =
            not_found b c
            (record {
              element = λ e short same. lookup-none (count_of b) b 0 c is e (omega arith) (omega arith) same;
              direction = λ d few same. true-false (sym (ap is_direction (sym same) ∙ direction-code d few) ∙ other);
            })
            h p stands k.taken k.keeps

        nowhere-reads : at ≡ nowhere → Reads h p c nothing
        unfolding pressed_at value_at read_pressed read_value
        nowhere-reads past =
            let long = (ready w).long.hasbutton in
            let wide = (ready w).long.hasaxis in
            let hasbutton : has_button_at h at ≡ false = get_or-eq_default h.hasbutton false {n = at} (omega arith) in
            let hasaxis : has_axis_at h at ≡ false = get_or-eq_default h.hasaxis false {n = at} (omega arith) in
            record {
              pressed = asked-pressed h p c ∙ (standing h.pads p _ old stands ∙ ap Ok (rw hasbutton));
              value = asked-value h p c ∙ (standing h.pads p _ old stands ∙ ap (λ (v : Float). Ok (Some v)) (rw (hasaxis, hasbutton)));
            }

        nothing-reads : (direction : Bool) → is_direction c ≡ direction → (converts sheet && is_direction c) ≡ false → Reads h p c nothing
        nothing-reads true d other =
            let found = direction-place c d in
            demand.unlisted w none p c old d (unlisted-bare h p b stands k c is found).kind (alone (get_or h.converts p false) (is_direction c) d (free other))
        nothing-reads false d other = nowhere-reads (foreign d)

      -- ---- by sort

      direction-reads : lookup c sheet.elements ≡ unlisted → (converts sheet && is_direction c) ≡ true → Reads h p c (direction_reads t sheet p c rs)
      direction-reads is hat =
          let both = two (converts sheet) (is_direction c) hat in
          each-direction (λ (d : ℕ). lookup d sheet.elements ≡ unlisted → Reads h p d (direction_reads t sheet p d rs)) (up-reads both.0) (down-reads both.0)
          (left-reads both.0) (right-reads both.0) c both.1 is

      reads-by : (x : Reading) (hat : Bool) (l : Lookup) → (converts sheet && is_direction c) ≡ hat → lookup c sheet.elements ≡ l
          → reads_by hat l t sheet p c rs ≡ says x → Reads h p c x
      reads-by x true (listed e) eh el r = absurd (unsaid r)
      reads-by x true unlisted eh el r = subst (Reads h p c) (said r) (direction-reads el eh)
      reads-by x false (listed e) eh el r = listed-reads e el eh x r
      reads-by x false unlisted eh el r = subst (Reads h p c) (said r) (nothing-reads el (is_direction c) refl eh)

      pub code_reads : (x : Reading) → rule_reads t sheet p c rs ≡ says x → Reads h p c x
      unfolding rule_reads
      code_reads x r = reads-by x (converts sheet && is_direction c) (lookup c sheet.elements) refl refl r
