-- Demand 3 for buttons and triggers: "when none wait, every button, trigger .. reads as 01's history rule says, which knows no queue". Whatever was played, by
-- the queries that an overlay calls.
use Rattle.std.specs.Prelude.{ℕ, ◌<◌, Bool, not, ◌&&◌, ◌||◌, List, [], ◌≡◌, eqb, Float, get_or, Ok, Some}
use Rattle.std.proofs.Math.Bool.{true, false}
use Rattle.std.proofs.Math.Path.{refl}
use Rattle.std.proofs.Common.{sym, ◌∙◌, ap, arith, lt-ltb, leb-true, eqb-true}
use Rattle.std.proofs.lemmas.Bool.{lt-leb}
use Rattle.rules.specs.declared.Hub.{Hub}
use Rattle.rules.specs.declared.Event.{Event}
use Rattle.rules.specs.declared.RawRecord.{RawRecord}
use Rattle.rules.specs.Names.{pad_limit, nowhere, no_name, is_axis, is_button, is_hat, dpad_right, unknown_axis, dpad_x, positive_code, negative_code, code_up, code_down, code_left, code_right}
use Rattle.rules.specs.Sheets.{element_button, element_axis}
use Rattle.rules.specs.Refusals.{is_registered, unless_fits, answer_by}
use Rattle.rules.specs.State.{read_pressed, read_value}
use Rattle.rules.specs.Hub.{place_in, kind_at, element_at, pressed_at, has_axis_at, value_at}
use Rattle.rules.specs.Queries.{pad_refusal, found_by, pressed_by_code, value_by_code}
use Rattle.theory_calls.specs.Waiting.{waiting_list}
use Rattle.theory_registered.specs.Pads.{Desk}
use Rattle.theory_registered.proofs.Pads.{reached-desk, direction-kept}
use Rattle.theory_arithmetic.specs.Proper.{Proper, proper-eq}
use Rattle.theory_history.specs.Rule.{Reading, Reads, is_direction, button_reads, trigger_reads, nothing}
use Rattle.theory_history.specs.Lemmas.Cells.{cell_at, cell_pressed, cell_value}
use Rattle.theory_history.specs.Lemmas.Waits.{Sheet, sheet_of, axial_at, takes}
use Rattle.theory_history.specs.Lemmas.Served.{due}
use Rattle.theory_history.specs.Lemmas.Serve.{Tells}
use Rattle.theory_history.specs.Lemmas.Records.{Place, none-waits}
use Rattle.theory_history.specs.Played.{Played, reached}
use Rattle.theory_history.specs.Lemmas.Register.{listed_found}
use Rattle.theory_history.specs.Lemmas.Sorts.{button, trigger, silent}
use Rattle.theory_history.proofs.Lemmas.Codes.{tells}
use Rattle.theory_history.specs.Lemmas.Truth.{false-true, true-false}
use Rattle.theory_history.specs.Lemmas.Partner.{unlisted-name}

-- ---- directions

plus-direction : (n c : ℕ) (x : Bool) → eqb n dpad_x ≡ x → c ≡ positive_code n → is_direction c ≡ true
unfolding positive_code is_direction
plus-direction n c true e same = rw (same, e)
plus-direction n c false e same = rw (same, e)

minus-direction : (n c : ℕ) (x : Bool) → eqb n dpad_x ≡ x → c ≡ negative_code n → is_direction c ≡ true
unfolding negative_code is_direction
minus-direction n c true e same = rw (same, e)
minus-direction n c false e same = rw (same, e)

module _ (h : Hub) (p c : ℕ) (free : (get_or h.converts p false && is_direction c) ≡ false) where
  no-direction : (n : ℕ) → takes (sheet_of h) p n ≡ true → is_direction c ≡ true → ⊥
  unfolding takes
  no-direction n t d = by (get_or h.converts p false) (is_hat n) t free
    where
      by : (converts hat : Bool) → (converts && hat) ≡ true → (converts && is_direction c) ≡ false → ⊥
      by true hat t f = true-false (sym d ∙ f)
      by false hat t f = true-false (sym t)

  -- a listed element that gives no axis event
  element_place : Desk h → p < h.pads → is_axis (get_or h.names (place_in h p c) no_name) ≡ false
      → (eqb (kind_at h (place_in h p c)) element_axis && not (is_button (get_or h.names (place_in h p c) no_name))) ≡ false
      → (kind_at h (place_in h p c) ≡ 0 → ⊥) → Place h p c
  element_place desk old axis plain listed =
      record {
        pad = old;
        found = listed_found h desk (place_in h p c) listed;
        bare = unfold axial_at in rw (axis, plain);
        plus = λ n t same. no-direction n t (plus-direction n c (eqb n dpad_x) refl same);
        minus = λ n t same. no-direction n t (minus-direction n c (eqb n dpad_x) refl same);
      }

-- ---- the queries

pub asked-pressed : (h : Hub) (p c : ℕ) → pressed_by_code h p c ≡ answer_by (pad_refusal h p) (pressed_at h (place_in h p c))
unfolding pressed_by_code
asked-pressed h p c = refl

pub asked-value : (h : Hub) (p c : ℕ) → value_by_code h p c ≡ found_by (pad_refusal h p) true (value_at h (place_in h p c))
unfolding value_by_code
asked-value h p c = refl

-- of a registered pad they are not refused
pub standing : {A : Type 0} (pads p : ℕ) (x : A) → p < pads → p < pad_limit → answer_by (unless_fits (is_registered pads p) 6) x ≡ Ok x
unfolding is_registered
standing pads p x old few = rw (lt-ltb p pads old, lt-ltb p pad_limit few)

-- they read the button record, where there is no axis record
pub cell-pressed : (h : Hub) (k : ℕ) → pressed_at h k ≡ cell_pressed (cell_at h k)
unfolding pressed_at read_pressed cell_at
cell-pressed h k = refl

pub cell-value : (h : Hub) (k : ℕ) → has_axis_at h k ≡ false → value_at h k ≡ cell_value (cell_at h k)
unfolding value_at read_value cell_at
cell-value h k still = rw still

due-none : (s : Sheet) (k : ℕ) (q : List Event) (v : Float) → q ≡ [] → due s k q v ≡ v
unfolding due
due-none s k q v none = rw none

-- a button's name is no axis's
button-axis : (n : ℕ) → is_button n ≡ true → is_axis n ≡ false
unfolding is_button is_axis
button-axis n e =
    let small = leb-true n dpad_right e in
    rw (lt-leb unknown_axis n (omega arith))

module _ {h : Hub} {rs : List RawRecord} (w : Played h rs) (none : h.waiting ≡ 0) (p c : ℕ) where
  answers : (x : Reading) → p < h.pads → Tells Proper proper-eq (sheet_of h) h (place_in h p c) (waiting_list h) x.pressed x.value → Reads h p c x
  answers x old t =
      let few = (reached-desk (reached w)).few in
      let value = due-none (sheet_of h) (place_in h p c) (waiting_list h) (cell_value (cell_at h (place_in h p c))) (none-waits h none) in
      record {
        pressed = asked-pressed h p c ∙ (standing h.pads p _ old (omega arith) ∙ ap Ok (cell-pressed h (place_in h p c) ∙ t.pressed));
        value =
            asked-value h p c
            ∙ (standing h.pads p _ old (omega arith) ∙ ap (λ (v : Float). Ok (Some v)) (cell-value h (place_in h p c) t.still ∙ (sym value ∙ t.value)));
      }

  -- "A button element named as a button or unnamed: pressed and value as its last record, false and 0.0 if none"; "On converting pads direction codes
  -- are left out"
  pub buttons : p < h.pads → kind_at h (place_in h p c) ≡ element_button → is_axis (get_or h.names (place_in h p c) no_name) ≡ false
      → (get_or h.converts p false && is_direction c) ≡ false → Reads h p c (button_reads p c rs)
  buttons old kind name free =
      let pl = element_place h p c free (reached-desk (reached w)) old name (rw kind) (λ zero. omega arith) in
      answers (button_reads p c rs) old (tells p c button w pl (record { kind = kind }))

  -- "A trigger: pressed folds the two thresholds over its scaled values; value is the last of them deadzoned; false and 0.0 if none"
  pub triggers : p < h.pads → kind_at h (place_in h p c) ≡ element_axis → is_button (get_or h.names (place_in h p c) no_name) ≡ true
      → (get_or h.converts p false && is_direction c) ≡ false → Reads h p c (trigger_reads h.pressed h.released (element_at h (place_in h p c)) p c rs)
  triggers old kind name free =
      let pl = element_place h p c free (reached-desk (reached w)) old (button-axis (get_or h.names (place_in h p c) no_name) name) (rw (kind, name)) (λ zero. omega arith) in
      answers (trigger_reads h.pressed h.released (element_at h (place_in h p c)) p c rs) old
      (tells p c (trigger h.pressed h.released (element_at h (place_in h p c))) w pl (record { kind = kind; name = name; pressed = refl; released = refl; element = refl }))

  -- ---- directions that the sheet does not list

  direction-found : (a b d e : Bool) → eqb c code_up ≡ a → eqb c code_down ≡ b → eqb c code_left ≡ d → eqb c code_right ≡ e → (a || (b || (d || e))) ≡ true → p < h.pads
      → place_in h p c < nowhere
  direction-found true b d e ea eb ed ee is old = rw (eqb-true c code_up ea) (direction-kept (reached w) p old 0 (omega arith))
  direction-found false true d e ea eb ed ee is old = rw (eqb-true c code_down eb) (direction-kept (reached w) p old 1 (omega arith))
  direction-found false false true e ea eb ed ee is old = rw (eqb-true c code_left ed) (direction-kept (reached w) p old 2 (omega arith))
  direction-found false false false true ea eb ed ee is old = rw (eqb-true c code_right ee) (direction-kept (reached w) p old 3 (omega arith))
  direction-found false false false false ea eb ed ee is old = false-true is

  untaken : get_or h.converts p false ≡ false → (n : ℕ) → takes (sheet_of h) p n ≡ true → ⊥
  unfolding takes
  untaken converts n t = false-true (sym (ap (λ (b : Bool). b && is_hat n) converts) ∙ t)

  silent-place : p < h.pads → place_in h p c < nowhere → kind_at h (place_in h p c) ≡ 0 → get_or h.converts p false ≡ false → Place h p c
  unfolding axial_at is_axis
  silent-place old found none converts =
      let name = unlisted-name h (reached-desk (reached w)) p old c found none in
      record {
        pad = old;
        found = found;
        bare = rw (name, none);
        plus = λ n t same. untaken converts n t;
        minus = λ n t same. untaken converts n t;
      }

  -- on a pad that does not convert they read false and 0.0, which is more than 01 asks
  pub unlisted : p < h.pads → is_direction c ≡ true → kind_at h (place_in h p c) ≡ 0 → get_or h.converts p false ≡ false → Reads h p c nothing
  unfolding is_direction
  unlisted old direction none converts =
      let found = direction-found (eqb c code_up) (eqb c code_down) (eqb c code_left) (eqb c code_right) refl refl refl refl direction old in
      answers nothing old (tells p c silent w (silent-place old found none converts) (record { kind = none }))
