-- Demand 3 for hats: "Right is pressed exactly when the last DPadX value was 1.0, Left when it was -1.0; pressed reads 1.0, else 0.0; Up and Down the same with
-- DPadY", on a converting pad, for each direction that its sheet does not list, whatever it says of the opposite one; and "opposite directions never read pressed
-- together", also while events wait, where it lists neither.
use Rattle.std.specs.Prelude.{ℕ, ◌<◌, Bool, ◌&&◌, ◌≡◌, eqb, Float, get_or, Ok, Some}
use Rattle.std.proofs.Math.Bool.{true, false}
use mathlib.Core.List.{List}
use Rattle.std.proofs.Math.Path.{refl, ap, subst}
use Rattle.std.proofs.Common.{◌∙◌, arith}
use Rattle.std.specs.Float.Ieee.{eq}
use Rattle.numbers.specs.Constants.{one32, minus_one32}
use Rattle.rules.specs.declared.Hub.{Hub}
use Rattle.rules.specs.declared.Event.{Event}
use Rattle.rules.specs.declared.Element.{Element}
use Rattle.rules.specs.declared.RawRecord.{RawRecord}
use Rattle.rules.specs.Names.{nowhere, no_name, is_axis, is_hat, dpad_x, positive_code, negative_code}
use Rattle.rules.specs.Hub.{place_in, kind_at, element_at}
use Rattle.rules.specs.Queries.{pressed_by_code}
use Rattle.theory_calls.specs.Waiting.{waiting_list}
use Rattle.theory_registered.proofs.Pads.{reached-desk, direction-kept}
use Rattle.theory_history.specs.Rule.{Reads, held, hat_value, direction_code, pressing_value}
use Rattle.theory_history.specs.Lemmas.Cells.{cell_at, cell_pressed}
use Rattle.theory_history.specs.Lemmas.Waits.{sheet_of, axial_at, takes}
use Rattle.theory_history.specs.Lemmas.Partner.{unlisted-name}
use Rattle.theory_history.specs.Lemmas.Records.{none-waits}
use Rattle.theory_history.specs.Played.{Played, reached}
use Rattle.theory_history.specs.Lemmas.Written.{writes, never-now}
use Rattle.theory_history.specs.Lemmas.Sides.{Shows, Side}
use Rattle.theory_history.specs.Lemmas.Hats.{Unlisted}
use Rattle.theory_history.proofs.Lemmas.Dpad.{sides}
use Rattle.theory_history.proofs.Lemmas.Opposites.{opposed}
use Rattle.theory_history.proofs.Demand.{asked-pressed, asked-value, standing, cell-pressed, cell-value}

module _ {h : Hub} {rs : List RawRecord} (w : Played h rs) (p n : ℕ) (old : p < h.pads) (converts : get_or h.converts p false ≡ true)
    (hat : is_hat n ≡ true) where
  found : (positive x : Bool) → eqb n dpad_x ≡ x → place_in h p (direction_code positive n) < nowhere
  unfolding positive_code negative_code
  found true true e = rw e (direction-kept (reached w) p old 3 (omega arith))
  found true false e = rw e (direction-kept (reached w) p old 0 (omega arith))
  found false true e = rw e (direction-kept (reached w) p old 2 (omega arith))
  found false false e = rw e (direction-kept (reached w) p old 1 (omega arith))

  unlisted : (positive : Bool) → kind_at h (place_in h p (direction_code positive n)) ≡ 0 → Unlisted (sheet_of h) p n positive
  unfolding takes axial_at is_axis
  unlisted positive none =
      let inside = found positive (eqb n dpad_x) refl in
      let name = unlisted-name h (reached-desk (reached w)) p old (direction_code positive n) inside none in
      record {
        pad = old;
        takes = rw (converts, hat);
        plain = record { inside = inside; bare = rw (name, none); whole = rw none };
        none = none;
      }

  asked : (c : ℕ) → pressed_by_code h p c ≡ Ok (cell_pressed (cell_at h (place_in h p c)))
  asked c =
      let few = (reached-desk (reached w)).few in
      asked-pressed h p c ∙ (standing h.pads p _ old (omega arith) ∙ ap Ok (cell-pressed h (place_in h p c)))

  -- ---- when none wait: name_of and element_of are what the pad's sheet says of a code

  module _ (none : h.waiting ≡ 0) (name_of : ℕ → ℕ) (element_of : ℕ → Element)
      (names : (c : ℕ) → place_in h p c < nowhere → get_or h.names (place_in h p c) no_name ≡ name_of c)
      (elements : (c : ℕ) → place_in h p c < nowhere → element_at h (place_in h p c) ≡ element_of c) where
    -- the last value of the hat's axis, told from the records and the pad's sheet
    abbrev pub last : Float
    last = hat_value h.reversed name_of element_of n p rs

    settled : (c : ℕ) (b : Bool) → Side h (place_in h p c) b → Reads h p c (held b)
    unfolding writes
    settled c b t =
        let few = (reached-desk (reached w)).few in
        let k = place_in h p c in
        let shows : Shows (cell_at h k) b = subst (λ (q : List Event). Shows (writes (sheet_of h) k q (cell_at h k)) b) (none-waits h none) t.shows in
        record {
          pressed = asked c ∙ ap Ok shows.pressed;
          value = asked-value h p c ∙ (standing h.pads p _ old (omega arith) ∙ ap (λ (v : Float). Ok (Some v)) (cell-value h k t.still ∙ shows.value));
        }

    direction : (positive : Bool) → kind_at h (place_in h p (direction_code positive n)) ≡ 0
        → Reads h p (direction_code positive n) (held (eq last (pressing_value positive)))
    direction positive alone =
        settled (direction_code positive n) (eq last (pressing_value positive))
        (sides p n positive h.reversed name_of element_of w (unlisted positive alone) (record { name = names; element = elements }) refl)

    -- Right, and Up
    pub positive : kind_at h (place_in h p (positive_code n)) ≡ 0 → Reads h p (positive_code n) (held (eq last one32))
    positive alone = direction true alone

    -- Left, and Down
    pub negative : kind_at h (place_in h p (negative_code n)) ≡ 0 → Reads h p (negative_code n) (held (eq last minus_one32))
    negative alone = direction false alone

  -- ---- "opposite directions never read pressed together", after any step or call

  module _ (no_plus : kind_at h (place_in h p (positive_code n)) ≡ 0) (no_minus : kind_at h (place_in h p (negative_code n)) ≡ 0) where
    pub opposites : (cell_pressed (cell_at h (place_in h p (positive_code n))) && cell_pressed (cell_at h (place_in h p (negative_code n)))) ≡ false
    opposites =
        never-now (sheet_of h) (place_in h p (positive_code n)) (place_in h p (negative_code n)) (waiting_list h) _ _
        (opposed p n w (unlisted true no_plus) (unlisted false no_minus))

    -- by the queries
    pub opposites-read : pressed_by_code h p (positive_code n) ≡ Ok true → pressed_by_code h p (negative_code n) ≡ Ok false
    opposites-read plus =
        let down : cell_pressed (cell_at h (place_in h p (positive_code n))) ≡ true = cc (asked (positive_code n)) in
        asked (negative_code n) ∙ ap Ok (rw down at opposites)
