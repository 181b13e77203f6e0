-- What may wait in the queue, told by the sheets alone: events of buttons, and axis events of codes that are axes and that no conversion takes. A place whose
-- element is a button's, or that has none, is never written by an axis event.
use Rattle.std.specs.Prelude.{ℕ, ◌<◌, Bool, true, false, cond, not, ◌&&◌, ◌||◌, List, [], ◌∷◌, ◌++◌, ◌≡◌, refl, eqb, Float, get_or}
use Rattle.std.proofs.Common.{sym, ◌∙◌, ap}
use Rattle.numbers.specs.Constants.{zero32}
use Rattle.numbers.specs.Deadzone.{deadzone_of}
use Rattle.rules.specs.declared.Hub.{Hub}
use Rattle.rules.specs.declared.Event.{Event}
use Rattle.rules.specs.declared.EventType.TheVariants.{Pressed, Released, Changed, Axis}
use Rattle.rules.specs.declared.Element.{Element}
use Rattle.rules.specs.Names.{no_name, is_axis, is_button, is_hat}
use Rattle.rules.specs.Sheets.{element_axis}
use Rattle.rules.specs.Places.{place_of}
use Rattle.rules.specs.Hub.{past_element}
use Rattle.theory_history.specs.Lemmas.Cells.{hits}
use Rattle.theory_history.specs.Lemmas.Turns.{ev}
use Rattle.theory_history.specs.Lemmas.Truth.{true-false}

-- ---- what registration keeps and no step changes

pub record Sheet : Type 0 where
  pub pads : ℕ
  pub codes : List ℕ
  pub kinds : List ℕ
  pub names : List ℕ
  pub elements : List Element
  pub converts : List Bool

abbrev pub sheet_of : Hub → Sheet
sheet_of h =
    record { pads = h.pads; codes = h.codes; kinds = h.kinds; names = h.names; elements = h.elements; converts = h.converts }

-- the element of the place gives axis events: it is named as an axis, or is an axis without a button's name
unfoldable pub axial_at : Sheet → ℕ → Bool
unfolding is_axis is_button
axial_at s k = is_axis (get_or s.names k no_name) || (eqb (get_or s.kinds k 0) element_axis && not (is_button (get_or s.names k no_name)))

-- the pad takes the axis of this name for its directions
unfoldable pub takes : Sheet → ℕ → ℕ → Bool
unfolding is_hat
takes s p n = get_or s.converts p false && is_hat n

-- a value as the state has it: an axis's is cut by its deadzone
unfoldable pub zoned_at : Sheet → ℕ → Float → Float
unfolding deadzone_of
zoned_at s k x =
    cond (eqb (get_or s.kinds k 0) element_axis) (deadzone_of x zero32 (get_or s.elements k past_element).threshold).x x

-- ---- lists of events

pub data All (P : Event → Type 0) : List Event → Type 0 where
  empty : All P []
  more : {e : Event} {es : List Event} → P e → All P es → All P (e ∷ es)

pub all_append : {P : Event → Type 0} (xs ys : List Event) → All P xs → All P ys → All P (xs ++ ys)
all_append [] ys empty b = b
all_append (e ∷ xs) ys (more p a) b = more p (all_append xs ys a b)

pub head_of : {P : Event → Type 0} {e : Event} {es : List Event} → All P (e ∷ es) → P e
head_of (more p a) = p

pub tail_of : {P : Event → Type 0} {e : Event} {es : List Event} → All P (e ∷ es) → All P es
tail_of (more p a) = a

-- ---- events that may wait

pub data Fit (s : Sheet) : Event → Type 0 where
  press : {pad time n c : ℕ} → pad < s.pads → Fit s (ev pad time (Pressed n c))
  release : {pad time n c : ℕ} → pad < s.pads → Fit s (ev pad time (Released n c))
  change : {pad time n c : ℕ} {z : Float} → pad < s.pads → Fit s (ev pad time (Changed n c z))
  stick : {pad time n c : ℕ} {z : Float} → pad < s.pads → axial_at s (place_of s.codes pad c) ≡ true → takes s pad n ≡ false
      → Fit s (ev pad time (Axis n c z))

pub fit-pad : {s : Sheet} {e : Event} → Fit s e → e.pad < s.pads
fit-pad (press i) = i
fit-pad (release i) = i
fit-pad (change i) = i
fit-pad (stick i a f) = i

same_place : (s : Sheet) (j k : ℕ) (same : Bool) → eqb j k ≡ same → axial_at s j ≡ true → axial_at s k ≡ false → same ≡ false
same_place s j k true e a b = true-false (sym a ∙ (ap (λ (i : ℕ). axial_at s i) (borrow.Author.Tests.eqb-true j k e) ∙ b))
same_place s j k false e a b = refl

-- so an axis event is of another place
pub stick-apart : (s : Sheet) (k pad time n c : ℕ) (x : Float) → axial_at s k ≡ false → axial_at s (place_of s.codes pad c) ≡ true
    → hits s.codes k (ev pad time (Axis n c x)) ≡ false
unfolding hits
stick-apart s k pad time n c x bare axial = same_place s (place_of s.codes pad c) k (eqb (place_of s.codes pad c) k) refl axial bare
