-- What it is that a place is kept as a listed axis element's: what is kept there is what the element's min, max and deadzone give, and they lie inside 01's limits.
-- (Each place that the hub keeps as an axis's is such: `proofs/Axes.antt`.)
use Prim.Native.Nat.{ℕ}
use Rattle.std.specs.Prelude.{◌⊎◌}
use Rattle.std.proofs.Math.Bool.{true}
use Rattle.std.proofs.Common.{inl, inr, arith}
use Rattle.std.proofs.Math.Path.{◌≡◌}
use Rattle.rules.specs.declared.Hub.{Hub}
use Rattle.rules.specs.declared.SheetElement.{SheetElement}
use Rattle.rules.specs.Sheets.{element_button, element_axis, button_fits, axis_fits}
use Rattle.rules.specs.Places.{axis_element, listed_row}
use Rattle.rules.specs.Hub.{element_at}
use Rattle.sheets.specs.Laws.{AxisKeeps, axis-keeps}

-- ---- what the hub keeps in a place is a listed axis element's

pub record Axis (h : Hub) (k : ℕ) : Type 0 where
  pub of : SheetElement
  pub keeps : AxisKeeps of
  pub element : element_at h k ≡ axis_element of

pub listed-axis : (e : SheetElement) → e.kind ≡ element_axis → (listed_row e).element ≡ axis_element e
unfolding listed_row
listed-axis e kind = rw kind

pub axis-of : (e : SheetElement) → e.kind ≡ element_axis → ((e.kind ≡ element_button) × (button_fits e ≡ true)) ⊎ ((e.kind ≡ element_axis) × (axis_fits e ≡ true)) → AxisKeeps e
axis-of e kind (inl b) = let button = b.0 in absurd (omega arith)
axis-of e kind (inr a) = axis-keeps e a.1
