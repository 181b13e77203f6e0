-- A registered trigger's values have no sign and are values of binary32: what scaling makes of a raw value by the kept low end and range, and what the deadzone
-- makes of that by the kept threshold. So two that compare as equal are one (`signs`, `proper-eq`).
use Rattle.std.specs.Prelude.{ℕ, ◌<◌, true, ◌≡◌, ℤ, Float}
use Rattle.std.specs.Float.Ieee.{le}
use Rattle.numbers.specs.Constants.{zero32, one32, within_of}
use Rattle.numbers.specs.Scale.{button_scaled_of}
use Rattle.numbers.specs.Deadzone.{deadzone_of}
use Rattle.rules.specs.declared.Hub.{Hub}
use Rattle.rules.specs.declared.Element.{Element}
use Rattle.rules.specs.Sheets.{element_axis}
use Rattle.rules.specs.Places.{axis_element}
use Rattle.rules.specs.Hub.{place_in, kind_at, element_at}
use Rattle.theory_calls.specs.Reach.{Reached}
use Rattle.theory_arithmetic.specs.Proper.{Proper}
use Rattle.theory_arithmetic.proofs.Trigger as Limits
use Rattle.theory_registered.specs.Axes.{Axis}
use Rattle.theory_registered.proofs.Axes.{axis-kept}

-- the code c of pad p is an axis element's
module _ {h : Hub} (w : Reached h) (p : ℕ) (short : p < h.pads) (c : ℕ) (axis : kind_at h (place_in h p c) ≡ element_axis) where
  abbrev kept : Element
  kept = element_at h (place_in h p c)

  here : Axis h (place_in h p c)
  here = axis-kept w p short c axis

  pub trigger-proper : (raw : ℤ) → within_of raw ≡ true → Proper (button_scaled_of kept.low kept.range raw)
  unfolding axis_element
  trigger-proper raw within =
      let limits = here.keeps in
      rw here.element (Limits.trigger-proper here.of.min here.of.max limits.min limits.max limits.rising raw within)

  pub trigger-most : (raw : ℤ) → le (button_scaled_of kept.low kept.range raw) one32 ≡ true
  unfolding axis_element
  trigger-most raw =
      let limits = here.keeps in
      rw here.element (Limits.trigger-most here.of.min here.of.max limits.min limits.max limits.rising raw)

  -- any value in 0..1, as a direction's 0.0 and 1.0
  pub zoned-proper : (x : Float) → Proper x → le x one32 ≡ true → Proper (deadzone_of x zero32 kept.threshold).x
  unfolding axis_element
  zoned-proper x proper most =
      let limits = here.keeps in
      rw here.element (Limits.zoned-proper here.of.min here.of.max limits.min limits.max limits.rising x proper most here.of.deadzone)

  pub trigger-zoned : (raw : ℤ) → within_of raw ≡ true → Proper (deadzone_of (button_scaled_of kept.low kept.range raw) zero32 kept.threshold).x
  trigger-zoned raw within = zoned-proper (button_scaled_of kept.low kept.range raw) (trigger-proper raw within) (trigger-most raw)
