-- "All other fields stay equal to the crate's" (W-206): without `since` the button record after an event is gilrs's own. By the eight kinds of event.
use Rattle.std.specs.Prelude.{ℕ, ◌≡◌, refl, Bool}
use Rattle.rules.specs.declared.Event.{Event}
use Rattle.rules.specs.declared.EventType.{EventType}
use Rattle.rules.specs.declared.EventType.TheVariants.{Pressed, Released, Repeated, Changed, Axis, Connected, Disconnected, Dropped}
use Rattle.rules.specs.declared.ButtonData.{ButtonData}
use Rattle.rules.specs.State.{crate_of, crate_type, crate_after, button_type, button_after}

fields-by : (t : EventType) (known : Bool) (b : ButtonData) (time counter : ℕ)
    → crate_of (button_type t known b time counter) ≡ crate_type t known (crate_of b) time counter
fields-by (Pressed n c) known b time counter = refl
fields-by (Released n c) known b time counter = refl
fields-by (Repeated n c) known b time counter = refl
fields-by (Changed n c v) known b time counter = refl
fields-by (Axis n c v) known b time counter = refl
fields-by Connected known b time counter = refl
fields-by Disconnected known b time counter = refl
fields-by Dropped known b time counter = refl

pub crate-fields : (e : Event) (known : Bool) (b : ButtonData) (counter : ℕ)
    → crate_of (button_after e known b counter) ≡ crate_after e known (crate_of b) counter
unfolding button_after crate_after
crate-fields e known b counter = fields-by e.event known b e.time counter
