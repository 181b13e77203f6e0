-- What the dpad filter promises: the event of the law book's answer, and how many events are queued behind it.
use Rattle.std.specs.Prelude.{◌≡◌, ℕ, ◌≤◌, length}
use Rattle.rules.specs.declared.Event.{Event}
use Rattle.rules.specs.declared.View.{View}
use Rattle.rules.specs.Names.{positive_name, negative_name, positive_code, negative_code}
use Rattle.rules.specs.Events.{WithQueued}
use Rattle.rules.specs.Filters.{Direction, dpad_of}
use Rattle.filters.specs.declared.dpad.Converted.{Converted}

-- a direction of a hat
abbrev pub direction : ℕ → ℕ → Direction
direction name code = record { name = name; code = code }

-- the directions of a hat's axis
abbrev pub plus : ℕ → Direction
plus n = direction (positive_name n) (positive_code n)

abbrev pub minus : ℕ → Direction
minus n = direction (negative_name n) (negative_code n)

-- the queue by its length alone
abbrev pub counted : WithQueued → Converted
counted g = record { event = g.event; count = length g.queued }

-- dpad queues three events at most, so that the sum with a clearing event is a byte
pub record ConvertedIs (v : View) (e : Event) (r : Converted) : Type 0 where
  pub is : r ≡ counted (dpad_of v e)
  pub small : r.count ≤ 3
