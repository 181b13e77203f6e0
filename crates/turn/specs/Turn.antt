-- What a turn answers where a caller needs more than an equation: a ring's place with its bound; and what is taken, over what was gathered.
use Rattle.std.specs.Prelude.{ℕ, ◌<◌, ◌≡◌, Bool, cond, ltb, Float}
use Rattle.rules.specs.declared.Slot.{Slot}
use Rattle.rules.specs.declared.RawRecord.{RawRecord}
use Rattle.rules.specs.declared.Element.{Element}
use Rattle.rules.specs.declared.ButtonData.{ButtonData}
use Rattle.rules.specs.declared.Dispatched.{Dispatched}
use Rattle.rules.specs.Events.{event_of}
use Rattle.rules.specs.State.{read_pressed}
use Rattle.rules.specs.Dispatch.{dispatch_of, single}
use Rattle.gather.specs.declared.Found.{Found}

pub record RingIs (place r : ℕ) : Type 0 where
  pub is : r ≡ place
  pub small : r < 64

-- the queue's front, else what the record gives
unfoldable pub taken_by : ℕ → Slot → RawRecord → Found → Element → ButtonData → Float → Float → Bool → Dispatched
taken_by waiting slot r found e b pressed released reversed =
    cond (ltb 0 waiting) (single (event_of slot))
    (dispatch_of r found.name e (read_pressed found.hasbutton b) pressed released reversed)
