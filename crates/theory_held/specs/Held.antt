-- What `since` is (W-206), over the events that were applied to one record, the newest first: the time of the newest event before which the record read not
-- pressed, or was not there, and with which it read pressed; 0 if there is none. The field of the record equals it after any list (`proofs/Held`).
use Rattle.std.specs.Prelude.{ℕ, ◌≡◌, Bool, true, false, cond, not, ◌&&◌, ◌||◌, List, [], ◌∷◌}
use Rattle.rules.specs.declared.Event.{Event}
use Rattle.rules.specs.declared.EventType.{EventType}
use Rattle.rules.specs.declared.EventType.TheVariants.{Pressed, Released, Repeated, Changed, Axis, Connected, Disconnected, Dropped}
use Rattle.rules.specs.declared.ButtonData.{ButtonData}
use Rattle.rules.specs.State.{read_pressed, writes_button_type}

-- ---- the definition

-- whether there is a record: some event wrote one
unfoldable pub begun : List Event → Bool
begun [] = false
begun (e ∷ es) = begun es || writes_button_type e.event

-- whether it reads pressed; a repeat that creates a record presses it, any other leaves it as it was
abbrev pub pressed_type : EventType → Bool → Bool → Bool
pressed_type (Pressed n c) there was = true
pressed_type (Released n c) there was = false
pressed_type (Repeated n c) there was = cond there was true
pressed_type (Changed n c v) there was = was
pressed_type (Axis n c v) there was = was
pressed_type Connected there was = was
pressed_type Disconnected there was = was
pressed_type Dropped there was = was

unfoldable pub pressed_by : List Event → Bool
unfolding begun
pressed_by [] = false
pressed_by (e ∷ es) = pressed_type e.event (begun es) (pressed_by es)

-- "the time at which it last went from not pressed to pressed"
unfoldable pub held_since : List Event → ℕ
unfolding pressed_by
held_since [] = 0
held_since (e ∷ es) = cond (pressed_by (e ∷ es) && not (pressed_by es)) e.time (held_since es)

-- ---- the record

-- a record, and whether it is there, as a list of events tells it
pub record Told (es : List Event) (known : Bool) (b : ButtonData) : Type 0 where
  pub begun-is : known ≡ begun es
  pub pressed-is : read_pressed known b ≡ pressed_by es
  pub since-is : cond known b.since 0 ≡ held_since es
