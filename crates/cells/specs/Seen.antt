-- What is read of the records at a place, over the columns as lists. Definitions only.
use Rattle.std.specs.Prelude.{ℕ, Bool, false, List, Float, get_or}
use Rattle.rules.specs.declared.ButtonData.{ButtonData}
use Rattle.rules.specs.declared.AxisData.{AxisData}
use Rattle.rules.specs.State.{read_pressed, read_value}
use Rattle.rules.specs.Hub.{past_button, past_axis}

-- the value of a place: its axis record's, else its button record's
abbrev pub stored_at : List Bool → List Bool → List ButtonData → List AxisData → ℕ → Float
stored_at hasbutton hasaxis buttons axes k =
    read_value (get_or hasaxis k false) (get_or axes k past_axis) (get_or hasbutton k false) (get_or buttons k past_button)

-- whether the button record of a place is pressed
abbrev pub held_at : List Bool → List ButtonData → ℕ → Bool
held_at hasbutton buttons k = read_pressed (get_or hasbutton k false) (get_or buttons k past_button)
