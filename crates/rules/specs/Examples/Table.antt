-- How the examples are written: a case is what a definition finds and what document 01 owes, and a table is right where the two columns are equal.
use Rattle.std.specs.Prelude.{◌≡◌, List, [], ◌∷◌, ℕ, ℤ, pos, Float}
use Rattle.std.specs.Float.{binary32}
use Rattle.std.specs.Float.Ieee.{of_bits}
use Rattle.rules.specs.declared.Event.{Event}
use Rattle.rules.specs.declared.EventType.{EventType}
use Rattle.rules.specs.declared.SheetElement.{SheetElement}
use Rattle.rules.specs.Sheets.{element_button, element_axis}

pub record Case (A : Type 0) : Type 0 where
  pub found : A
  pub owed : A

infix 70 ◌is◌
abbrev pub ◌is◌ : {A : Type 0} → A → A → Case A
◌is◌ found owed = record { found = found; owed = owed }

abbrev pub founds : {A : Type 0} → List (Case A) → List A
founds [] = []
founds (c ∷ cs) = c.found ∷ founds cs

abbrev pub oweds : {A : Type 0} → List (Case A) → List A
oweds [] = []
oweds (c ∷ cs) = c.owed ∷ oweds cs

abbrev pub Right : {A : Type 0} → List (Case A) → Type 0
Right cs = founds cs ≡ oweds cs

-- ---- elements, as the examples' sheets list them

abbrev pub button : ℕ → ℕ → SheetElement
button code name = record { code = code; kind = element_button; name = name; min = pos 0; max = pos 0; deadzone = 0 }

abbrev pub axis : ℕ → ℕ → ℤ → ℤ → ℕ → SheetElement
axis code name min max deadzone = record { code = code; kind = element_axis; name = name; min = min; max = max; deadzone = deadzone }

-- ---- values and events

abbrev pub half32 : Float
half32 = of_bits binary32 0x3f000000

abbrev pub three_quarters32 : Float
three_quarters32 = of_bits binary32 0x3f400000

-- an event of pad 0
abbrev pub event : ℕ → EventType → Event
event time t = record { pad = 0; time = time; event = t }
