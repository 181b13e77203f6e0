-- The words of a pad's records and of a tilt, in the order of `oracle/README.md`. Definitions only.
use Rattle.std.specs.Prelude.{ℕ, List, [], ◌∷◌}
use Rattle.std.specs.Float.{binary32}
use Rattle.std.specs.Float.Ieee.{to_bits}
use Rattle.numbers.specs.declared.Tilt.{Tilt}
use Rattle.numbers.specs.declared.Tilt.TheVariants.{Unmet, Inside, Between, Full}
use Rattle.rules.specs.declared.ButtonData.{ButtonData}
use Rattle.rules.specs.declared.AxisData.{AxisData}
use Rattle.rules.specs.Answers.{bit}
use Rattle.lines.specs.Letters.{B, D, E, F, I, L, N, O, S, T, U, W, space, newline}
use Rattle.replay_words.specs.Pieces.{Piece, word, number, hex}

-- "bits pressed repeating counter stamp"; "float bits are 8 hexadecimal digits, other numbers decimal"
unfoldable pub button_pieces : ButtonData → List Piece
button_pieces b =
    hex (to_bits binary32 b.value) space
    ∷ number (bit b.pressed) space ∷ number (bit b.repeating) space ∷ number b.counter space ∷ number b.stamp newline ∷ []

-- "bits counter stamp"
unfoldable pub axis_pieces : AxisData → List Piece
axis_pieces a = hex (to_bits binary32 a.value) space ∷ number a.counter space ∷ number a.stamp newline ∷ []

-- "NONE", "INSIDE", "BETWEEN" or "FULL", at a line's end
abbrev pub tilt_text : Tilt → List ℕ
tilt_text Unmet = N ∷ O ∷ N ∷ E ∷ newline ∷ []
tilt_text Inside = I ∷ N ∷ S ∷ I ∷ D ∷ E ∷ newline ∷ []
tilt_text Between = B ∷ E ∷ T ∷ W ∷ E ∷ E ∷ N ∷ newline ∷ []
tilt_text Full = F ∷ U ∷ L ∷ L ∷ newline ∷ []

abbrev pub tilt_pieces : Tilt → List Piece
tilt_pieces t = word (tilt_text t) ∷ []
