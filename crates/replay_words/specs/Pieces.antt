-- What it is to print pieces one after the other into a lent buffer: where the buffer has a piece's room, its text is laid behind what stands there; where it
-- has not, nothing of it is written and the next piece is tried at the same place. Definitions only.
use Rattle.std.specs.Prelude.{ℕ, ◌+◌, ◌*◌, cond, List, [], ◌∷◌, ◌++◌, length, leb}
use Rattle.rules.specs.declared.EventForm.{EventForm}
use Rattle.lines.specs.Appending.{laid_over}
use Rattle.lines.specs.Text.{number_text, hex_text, line_of, held_of, lines_of}

-- a text, and the room that is asked for it
pub record Piece : Type 0 where
  pub room : ℕ
  pub text : List ℕ

abbrev pub piece : ℕ → List ℕ → Piece
piece room text = record { room = room; text = text }

-- a buffer, and the place behind the text that stands in it
pub record Written : Type 0 where
  pub bytes : List ℕ
  pub at : ℕ

abbrev pub written : List ℕ → ℕ → Written
written bytes at = record { bytes = bytes; at = at }

-- ---- printing

unfoldable pub laid : Piece → Written → Written
laid p w = cond (leb (w.at + p.room) (length w.bytes)) (written (laid_over w.bytes w.at p.text) (w.at + length p.text)) w

unfoldable pub laid_all : List Piece → Written → Written
laid_all [] w = w
laid_all (p ∷ ps) w = laid_all ps (laid p w)

-- ---- the pieces of `lines`

abbrev pub word : List ℕ → Piece
word text = piece (length text) text

-- a number, or eight hex digits, and the byte behind them
abbrev pub number : ℕ → ℕ → Piece
number n end = piece 21 (number_text n end)

abbrev pub hex : ℕ → ℕ → Piece
hex n end = piece 9 (hex_text n end)

abbrev pub labelled : List ℕ → ℕ → ℕ → Piece
labelled label n end = piece (length label + 21) (label ++ number_text n end)

-- an event's line
abbrev pub line : EventForm → Piece
line e = piece 94 (line_of e)

-- the lines of the events of an out buffer: all of them, or none
abbrev pub lines : List ℕ → ℕ → Piece
lines out count = piece (94 * held_of out count) (lines_of out (held_of out count))
