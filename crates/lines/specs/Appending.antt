-- What it is to append a text to a lent buffer at a place. Definitions only.
use Rattle.std.specs.Prelude.{ℕ, ◌+◌, ◌≤◌, ◌≡◌, cond, List, ◌++◌, length, take, drop, leb}

-- the buffer with the text over the bytes from the place on; every other byte as it was
unfoldable pub laid_over : List ℕ → ℕ → List ℕ → List ℕ
laid_over out at text = take at out ++ (text ++ drop (at + length text) out)

-- Where the buffer has `room` bytes from the place on, `text` is laid there and the next place is behind it; where it has not, nothing is written
-- and the next place is the same. A text is never longer than the room that is asked for it.
pub record Appended (room : ℕ) (text before : List ℕ) (at : ℕ) (after : List ℕ) (next : ℕ) : Type 0 where
  pub is : after ≡ cond (leb (at + room) (length before)) (laid_over before at text) before
  pub place : next ≡ cond (leb (at + room) (length before)) (at + length text) at
  pub short : length text ≤ room
