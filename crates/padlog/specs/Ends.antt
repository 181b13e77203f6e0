-- A text that ends with a last line. padlog's does for every input: `log-ends` of `proofs/Ends`.
use Rattle.std.specs.Prelude.{ℕ, List, ◌++◌}
use Rattle.lines.specs.Text.{lines_of, drained_line, stopped_line, sheet_line}

-- "The last line is DRAINED and all steps, or STOPPED, refusal and place, or SHEET and refusal"
pub data LastLine : List ℕ → Type 0 where
  drained-line : (steps : ℕ) → LastLine (drained_line steps)
  stopped-line : (refusal place : ℕ) → LastLine (stopped_line refusal place)
  sheet-line : (refusal : ℕ) → LastLine (sheet_line refusal)

-- a text that ends with a last line: behind the lines of events that calls wrote into an out buffer
pub data Ends : List ℕ → Type 0 where
  last : {line : List ℕ} → LastLine line → Ends line
  lines : (out : List ℕ) (n : ℕ) {rest : List ℕ} → Ends rest → Ends (lines_of out n ++ rest)
