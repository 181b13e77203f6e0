-- "that two answers meeting a promise are equal is proved": the functions of `lines`, which leave the lent buffer, every byte, and the next place; a line for each
-- function by name, by `one-appended` of `specs/Functions.antt`.
use Rattle.std.specs.Prelude.{ℕ, ◌+◌, ◌*◌, List, ◌++◌, length}
use Rattle.rules.specs.declared.EventForm.{EventForm}
use Rattle.lines.specs.Text.{number_text, hex_text, word_of, line_of, stopped_line, held_of, lines_of}
use Rattle.theory_calls.specs.Unique.{One}
use Rattle.theory_unique.specs.Functions.{Leaves, one-appended}

module _ (before : List ℕ) (at : ℕ) where
  pub unique-append : (text : List ℕ) → One (Leaves (length text) text before at)
  unique-append text = one-appended _ _ before at

  pub unique-number : (n end : ℕ) → One (Leaves 21 (number_text n end) before at)
  unique-number n end = one-appended _ _ before at

  pub unique-hex : (x end : ℕ) → One (Leaves 9 (hex_text x end) before at)
  unique-hex x end = one-appended _ _ before at

  pub unique-word : (kind : ℕ) → One (Leaves (length (word_of kind)) (word_of kind) before at)
  unique-word kind = one-appended _ _ before at

  pub unique-line : (event : EventForm) → One (Leaves 94 (line_of event) before at)
  unique-line event = one-appended _ _ before at

  pub unique-labelled : (label : List ℕ) (n end : ℕ) → One (Leaves (length label + 21) (label ++ number_text n end) before at)
  unique-labelled label n end = one-appended _ _ before at

  pub unique-stopped : (refusal place : ℕ) → One (Leaves 50 (stopped_line refusal place) before at)
  unique-stopped refusal place = one-appended _ _ before at

  pub unique-lines : (events : List ℕ) (count : ℕ) → One (Leaves (94 * held_of events count) (lines_of events (held_of events count)) before at)
  unique-lines events count = one-appended _ _ before at
