-- What padlog prints, as bytes: numbers, words and lines. Definitions only.
use Rattle.std.specs.Prelude.{ℕ, zero, suc, ◌+◌, ◌*◌, ◌/◌, min, cond, List, [], ◌∷◌, ◌++◌, length, drop, eqb, ltb}
use Rattle.io.specs.Digits.{last_digits}
use Rattle.rules.specs.declared.EventForm.{EventForm}
use Rattle.rules.specs.Forms.{event_fields, event_size, event_pressed, event_released, event_repeated, event_changed, event_axis, event_connected, event_disconnected}
use Rattle.lines.specs.Letters.{A, C, D, E, G, H, I, L, N, O, P, R, S, T, X, space, newline}

-- ---- numbers

-- a number of 64 bits has no more digits
abbrev pub most_digits : ℕ
most_digits = 20

-- how many decimal digits a number has, where it has no more than k + 1
unfoldable pub places_of : ℕ → ℕ → ℕ
places_of zero n = 1
places_of (suc k) n = cond (ltb n 10) 1 (places_of k (n / 10) + 1)

-- "pad, name, time, steps and place in decimal"
unfoldable pub decimal_of : ℕ → List ℕ
decimal_of n = last_digits 10 (places_of 19 n) n

-- "code and value bits as 8 lower-case hex digits"
unfoldable pub hex_of : ℕ → List ℕ
hex_of n = last_digits 16 8 n

-- a number and the byte behind it, a space or the line's end
unfoldable pub number_text : ℕ → ℕ → List ℕ
number_text n end = decimal_of n ++ (end ∷ [])

unfoldable pub hex_text : ℕ → ℕ → List ℕ
hex_text n end = hex_of n ++ (end ∷ [])

-- ---- an event's line

-- the words, each with a space

abbrev pub pressed_word : List ℕ
pressed_word = P ∷ R ∷ E ∷ S ∷ S ∷ E ∷ D ∷ space ∷ []

abbrev pub released_word : List ℕ
released_word = R ∷ E ∷ L ∷ E ∷ A ∷ S ∷ E ∷ D ∷ space ∷ []

abbrev pub repeated_word : List ℕ
repeated_word = R ∷ E ∷ P ∷ E ∷ A ∷ T ∷ E ∷ D ∷ space ∷ []

abbrev pub changed_word : List ℕ
changed_word = C ∷ H ∷ A ∷ N ∷ G ∷ E ∷ D ∷ space ∷ []

abbrev pub axis_word : List ℕ
axis_word = A ∷ X ∷ I ∷ S ∷ space ∷ []

abbrev pub connected_word : List ℕ
connected_word = C ∷ O ∷ N ∷ N ∷ E ∷ C ∷ T ∷ E ∷ D ∷ space ∷ []

abbrev pub disconnected_word : List ℕ
disconnected_word = D ∷ I ∷ S ∷ C ∷ O ∷ N ∷ N ∷ E ∷ C ∷ T ∷ E ∷ D ∷ space ∷ []

abbrev pub dropped_word : List ℕ
dropped_word = D ∷ R ∷ O ∷ P ∷ P ∷ E ∷ D ∷ space ∷ []

-- the word of an event's kind
unfoldable pub word_of : ℕ → List ℕ
word_of kind =
    cond (eqb kind event_pressed) pressed_word
    (cond (eqb kind event_released) released_word
    (cond (eqb kind event_repeated) repeated_word
    (cond (eqb kind event_changed) changed_word
    (cond (eqb kind event_axis) axis_word (cond (eqb kind event_connected) connected_word (cond (eqb kind event_disconnected) disconnected_word dropped_word))))))

-- "per event a word, pad, name, code in hex, value bits in hex, time"
unfoldable pub line_of : EventForm → List ℕ
line_of e =
    word_of e.kind
    ++ (number_text e.pad space
    ++ (number_text e.name space ++ (hex_text e.code space ++ (hex_text e.bits space ++ number_text e.time newline))))

-- how many events of `count` an out buffer can hold
unfoldable pub held_of : List ℕ → ℕ → ℕ
held_of out count = min count (length out / event_size)

-- the lines of the first n events of an out buffer
unfoldable pub lines_of : List ℕ → ℕ → List ℕ
lines_of out zero = []
lines_of out (suc n) = lines_of out n ++ line_of (event_fields (drop (event_size * n) out))

-- ---- "The last line is DRAINED and all steps, or STOPPED, refusal and place, or SHEET and refusal"

abbrev pub drained_word : List ℕ
drained_word = D ∷ R ∷ A ∷ I ∷ N ∷ E ∷ D ∷ space ∷ []

abbrev pub stopped_word : List ℕ
stopped_word = S ∷ T ∷ O ∷ P ∷ P ∷ E ∷ D ∷ space ∷ []

abbrev pub sheet_word : List ℕ
sheet_word = S ∷ H ∷ E ∷ E ∷ T ∷ space ∷ []

unfoldable pub drained_line : ℕ → List ℕ
drained_line steps = drained_word ++ number_text steps newline

unfoldable pub stopped_line : ℕ → ℕ → List ℕ
stopped_line refusal place = stopped_word ++ (number_text refusal space ++ number_text place newline)

unfoldable pub sheet_line : ℕ → List ℕ
sheet_line refusal = sheet_word ++ number_text refusal newline
