-- The dump of the scenario form (`oracle/README.md`, 24) as pieces: "per pad `DUMP p connected hats`, `B code ..` and `A code ..` as in 15 and 16 with codes
-- rising, `FLAGS` with six digits; then `END counter waiting`". Definitions only.
use Rattle.std.specs.Prelude.{ℕ, zero, suc, ◌+◌, ◌*◌, Bool, false, cond, List, [], ◌∷◌, ◌++◌, get_or, ltb}
use Rattle.rules.specs.declared.Hub.{Hub}
use Rattle.rules.specs.declared.ButtonData.{ButtonData}
use Rattle.rules.specs.declared.AxisData.{AxisData}
use Rattle.rules.specs.Names.{pad_limit, places_per_pad, flags_per_pad}
use Rattle.rules.specs.Hub.{past_button, past_axis, hats_now}
use Rattle.rules.specs.Answers.{bit}
use Rattle.lines.specs.Letters.{A, B, D, E, F, G, L, M, N, P, S, U, space, newline}
use Rattle.replay_words.specs.Pieces.{Piece, word, number, hex, labelled}
use Rattle.replay_words.specs.Words.{button_pieces, axis_pieces}

-- the pieces of 0, of 1 and so on, n of them, one behind the other
unfoldable pub up_to : (ℕ → List Piece) → ℕ → List Piece
up_to pieces zero = []
up_to pieces (suc n) = up_to pieces n ++ pieces n

-- ---- records: a line for each place that has one; a pad's places stand with their codes rising

abbrev pub button_line : Bool → ℕ → ButtonData → List Piece
button_line known code b = cond known (word (B ∷ space ∷ []) ∷ hex code space ∷ button_pieces b) []

abbrev pub stick_line : Bool → ℕ → AxisData → List Piece
stick_line known code a = cond known (word (A ∷ space ∷ []) ∷ hex code space ∷ axis_pieces a) []

abbrev pub button_at_place : List ℕ → List Bool → List ButtonData → ℕ → List Piece
button_at_place codes hasbutton buttons k = button_line (get_or hasbutton k false) (get_or codes k 0) (get_or buttons k past_button)

abbrev pub stick_at_place : List ℕ → List Bool → List AxisData → ℕ → List Piece
stick_at_place codes hasaxis axes k = stick_line (get_or hasaxis k false) (get_or codes k 0) (get_or axes k past_axis)

-- the first n places of pad p
abbrev pub button_lines : List ℕ → List Bool → List ButtonData → ℕ → ℕ → List Piece
button_lines codes hasbutton buttons p n = up_to (λ (i : ℕ). button_at_place codes hasbutton buttons (places_per_pad * p + i)) n

abbrev pub stick_lines : List ℕ → List Bool → List AxisData → ℕ → ℕ → List Piece
stick_lines codes hasaxis axes p n = up_to (λ (i : ℕ). stick_at_place codes hasaxis axes (places_per_pad * p + i)) n

-- ---- flags

-- 1 or 0
abbrev pub digit : Bool → ℕ
digit b = cond b 49 48

-- the first n flags of pad p, "in the crate's order"
abbrev pub flag_digits : List Bool → ℕ → ℕ → List Piece
flag_digits flags p n = up_to (λ (i : ℕ). word (digit (get_or flags (flags_per_pad * p + i) false) ∷ []) ∷ []) n

abbrev pub flags_line : List Bool → ℕ → List Piece
flags_line flags p = word (F ∷ L ∷ A ∷ G ∷ S ∷ space ∷ []) ∷ (flag_digits flags p flags_per_pad ++ (word (newline ∷ []) ∷ []))

-- ---- pads

unfoldable pub first_line : Hub → ℕ → List Piece
first_line h p =
    labelled (D ∷ U ∷ M ∷ P ∷ space ∷ []) p space ∷ number (bit (get_or h.connected p false)) space ∷ number (hats_now h p) newline ∷ []

-- none for a pad that is not registered
unfoldable pub pad_lines : Hub → ℕ → List Piece
pad_lines h p =
    cond (ltb p h.pads)
    (first_line h p
    ++ (button_lines h.codes h.hasbutton h.buttons p places_per_pad
    ++ (stick_lines h.codes h.hasaxis h.axes p places_per_pad ++ flags_line h.flags p)))
    []

abbrev pub last_line : ℕ → ℕ → List Piece
last_line counter waiting = labelled (E ∷ N ∷ D ∷ space ∷ []) counter space ∷ number waiting newline ∷ []

unfoldable pub dump_pieces : Hub → List Piece
dump_pieces h = up_to (pad_lines h) pad_limit ++ last_line h.counter h.waiting
