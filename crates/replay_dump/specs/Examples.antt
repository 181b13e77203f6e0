-- The dump of a desk of one pad whose first button is down, in a buffer that has room for it. Computed.
use Rattle.std.specs.Prelude.{◌≡◌, refl, true, false, List, [], ◌∷◌, ◌++◌, ℕ, replicate, pos}
use Rattle.std.specs.Float.Ieee as Ieee
use Rattle.std.specs.Float.{binary32}
use Rattle.std.specs.Float.Ieee.{of_bits}
use Rattle.rules.specs.declared.Hub.{Hub}
use Rattle.rules.specs.declared.EventType.TheVariants.{Pressed}
use Rattle.rules.specs.Hub.{hats_now}
use Rattle.rules.specs.Sheets.{sheet_bytes, element_button}
use Rattle.rules.specs.Events.{event_bytes}
use Rattle.rules.specs.Calls.{new_of, register_as, register_of, update_of}
use Rattle.lines.specs.Appending.{laid_over}
use Rattle.lines.specs.Text.{number_text, hex_text, decimal_of, hex_of, places_of}
use Rattle.lines.specs.Letters.{A, B, D, E, F, G, L, M, N, P, S, U, space, newline}
use Rattle.replay_words.specs.Pieces.{written, laid, laid_all}
use Rattle.replay_words.specs.Words.{button_pieces, axis_pieces}
use Rattle.replay_dump.specs.Dump.{up_to, first_line, pad_lines, dump_pieces}

-- South, with no range
sheet : List ℕ
sheet = sheet_bytes 0 (record { code = 0x00010130; kind = element_button; name = 1; min = pos 0; max = pos 0; deadzone = 0 } ∷ [])

-- thresholds 0.75 and 0.5, South pressed at 5
held : Hub
held =
    (update_of (register_of (new_of (of_bits binary32 0x3f400000) (of_bits binary32 0x3f000000) false true true).hub sheet).hub
    (event_bytes (record { pad = 0; time = 5; event = Pressed 1 0x00010130 }))).hub

-- "DUMP 0 1 0"
first : List ℕ
first = D ∷ U ∷ M ∷ P ∷ space ∷ 48 ∷ space ∷ 49 ∷ space ∷ 48 ∷ newline ∷ []

-- "B 00010130 3f800000 1 0 0 5"
button : List ℕ
button =
    B ∷ space ∷ 48 ∷ 48 ∷ 48 ∷ 49 ∷ 48 ∷ 49 ∷ 51 ∷ 48 ∷ space ∷ 51 ∷ 102 ∷ 56 ∷ 48 ∷ 48 ∷ 48 ∷ 48 ∷ 48
    ∷ space ∷ 49 ∷ space ∷ 48 ∷ space ∷ 48 ∷ space ∷ 53 ∷ newline ∷ []

-- "FLAGS 000000"
flags : List ℕ
flags = F ∷ L ∷ A ∷ G ∷ S ∷ space ∷ 48 ∷ 48 ∷ 48 ∷ 48 ∷ 48 ∷ 48 ∷ newline ∷ []

-- "END 0 0"
last : List ℕ
last = E ∷ N ∷ D ∷ space ∷ 48 ∷ space ∷ 48 ∷ newline ∷ []

dumped : laid_all (dump_pieces held) (written (replicate 100 0) 0) ≡ written (first ++ (button ++ (flags ++ (last ++ replicate 40 0)))) 60
unfolding held sheet first button flags last new_of register_as update_of sheet_bytes event_bytes dump_pieces pad_lines first_line up_to hats_now button_pieces axis_pieces laid_all laid laid_over number_text hex_text decimal_of hex_of places_of Ieee.of_bits Ieee.to_bits Ieee.lt Ieee.le
dumped = refl
