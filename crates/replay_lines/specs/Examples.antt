-- Lines printed into a buffer that has room for them. Computed.
use Rattle.std.specs.Prelude.{◌≡◌, refl, true, [], ◌∷◌, take, replicate, None, Ok, Some}
use Rattle.std.specs.Float.Ieee as Ieee
use Rattle.std.specs.Float.{binary32}
use Rattle.numbers.specs.declared.Tilted.{Tilted}
use Rattle.numbers.specs.declared.Tilt.TheVariants.{Between, Full}
use Rattle.rules.specs.declared.PumpAnswer.TheVariants as pump_answer
use Rattle.lines.specs.Appending.{laid_over}
use Rattle.lines.specs.Text.{number_text, hex_text, decimal_of, hex_of, places_of, held_of, lines_of}
use Rattle.lines.specs.Letters.{A, B, C, D, E, F, I, L, M, N, O, P, R, S, T, U, Vee, W, space, newline}
use Rattle.replay_answers.specs.declared.Asked.TheVariants as asked
use Rattle.replay_answers.specs.declared.Changed.TheVariants as changed
use Rattle.replay_words.specs.Pieces.{Written, written, laid, laid_all}
use Rattle.replay_lines.specs.Lines.{query_pieces, call_pieces}
use Rattle.rules.specs.Queries.{pad_down}

-- 96 bytes of 0, nothing printed yet
empty : Written
empty = written (replicate 96 0) 0

-- "VALUE 3f800000"
value_line :
    take 15 (laid_all (query_pieces (asked.Value (Ok (Some (Ieee.of_bits binary32 0x3f800000))))) empty).bytes
    ≡ Vee ∷ A ∷ L ∷ U ∷ E ∷ space ∷ 51 ∷ 102 ∷ 56 ∷ 48 ∷ 48 ∷ 48 ∷ 48 ∷ 48 ∷ newline ∷ []
unfolding empty query_pieces laid_all laid laid_over hex_text hex_of Ieee.of_bits Ieee.to_bits
value_line = refl

-- "NAME 255"
name-line :
    take 9 (laid_all (query_pieces (asked.Name (Ok None))) empty).bytes ≡ N ∷ A ∷ M ∷ E ∷ space ∷ 50 ∷ 53 ∷ 53 ∷ newline ∷ []
unfolding empty query_pieces laid_all laid laid_over number_text decimal_of places_of
name-line = refl

-- "DOWN 52 1": every place of a pad, an axis element's among them
down-line :
    take 10 (laid_all (query_pieces (asked.Down (Ok (pad_down 52 true)))) empty).bytes
    ≡ D ∷ O ∷ W ∷ N ∷ space ∷ 53 ∷ 50 ∷ space ∷ 49 ∷ newline ∷ []
unfolding empty query_pieces laid_all laid laid_over number_text decimal_of places_of
down-line = refl

-- "CODE 0001013c": the lowest pressed code is said as the code of a name is
lowest-line :
    take 14 (laid_all (query_pieces (asked.Code (Ok (Some 0x0001013c)))) empty).bytes
    ≡ C ∷ O ∷ D ∷ E ∷ space ∷ 48 ∷ 48 ∷ 48 ∷ 49 ∷ 48 ∷ 49 ∷ 51 ∷ 99 ∷ newline ∷ []
unfolding empty query_pieces laid_all laid laid_over hex_text hex_of
lowest-line = refl

-- "REFUSED 8 42 0 2": the third record, at place 42, is malformed; no event so far, two steps
pump-line :
    take 17 (laid_all (call_pieces [] (changed.Pumped (pump_answer.Refused 8 42 0 2))) empty).bytes
    ≡ R ∷ E ∷ F ∷ U ∷ S ∷ E ∷ D ∷ space ∷ 56 ∷ space ∷ 52 ∷ 50 ∷ space ∷ 48 ∷ space ∷ 50 ∷ newline ∷ []
unfolding empty call_pieces laid_all laid laid_over number_text decimal_of places_of held_of lines_of
pump-line = refl

-- the same refusal of operation 40: its report stands behind it
report-line :
    take 27 (laid_all (call_pieces [] (changed.Reported (pump_answer.Refused 8 42 0 2) Full)) empty).bytes
    ≡ R ∷ E ∷ F ∷ U ∷ S ∷ E ∷ D ∷ space ∷ 56 ∷ space ∷ 52 ∷ 50 ∷ space ∷ 48 ∷ space ∷ 50 ∷ newline
    ∷ T ∷ I ∷ L ∷ T ∷ space ∷ F ∷ U ∷ L ∷ L ∷ newline ∷ []
unfolding empty call_pieces laid_all laid laid_over number_text decimal_of places_of held_of lines_of
report-line = refl

-- what (0.75, 0) is at a threshold of 0.5: (0.5, 0), between
half : Tilted
half = record { pair = record { x = Ieee.of_bits binary32 0x3f000000; y = Ieee.of_bits binary32 0 }; tilt = Between }

-- "PAIR 3f000000 00000000 BETWEEN"
pair_line :
    take 31 (laid_all (query_pieces (asked.Pair half)) empty).bytes
    ≡ P ∷ A ∷ I ∷ R ∷ space ∷ 51 ∷ 102 ∷ 48 ∷ 48 ∷ 48 ∷ 48 ∷ 48 ∷ 48 ∷ space ∷ 48 ∷ 48 ∷ 48 ∷ 48 ∷ 48 ∷ 48 ∷ 48 ∷ 48 ∷ space
    ∷ B ∷ E ∷ T ∷ W ∷ E ∷ E ∷ N ∷ newline ∷ []
unfolding empty half query_pieces laid_all laid laid_over hex_text hex_of Ieee.of_bits Ieee.to_bits
pair_line = refl
