-- An axis record printed into a buffer that has room for it, and into one that has room for its first word alone. Computed.
use Rattle.std.specs.Prelude.{◌≡◌, refl, ◌∷◌, replicate}
use Rattle.std.specs.Float.Ieee as Ieee
use Rattle.std.specs.Float.{binary32}
use Rattle.rules.specs.declared.AxisData.{AxisData}
use Rattle.lines.specs.Appending.{laid_over}
use Rattle.lines.specs.Text.{number_text, hex_text, decimal_of, hex_of, places_of}
use Rattle.lines.specs.Letters.{space, newline}
use Rattle.replay_words.specs.Pieces.{written, laid, laid_all}
use Rattle.replay_words.specs.Words.{axis_pieces}

-- 1.0, at counter 7 and stamp 12
whole : AxisData
whole = record { value = Ieee.of_bits binary32 0x3f800000; stamp = 12; counter = 7 }

-- "3f800000 7 12" and the line's end, at the buffer's start
in-a-long-buffer :
    laid_all (axis_pieces whole) (written (replicate 40 0) 0)
    ≡ written (51 ∷ 102 ∷ 56 ∷ 48 ∷ 48 ∷ 48 ∷ 48 ∷ 48 ∷ space ∷ 55 ∷ space ∷ 49 ∷ 50 ∷ newline ∷ replicate 26 0) 14
unfolding whole axis_pieces laid_all laid laid_over number_text hex_text decimal_of hex_of places_of Ieee.of_bits Ieee.to_bits
in-a-long-buffer = refl

in-a-short-buffer :
    laid_all (axis_pieces whole) (written (replicate 16 0) 0)
    ≡ written (51 ∷ 102 ∷ 56 ∷ 48 ∷ 48 ∷ 48 ∷ 48 ∷ 48 ∷ space ∷ replicate 7 0) 9
unfolding whole axis_pieces laid_all laid laid_over number_text hex_text decimal_of hex_of places_of Ieee.of_bits Ieee.to_bits
in-a-short-buffer = refl
