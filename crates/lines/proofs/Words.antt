-- How long the words and the lines are at most, and the lines of one event more.
use Rattle.std.proofs.Common.{◌≡◌, ap, Bool, true, false, cond, List, ◌++◌, ℕ, zero, suc, ◌+◌, ◌*◌, ◌/◌, ◌≤◌, arith, add-one, length, drop, length-append, eqb}
use Rattle.std.proofs.Math.Nat.{min-le_right}
use Rattle.rules.specs.declared.EventForm.{EventForm}
use Rattle.lines.specs.Letters.{space, newline}
use Rattle.rules.specs.Forms.{event_fields, event_pressed, event_released, event_repeated, event_changed, event_axis, event_connected, event_disconnected}
use Rattle.lines.specs.Text.{stopped_word, stopped_line, held_of, lines_of, pressed_word, released_word, repeated_word, changed_word, axis_word, connected_word, disconnected_word, dropped_word, word_of, line_of, number_text, hex_text}
use Rattle.lines.proofs.Digits.{number_short, hex-text-short}

-- DISCONNECTED and a space
pub word-short : (kind : ℕ) → length (word_of kind) ≤ 13
unfolding word_of
word-short kind = by (eqb kind event_pressed) (eqb kind event_released) (eqb kind event_repeated) (eqb kind event_changed) (eqb kind event_axis) (eqb kind event_connected) (eqb kind event_disconnected)
  where
    by : (a b c d e f g : Bool)
        → length (cond a pressed_word (cond b released_word (cond c repeated_word (cond d changed_word (cond e axis_word (cond f connected_word (cond g disconnected_word dropped_word))))))) ≤ 13
    by true b c d e f g = omega arith
    by false true c d e f g = omega arith
    by false false true d e f g = omega arith
    by false false false true e f g = omega arith
    by false false false false true f g = omega arith
    by false false false false false true g = omega arith
    by false false false false false false true = omega arith
    by false false false false false false false = omega arith

-- two texts, each with its bound
two : (s t : List ℕ) (m n : ℕ) → length s ≤ m → length t ≤ n → length (s ++ t) ≤ m + n
two s t m n h k = omega (arith, length-append s t)

pub line-short : (e : EventForm) → length (line_of e) ≤ 94
unfolding line_of
line-short e =
    two (word_of e.kind) _ 13 81 (word-short e.kind)
    (two (number_text e.pad space) _ 21 60 (number_short e.pad space)
    (two (number_text e.name space) _ 21 39 (number_short e.name space)
    (two (hex_text e.code space) _ 9 30 (hex-text-short e.code space)
    (two (hex_text e.bits space) (number_text e.time newline) 9 21 (hex-text-short e.bits space) (number_short e.time newline)))))

-- a label and a number behind it
pub labelled-short : (label : List ℕ) (n end : ℕ) → length (label ++ number_text n end) ≤ length label + 21
labelled-short label n end = two label (number_text n end) (length label) 21 (omega arith) (number_short n end)

pub stopped-short : (refusal place : ℕ) → length (stopped_line refusal place) ≤ 50
unfolding stopped_line
stopped-short refusal place =
    two stopped_word (number_text refusal space ++ number_text place newline) 8 42 (omega arith)
    (two (number_text refusal space) (number_text place newline) 21 21 (number_short refusal space) (number_short place newline))

-- the lines of one event more
pub lines_more : (out : List ℕ) (n : ℕ) → lines_of out (n + 1) ≡ lines_of out n ++ line_of (event_fields (drop (22 * n) out))
unfolding lines_of
lines_more out n = ap (lines_of out) (add-one n)

pub lines-short : (out : List ℕ) (n : ℕ) → length (lines_of out n) ≤ 94 * n
unfolding lines_of
lines-short out zero = omega arith
lines-short out (suc n) =
    let e = event_fields (drop (22 * n) out) in
    omega (arith, length-append (lines_of out n) (line_of e), lines-short out n, line-short e)

-- the events that are held lie within the out buffer
pub held_fits : (out : List ℕ) (count : ℕ) → 22 * held_of out count ≤ length out
unfolding held_of
held_fits out count = omega (arith, min-le_right count (length out / 22))
