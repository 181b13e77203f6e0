-- The lines that say what an operation answered, in the order of the table of `oracle/README.md`. Definitions only.
use Rattle.std.specs.Prelude.{ℕ, ◌≡◌, List, [], ◌∷◌, ◌++◌, Bool, Err, Float, None, Ok, Option, Result, Some}
use Rattle.std.specs.Fn.{Once}
use Rattle.std.specs.Float.{binary32}
use Rattle.std.specs.Float.Ieee.{to_bits}
use denote.Ref.{MutBor}
use Rattle.numbers.specs.declared.Tilt.{Tilt}
use Rattle.numbers.specs.declared.Tilted.{Tilted}
use Rattle.rules.specs.declared.PumpAnswer.{PumpAnswer}
use Rattle.rules.specs.declared.PumpAnswer.TheVariants as pump_answer
use Rattle.rules.specs.Names.{no_name}
use Rattle.rules.specs.Answers.{bit}
use Rattle.rules.specs.Events.{form_of}
use Rattle.lines.specs.Letters.{A, B, C, D, E, F, G, H, I, K, L, M, N, O, P, R, S, T, U, Vee, W, space, newline}
use Rattle.lines.specs.Text.{drained_word}
use Rattle.replay_answers.specs.declared.Asked.{Asked}
use Rattle.replay_answers.specs.declared.Asked.TheVariants as asked
use Rattle.replay_answers.specs.declared.Changed.{Changed}
use Rattle.replay_answers.specs.declared.Changed.TheVariants as changed
use Rattle.replay_words.specs.Pieces.{Piece, word, number, hex, labelled, line, lines, written, laid_all}
use Rattle.replay_words.specs.Words.{button_pieces, axis_pieces, tilt_pieces}
use Rattle.rules.specs.declared.AxisData.{AxisData}
use Rattle.rules.specs.declared.ButtonData.{ButtonData}
use Rattle.rules.specs.declared.PadDown.{PadDown}
use Rattle.rules.specs.declared.Event.{Event}
use Rattle.rules.specs.declared.Refusal.{Refusal}

-- ---- what more than one operation answers

abbrev pub refused_word : List ℕ
refused_word = R ∷ E ∷ F ∷ U ∷ S ∷ E ∷ D ∷ space ∷ []

-- "A refused call answers `REFUSED n`"
abbrev pub refused : ℕ → List Piece
refused n = labelled refused_word n newline ∷ []

abbrev pub absent : List Piece
absent = word (A ∷ B ∷ S ∷ E ∷ N ∷ T ∷ newline ∷ []) ∷ []

-- a line prints these pieces, wherever it is called
abbrev pub Prints : {F T : Type 0} → Once F (MutBor (List ℕ) × (ℕ × (T × Unit {0}))) (ℕ × (MutBor (List ℕ) × Unit {0})) → F → (T → List Piece) → Type 0
Prints {F} {T} g line pieces =
    (x : T) (at next : ℕ) (before after : MutBor (List ℕ))
    → g.post line (before, (at, (x, tt))) (next, (after, tt))
    → written after.now next ≡ laid_all (pieces x) (written before.now at)

-- the pieces of what is there, or that it is absent
abbrev pub found : {T : Type 0} → (T → List Piece) → Result (Option T) Refusal → List Piece
found pieces (Ok (Some x)) = pieces x
found pieces (Ok None) = absent
found pieces (Err e) = refused e.number

-- an opcode or a payload that the form has not
abbrev pub no_operation : List Piece
no_operation = word (N ∷ O ∷ space ∷ O ∷ P ∷ E ∷ R ∷ A ∷ T ∷ I ∷ O ∷ N ∷ newline ∷ []) ∷ []

-- ---- 1, 2, 3: new, register, rename; and 5, 6: update, insert

abbrev pub done : List ℕ → Result (Unit {0}) Refusal → List Piece
done text (Ok tt) = word text ∷ []
done text (Err e) = refused e.number

abbrev pub registered : Result ℕ Refusal → List Piece
registered (Ok p) = labelled (P ∷ A ∷ D ∷ space ∷ []) p newline ∷ []
registered (Err e) = refused e.number

-- ---- 4: pump, "each event, then `DRAINED`, `FULL`, `PAUSED` or `REFUSED n`, and place, events, steps"

abbrev pub counts : ℕ → ℕ → ℕ → List Piece
counts place events steps = number place space ∷ number events space ∷ number steps newline ∷ []

abbrev pub ended : List ℕ → List ℕ → ℕ → ℕ → ℕ → List Piece
ended out text place events steps = lines out events ∷ word text ∷ counts place events steps

abbrev pub pumped : List ℕ → PumpAnswer → List Piece
pumped out (pump_answer.Drained place events steps) = ended out drained_word place events steps
pumped out (pump_answer.Full place events steps) = ended out (F ∷ U ∷ L ∷ L ∷ space ∷ []) place events steps
pumped out (pump_answer.Paused place events steps) = ended out (P ∷ A ∷ U ∷ S ∷ E ∷ D ∷ space ∷ []) place events steps
pumped out (pump_answer.Refused n place events steps) = lines out events ∷ labelled refused_word n space ∷ counts place events steps

-- ---- 7: repeat, "the event, or `NONE`"

abbrev pub repeated : Result (Option Event) Refusal → List Piece
repeated (Ok (Some e)) = line (form_of e) ∷ []
repeated (Ok None) = word (N ∷ O ∷ N ∷ E ∷ newline ∷ []) ∷ []
repeated (Err e) = refused e.number

-- ---- 8, 9, 10: inc, counter, reset counter

abbrev pub counted : ℕ → List Piece
counted n = labelled (C ∷ O ∷ U ∷ N ∷ T ∷ E ∷ R ∷ space ∷ []) n newline ∷ []

-- ---- 11 to 18: pressed, value, button data, axis data; and 21, 22: threshold, connected

abbrev pub truth : List ℕ → Result Bool Refusal → List Piece
truth label (Ok b) = labelled label (bit b) newline ∷ []
truth label (Err e) = refused e.number

abbrev pub bits_line : List ℕ → Float → List Piece
bits_line label v = word label ∷ hex (to_bits binary32 v) newline ∷ []

abbrev pub value_line : Float → List Piece
value_line = bits_line (Vee ∷ A ∷ L ∷ U ∷ E ∷ space ∷ [])

abbrev pub threshold_line : Float → List Piece
threshold_line = bits_line (T ∷ H ∷ R ∷ E ∷ S ∷ H ∷ O ∷ L ∷ D ∷ space ∷ [])

abbrev pub button_line : ButtonData → List Piece
button_line b = word (B ∷ U ∷ T ∷ T ∷ O ∷ N ∷ space ∷ []) ∷ button_pieces b

abbrev pub stick_line : AxisData → List Piece
stick_line a = word (S ∷ T ∷ I ∷ C ∷ K ∷ space ∷ []) ∷ axis_pieces a

-- ---- 19, 20: name of a code, "255 for none"; code of a name, and 39: the lowest pressed code

abbrev pub name_word : List ℕ
name_word = N ∷ A ∷ M ∷ E ∷ space ∷ []

abbrev pub named : Result (Option ℕ) Refusal → List Piece
named (Ok (Some n)) = labelled name_word n newline ∷ []
named (Ok None) = labelled name_word no_name newline ∷ []
named (Err e) = refused e.number

abbrev pub code_line : ℕ → List Piece
code_line n = word (C ∷ O ∷ D ∷ E ∷ space ∷ []) ∷ hex n newline ∷ []

-- ---- 38: what is down on a pad, "axis 0 or 1"

abbrev pub down : Result PadDown Refusal → List Piece
down (Ok d) = labelled (D ∷ O ∷ W ∷ N ∷ space ∷ []) d.count space ∷ number (bit d.axis) newline ∷ []
down (Err e) = refused e.number

-- ---- 40: pump, its lines as in 4, then its report, "one line `TILT NONE`, `TILT INSIDE`, `TILT BETWEEN` or `TILT FULL`, after every answer"

abbrev pub reported : List ℕ → PumpAnswer → Tilt → List Piece
reported out a t = pumped out a ++ (word (T ∷ I ∷ L ∷ T ∷ space ∷ []) ∷ tilt_pieces t)

-- ---- 41: the deadzone calculation, its pair and which of the three it was

abbrev pub pair : Tilted → List Piece
pair t =
    word (P ∷ A ∷ I ∷ R ∷ space ∷ [])
    ∷ hex (to_bits binary32 t.pair.x) space ∷ hex (to_bits binary32 t.pair.y) space ∷ tilt_pieces t.tilt

-- ---- 42: since when a button is held

abbrev pub since_line : ButtonData → List Piece
since_line b = labelled (S ∷ I ∷ N ∷ C ∷ E ∷ space ∷ []) b.since newline ∷ []

-- ---- any operation

-- that leaves the hub as it is
unfoldable pub query_pieces : Asked → List Piece
query_pieces (asked.Repeat a) = repeated a
query_pieces (asked.Counter n) = counted n
query_pieces (asked.Truth a) = truth (I ∷ S ∷ space ∷ []) a
query_pieces (asked.Value a) = found value_line a
query_pieces (asked.Button a) = found button_line a
query_pieces (asked.Axis a) = found stick_line a
query_pieces (asked.Name a) = named a
query_pieces (asked.Code a) = found code_line a
query_pieces (asked.Threshold a) = found threshold_line a
query_pieces (asked.Stands a) = truth (S ∷ T ∷ A ∷ N ∷ D ∷ S ∷ space ∷ []) a
query_pieces (asked.Waiting n) = labelled (W ∷ A ∷ I ∷ T ∷ I ∷ N ∷ G ∷ space ∷ []) n newline ∷ []
query_pieces (asked.Since a) = found since_line a
query_pieces (asked.Pair t) = pair t
query_pieces (asked.Down a) = down a
query_pieces asked.Nothing = no_operation

-- that changes it; a pump's events stand in the out buffer
unfoldable pub call_pieces : List ℕ → Changed → List Piece
call_pieces out (changed.Begun a) = done (H ∷ U ∷ B ∷ newline ∷ []) a
call_pieces out (changed.Registered a) = registered a
call_pieces out (changed.Renamed a) = done (R ∷ E ∷ N ∷ A ∷ M ∷ E ∷ D ∷ newline ∷ []) a
call_pieces out (changed.Pumped a) = pumped out a
call_pieces out (changed.Reported a t) = reported out a t
call_pieces out (changed.Updated a) = done (U ∷ P ∷ D ∷ A ∷ T ∷ E ∷ D ∷ newline ∷ []) a
call_pieces out (changed.Inserted a) = done (I ∷ N ∷ S ∷ E ∷ R ∷ T ∷ E ∷ D ∷ newline ∷ []) a
call_pieces out (changed.Counter n) = counted n
call_pieces out changed.Nothing = no_operation
