-- What stands between two operations, with the text so far, and what an operation prints behind it. Definitions, and the laws that its code goes by.
use Rattle.std.specs.Prelude.{ℕ, Bool, true, false, cond, not, List, [], ◌∷◌, ◌≡◌, eqb, Err, Ok}
use Rattle.std.proofs.Common.{ap}
use Rattle.rules.specs.declared.Hub.{Hub}
use Rattle.hub.specs.declared.Head.{Head}
use Rattle.lines.specs.Letters.{B, H, N, O, U, space, newline}
use Rattle.replay_answers.specs.declared.Asked.{Asked}
use Rattle.replay_answers.specs.declared.Changed.{Changed}
use Rattle.replay_answers.specs.declared.Changed.TheVariants as changed
use Rattle.replay_answers.specs.declared.Told.{Told}
use Rattle.replay_answers.specs.Opcodes as opcodes
use Rattle.replay_words.specs.Pieces.{Piece, Written, word, written, laid_all}
use Rattle.replay_lines.specs.Lines.{query_pieces, call_pieces}
use Rattle.replay_dump.specs.Dump.{dump_pieces}
use Rattle.replay_queries.specs.Asked.{asked_of}
use Rattle.replay_turns.specs.declared.Game.{Game}

-- whether a hub stands, its head, and the text with the place behind it
pub record Shown : Type 0 where
  pub stands : Bool
  pub head : Head
  pub text : Written

abbrev pub shown : Game → List ℕ → Shown
shown g text = record { stands = g.stands; head = g.head; text = written text g.at }

-- what was printed is what stands in the text
pub text-is : (stands : Bool) (head : Head) {text : List ℕ} {at : ℕ} {w : Written} → written text at ≡ w
    → shown (record { stands = stands; head = head; at = at }) text ≡ record { stands = stands; head = head; text = w }
text-is stands head e = ap (λ (w : Written). record { stands = stands; head = head; text = w }) e

-- ---- an operation that changes the hub

-- `new` was an operation of the form, and was not refused
abbrev pub begun_of : Changed → Bool
begun_of (changed.Begun (Ok tt)) = true
begun_of (changed.Begun (Err e)) = false
begun_of (changed.Registered a) = false
begun_of (changed.Renamed a) = false
begun_of (changed.Pumped a) = false
begun_of (changed.Reported a t) = false
begun_of (changed.Updated a) = false
begun_of (changed.Inserted a) = false
begun_of (changed.Counter n) = false
begun_of changed.Nothing = false

-- after any other a hub stands, since it needed one
abbrev pub stands_after : ℕ → Changed → Bool
stands_after opcode a = cond (eqb opcode opcodes.new) (begun_of a) true

abbrev pub after_of : Told → ℕ → List ℕ → Written → Shown
after_of t opcode out w =
    record { stands = stands_after opcode t.answer; head = t.head; text = laid_all (call_pieces out t.answer) w }

-- ---- one that leaves it as it is

abbrev pub behind_of : Game → ℕ → Game
behind_of g at = record { stands = g.stands; head = g.head; at = at }

abbrev pub no_hub : List Piece
no_hub = word (N ∷ O ∷ space ∷ H ∷ U ∷ B ∷ newline ∷ []) ∷ []

abbrev pub queried_pieces : Bool → Hub → ℕ → List ℕ → List Piece
queried_pieces stands h opcode payload =
    cond (not stands) no_hub (cond (eqb opcode opcodes.dump) (dump_pieces h) (query_pieces (asked_of h opcode payload)))

unfoldable pub queried_of : Game → Hub → ℕ → List ℕ → List ℕ → Shown
queried_of g h opcode payload text =
    record { stands = g.stands; head = g.head; text = laid_all (queried_pieces g.stands h opcode payload) (written text g.at) }

-- ---- the three ways of one that leaves the hub as it is

module _ (g : Game) (h : Hub) (opcode : ℕ) (payload before text : List ℕ) {r : Game} {at : ℕ} (same : r ≡ behind_of g at) where
  queried-is : {ps : List Piece} → queried_pieces g.stands h opcode payload ≡ ps → written text at ≡ laid_all ps (written before g.at)
      → shown r text ≡ queried_of g h opcode payload before
  unfolding queried_of
  queried-is pieces printed = rw (same, pieces) (text-is g.stands g.head printed)

  pub no-hub-is : not g.stands ≡ true → written text at ≡ laid_all no_hub (written before g.at) → shown r text ≡ queried_of g h opcode payload before
  no-hub-is none = queried-is (rw none)

  pub dump-is : not g.stands ≡ false → eqb opcode opcodes.dump ≡ true → written text at ≡ laid_all (dump_pieces h) (written before g.at)
      → shown r text ≡ queried_of g h opcode payload before
  dump-is stands dump = queried-is (rw (stands, dump))

  pub query-is : {a : Asked} → not g.stands ≡ false → eqb opcode opcodes.dump ≡ false → a ≡ asked_of h opcode payload
      → written text at ≡ laid_all (query_pieces a) (written before g.at)
      → shown r text ≡ queried_of g h opcode payload before
  query-is stands query asked = queried-is (rw (stands, query, ← asked))
