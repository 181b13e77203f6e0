-- What the loops' invariants go by: the pieces of one number more.
use Rattle.std.proofs.Common.{◌≡◌, List, ℕ, ◌+◌, add-one}
use Rattle.replay_words.specs.Pieces.{Piece, Written, laid_all}
use Rattle.replay_words.proofs.Laws.{behind}
use Rattle.replay_dump.specs.Dump.{up_to}

pub one_more : {w x : Written} (pieces : ℕ → List Piece) (n : ℕ) (v : Written)
    → w ≡ laid_all (up_to pieces n) v
    → x ≡ laid_all (pieces n) w
    → x ≡ laid_all (up_to pieces (n + 1)) v
unfolding up_to
one_more pieces n v e f = rw (add-one n) (behind _ _ v e f)
