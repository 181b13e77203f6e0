-- What the proofs of printed pieces go by: an append of `lines` lays one piece, and pieces printed behind others are the two lists printed as one.
use Rattle.std.proofs.Common.{◌≡◌, refl, sym, ap, ◌∙◌, Bool, true, false, List, [], ◌∷◌, ◌++◌, ℕ, ◌+◌, length, leb}
use Rattle.lines.specs.Appending.{Appended}
use Rattle.replay_words.specs.Pieces.{Piece, piece, Written, written, laid, laid_all}

-- one append
pub lays : {room : ℕ} {text before : List ℕ} {at : ℕ} {after : List ℕ} {next : ℕ} → Appended room text before at after next
    → written after next ≡ laid_all (piece room text ∷ []) (written before at)
unfolding laid laid_all
lays {room} {text} {before} {at} {after} {next} a =
    go (leb (at + room) (length before)) refl
  where
    go : (b : Bool) → leb (at + room) (length before) ≡ b → written after next ≡ laid_all (piece room text ∷ []) (written before at)
    go true e = rw (a.is, a.place, e)
    go false e = rw (a.is, a.place, e)

pub laid-all-append : (ps qs : List Piece) (w : Written) → laid_all (ps ++ qs) w ≡ laid_all qs (laid_all ps w)
unfolding laid_all
laid-all-append [] qs w = refl
laid-all-append (p ∷ ps) qs w = laid-all-append ps qs (laid p w)

-- pieces behind others
pub behind : {w x : Written} (ps qs : List Piece) (v : Written) → w ≡ laid_all ps v → x ≡ laid_all qs w → x ≡ laid_all (ps ++ qs) v
behind ps qs v e f = f ∙ ap (laid_all qs) e ∙ sym (laid-all-append ps qs v)

-- one append behind pieces
pub then : {mid : List ℕ} {place room : ℕ} {text after : List ℕ} {next : ℕ} (ps : List Piece) (v : Written)
    → written mid place ≡ laid_all ps v
    → Appended room text mid place after next
    → written after next ≡ laid_all (ps ++ (piece room text ∷ [])) v
then ps v e a = behind ps _ v e (lays a)
