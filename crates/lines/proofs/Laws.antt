-- What appending does to a buffer: it keeps its length, and a text appended behind another is the two laid as one. The idea: a laid text splits the
-- buffer where it ends, and the second text is laid over what was left there.
use Rattle.std.proofs.Common.{◌≡◌, refl, sym, ap, ◌∙◌, Bool, true, false, List, [], ◌∷◌, ◌++◌, append_assoc, ℕ, ◌+◌, ◌≤◌, ◌<◌, arith, length, take, drop, length-append, length-drop, leb}
use Rattle.std.proofs.Math.ListN.{take-append-drop}
use Rattle.std.proofs.Math.Seq.{length-take-le, take_at, drop-append-add, drop-drop}
use borrow.Author.Tests.{le-leb, lt-leb, leb-true, leb-false}
use Rattle.lines.specs.Appending.{laid_over, Appended}

-- what `if !fits(..)` tells where it is taken, and where it is left
pub lacking : (b : Bool) (n m : ℕ) → b ≡ leb m n → b ≡ false → n < m
lacking b n m e f = leb-false m n (sym e ∙ f)

pub having : (b : Bool) (n m : ℕ) → b ≡ leb m n → b ≡ true → m ≤ n
having b n m e t = leb-true m n (sym e ∙ t)

-- the text stands at its place: what `Appended` says where there is room
pub record Laid (used : ℕ) (text before : List ℕ) (at : ℕ) (after : List ℕ) (next : ℕ) : Type 0 where
  pub is : after ≡ laid_over before at text
  pub place : next ≡ at + length text
  pub short : length text ≤ used

module _ (room : ℕ) (text before : List ℕ) (at : ℕ) (after : List ℕ) (next : ℕ) where
  pub laid : Appended room text before at after next → at + room ≤ length before → Laid room text before at after next
  laid a h =
      record {
        is = a.is ∙ rw (le-leb _ _ h);
        place = a.place ∙ rw (le-leb _ _ h);
        short = a.short;
      }

  pub appended : at + room ≤ length before → Laid room text before at after next → Appended room text before at after next
  appended h l =
      record {
        is = l.is ∙ sym (rw (le-leb _ _ h));
        place = l.place ∙ sym (rw (le-leb _ _ h));
        short = l.short;
      }

-- no room
pub untouched : (room : ℕ) (text before : List ℕ) (at : ℕ) → length text ≤ room → length before < at + room → Appended room text before at before at
untouched room text before at s h = record { is = sym (rw (lt-leb _ _ h)); place = sym (rw (lt-leb _ _ h)); short = s }

-- the part before the place and the text
laid-front : (before : List ℕ) (at : ℕ) (text : List ℕ) → at ≤ length before → length (take at before ++ text) ≡ at + length text
laid-front before at text h = rw (length-append, length-take-le at before)

-- laying a text keeps the buffer's length
pub laid-length : (before : List ℕ) (at : ℕ) (text : List ℕ) → at + length text ≤ length before → length (laid_over before at text) ≡ length before
unfolding laid_over
laid-length before at text h =
    let k : at ≤ length before = omega arith in
    rw (length-append, length-append, length-drop, length-take-le at before) (omega arith)

-- a text laid behind another
laid-twice : (before : List ℕ) (at : ℕ) (text more : List ℕ) → at + length text ≤ length before
    → laid_over (laid_over before at text) (at + length text) more ≡ laid_over before at (text ++ more)
unfolding laid_over
laid-twice before at text more h =
    let k : at ≤ length before = omega arith in
    let n = at + length text in
    let front = take at before ++ text in
    let rest = drop n before in
    let long : length front ≡ n = laid-front before at text k in
    let whole : take at before ++ (text ++ rest) ≡ front ++ rest = sym (append_assoc (take at before) text rest) in
    let first : take n (take at before ++ (text ++ rest)) ≡ front = ap (take n) whole ∙ take_at front rest n long in
    let end : n + length more ≡ at + length (text ++ more) = omega (arith, length-append text more) in
    let second : drop (n + length more) (take at before ++ (text ++ rest)) ≡ drop (at + length (text ++ more)) before =
    ap (drop (n + length more)) whole ∙ ap (λ (j : ℕ). drop (j + length more) (front ++ rest)) (sym long)
    ∙ drop-append-add front rest (length more) ∙ drop-drop (length more) n before ∙ ap (λ (j : ℕ). drop j before) end in
    ap (λ (f : List ℕ). f ++ (more ++ drop (n + length more) (take at before ++ (text ++ rest)))) first
    ∙ ap (λ (b : List ℕ). front ++ (more ++ b)) second ∙ simp append_assoc

-- a text appended behind one that is laid
pub more : (used : ℕ) (text before : List ℕ) (at : ℕ) (mid : List ℕ) (place room : ℕ) (next : List ℕ) (after : List ℕ) (end : ℕ)
    → Laid used text before at mid place
    → Appended room next mid place after end
    → at + (used + room) ≤ length before
    → Laid (used + room) (text ++ next) before at after end
more used text before at mid place room next after end l a h =
    let s : length text ≤ used = l.short in
    let t : length next ≤ room = a.short in
    let fit : at + length text ≤ length before = omega arith in
    let same : length mid ≡ length before = ap length l.is ∙ laid-length before at text fit in
    let p : place ≡ at + length text = l.place in
    let left : place + room ≤ length mid = omega arith in
    let b : Laid room next mid place after end = laid room next mid place after end a left in
    let q : end ≡ place + length next = b.place in
    let both : length (text ++ next) ≡ length text + length next = length-append text next in
    record {
      is = b.is ∙ ap (λ (m : List ℕ). laid_over m place next) l.is ∙ ap (λ (n : ℕ). laid_over (laid_over before at text) n next) l.place ∙ laid-twice before at text next fit;
      place = omega arith;
      short = omega arith;
    }

-- nothing is laid yet
pub laid_none : (before : List ℕ) (at : ℕ) → at ≤ length before → Laid 0 [] before at before at
unfolding laid_over
laid_none before at h =
    let start : at + 0 ≡ at = omega arith in
    record {
      is = sym (ap (λ (n : ℕ). take at before ++ drop n before) start ∙ take-append-drop at before);
      place = omega arith;
      short = omega arith;
    }

-- a laid text under another name and bound
pub grown : (used bound : ℕ) (text name before : List ℕ) (at : ℕ) (after : List ℕ) (next : ℕ)
    → Laid used text before at after next
    → text ≡ name
    → used ≤ bound
    → Laid bound name before at after next
grown used bound text name before at after next l e u =
    let s : length text ≤ used = l.short in
    let same : length text ≡ length name = ap length e in
    record { is = l.is ∙ ap (laid_over before at) e; place = l.place ∙ ap (λ (n : ℕ). at + n) same; short = omega arith }

-- the same where the room for it was asked
pub named : (used room : ℕ) (text name before : List ℕ) (at : ℕ) (after : List ℕ) (next : ℕ)
    → Laid used text before at after next
    → text ≡ name
    → used ≤ room
    → at + room ≤ length before
    → Appended room name before at after next
named used room text name before at after next l e u h = appended room name before at after next h (grown used room text name before at after next l e u)

-- a text of at most `size` bytes and one byte behind it
pub ended : (size end : ℕ) (text name before : List ℕ) (at : ℕ) (mid : List ℕ) (place : ℕ) (after : List ℕ) (next : ℕ)
    → text ≡ name
    → length name ≤ size
    → Appended (length text) text before at mid place
    → Appended 1 (end ∷ []) mid place after next
    → at + (size + 1) ≤ length before
    → Appended (size + 1) (name ++ (end ∷ [])) before at after next
ended size end text name before at mid place after next e short first second room =
    let same : length text ≡ length name = ap length e in
    let l : Laid (length text) text before at mid place = laid _ _ _ _ _ _ first (omega arith) in
    named _ _ _ _ _ _ _ _ (more _ _ _ _ _ _ _ _ _ _ l second (omega arith)) (ap (λ (t : List ℕ). t ++ (end ∷ [])) e) (omega arith) room

-- the bytes up to behind a laid text
pub laid-take : (used : ℕ) (text before : List ℕ) (at : ℕ) (after : List ℕ) (next : ℕ) → Laid used text before at after next → at + used ≤ length before → take next after ≡ take at before ++ text
unfolding laid_over
laid-take used text before at after next l h =
    let s : length text ≤ used = l.short in
    let k : at ≤ length before = omega arith in
    let rest = drop (at + length text) before in
    rw (l.place, l.is) (ap (take (at + length text)) (sym (append_assoc (take at before) text rest)) ∙ take_at (take at before ++ text) rest (at + length text) (laid-front before at text k))

-- appending keeps the buffer's length
pub appended-length : (room : ℕ) (text before : List ℕ) (at : ℕ) (after : List ℕ) (next : ℕ) → Appended room text before at after next → length after ≡ length before
appended-length room text before at after next a =
    go (leb (at + room) (length before)) refl
  where
    go : (b : Bool) → leb (at + room) (length before) ≡ b → length after ≡ length before
    go true e =
        let h : at + room ≤ length before = omega (arith, leb-true) in
        let s : length text ≤ room = a.short in
        let fit : at + length text ≤ length before = omega arith in
        ap length (laid room text before at after next a h).is ∙ laid-length before at text fit
    go false e = let same : after ≡ before = a.is ∙ rw e in ap length same
