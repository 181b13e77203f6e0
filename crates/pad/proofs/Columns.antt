-- Marks taken off one after another: each turn takes one off, and past the last, or past the end of the column, nothing happens.
use Rattle.std.proofs.Common.{◌≡◌, ℕ, zero, suc, ◌+◌, ◌-◌, ◌<◌, ◌≤◌, min, Bool, false, List, ◌++◌, length, take, drop, set, replicate, refl, sym, ◌∙◌, arith, add-zero, sub-one, length-set}
use Rattle.std.proofs.Math.Seq.{set_out, append_snoc}
use Rattle.std.proofs.lemmas.List.{take-append-drop, take_more_set, drop-set-lt}
use Rattle.rules.specs.Places.{cleared_of}

pub cleared-all : (marks : List Bool) (i n : ℕ) → min (length marks) (i + n) ≤ i → cleared_of marks i n ≡ marks
unfolding cleared_of
cleared-all marks i zero past = refl
cleared-all marks i (suc n) past = rw (set_out marks i false (omega arith)) (cleared-all marks (i + 1) n (omega arith))

pub cleared-next : (marks : List Bool) (i n : ℕ) → 0 < n → cleared_of marks i n ≡ cleared_of (set marks i false) (i + 1) (n - 1)
unfolding cleared_of
cleared-next marks i zero some = absurd (omega arith)
cleared-next marks i (suc n) some = rw sub-one

-- so many marks taken off, as far as there are any: so many that are off stand where those did
pub cleared-run : (marks : List Bool) (i n m : ℕ) → i ≤ length marks → m ≡ min n (length marks - i)
    → take i marks ++ (replicate m false ++ drop (i + m) marks) ≡ cleared_of marks i n
unfolding cleared_of
cleared-run marks i zero m inside is = let none : m ≡ 0 = omega arith in rw (none, add-zero i) (take-append-drop i marks)
cleared-run marks i (suc n) zero inside is = rw (add-zero i) (take-append-drop i marks ∙ sym (cleared-all marks i (suc n) (omega arith)))
cleared-run marks i (suc n) (suc m) inside is =
    let short : i < length marks = omega arith in
    let place : i + suc m ≡ i + 1 + m = omega arith in
    let next = cleared-run (set marks i false) (i + 1) n m (omega (arith, length-set marks i false)) (omega (arith, length-set marks i false)) in
    rw (place, ← drop-set-lt (i + 1 + m) marks i false (omega arith), ← append_snoc (take i marks) false, ← take_more_set marks i false short) next
