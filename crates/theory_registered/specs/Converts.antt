-- Where a code is found, and whether a pad converts, depend on the pad's own 52 places alone, so another pad's registration does not change them.
use Rattle.std.specs.Prelude.{ℕ, zero, suc, ◌+◌, ◌-◌, ◌*◌, ◌/◌, ◌<◌, ◌≤◌, Bool, cond, List, ◌≡◌, refl, eqb, ltb, length, get_or}
use Rattle.std.proofs.Math.Bool.{true, false}
use Rattle.std.proofs.Common.{sym, ◌∙◌, arith}
use Rattle.std.proofs.Math.ListN.{get_or-eq_default}
use borrow.Author.Tests.{eqb-true, eqb-false, ltb-true, ltb-false}
use Rattle.rules.specs.Names.{places_per_pad, nowhere, no_name, code_up, code_down, code_left, code_right, dpad_right}
use Rattle.rules.specs.Places.{halvings, seek_of, checked_of, place_of, scan_of, named_of, code_named, direction_named, converts_of}
use Rattle.pad.specs.Lookup.{place-stands}

-- two columns have the same in pad p's places, whatever stands past their ends
pub record SamePlaces (one two : List ℕ) (p : ℕ) : Type 0 where
  pub at : (j past : ℕ) → places_per_pad * p ≤ j → j < places_per_pad * p + places_per_pad → get_or one j past ≡ get_or two j past

scan-same : (one two : List ℕ) (c n k : ℕ) → ((j : ℕ) → k ≤ j → j < k + n → get_or one j 0 ≡ get_or two j 0) → scan_of one n k c ≡ scan_of two n k c
unfolding scan_of
scan-same one two c zero k same = refl
scan-same one two c (suc n) k same =
    rw (same k (omega arith) (omega arith), scan-same one two c n (k + 1) (λ j from to. same j (omega arith) (omega arith)))

-- the halving search reads only the places that are left to search
unless-none : (n lo one two : ℕ) (none : Bool) → eqb n 0 ≡ none → ((n ≡ 0 → ⊥) → one ≡ two) → cond none lo one ≡ cond none lo two
unless-none n lo one two true e same = refl
unless-none n lo one two false e same = same (eqb-false n 0 e)

seek-same : (one two : List ℕ) (c k lo n : ℕ) → ((j : ℕ) → lo ≤ j → j < lo + n → get_or one j 0 ≡ get_or two j 0)
    → seek_of k one lo n c ≡ seek_of k two lo n c
unfolding seek_of
seek-same one two c zero lo n same = refl
seek-same one two c (suc k) lo n same =
    let right = seek-same one two c k (lo + n / 2 + 1) (n - n / 2 - 1) (λ j from to. same j (omega arith) (omega arith)) in
    let left = seek-same one two c k lo (n / 2) (λ j from to. same j from (omega arith)) in
    unless-none n lo _ _ (eqb n 0) refl (λ some. rw (same (lo + n / 2) (omega arith) (omega arith), right, left))

module _ (one two : List ℕ) (p c : ℕ) (same : SamePlaces one two p) where
  -- what it found is checked only where it is the pad's
  checked-same : (k : ℕ) (own : Bool) → eqb (k / places_per_pad) p ≡ own → checked_of one p c k ≡ checked_of two p c k
  unfolding checked_of
  checked-same k true e =
      let at = eqb-true (k / places_per_pad) p e in
      rw (same.at k 0 (omega arith) (omega arith))
  checked-same k false e = rw e

  pub place_same : place_of one p c ≡ place_of two p c
  unfolding place_of
  place_same =
      let k = seek_of halvings two (places_per_pad * p) places_per_pad c in
      rw (seek-same one two c halvings (places_per_pad * p) places_per_pad (λ j from to. same.at j 0 from to))
      (checked-same k (eqb (k / places_per_pad) p) refl)

module _ (codes codes' names names' : List ℕ) (p : ℕ) (same_codes : SamePlaces codes codes' p) (same_names : SamePlaces names names' p)
    (long : length names ≡ nowhere) (long' : length names' ≡ nowhere) where
  name-same : (c : ℕ) (found : Bool) → ltb (place_of codes' p c) nowhere ≡ found → get_or names (place_of codes' p c) no_name ≡ get_or names' (place_of codes' p c) no_name
  name-same c true e =
      let own = (place-stands codes' p c (ltb-true (place_of codes' p c) nowhere e)).own in
      same_names.at (place_of codes' p c) no_name (omega arith) (omega arith)
  name-same c false e =
      let past = ltb-false (place_of codes' p c) nowhere e in
      get_or-eq_default names no_name {n = place_of codes' p c} (omega arith) ∙ sym (get_or-eq_default names' no_name {n = place_of codes' p c} (omega arith))

  named-same : (c : ℕ) → code_named codes names p c ≡ code_named codes' names' p c
  unfolding code_named
  named-same c = rw (place_same codes codes' p c same_codes, name-same c (ltb (place_of codes' p c) nowhere) refl)

  directions-same : direction_named codes names p ≡ direction_named codes' names' p
  unfolding direction_named
  directions-same = rw (named-same code_right, named-same code_left, named-same code_down, named-same code_up)

  right-same : named_of names p dpad_right ≡ named_of names' p dpad_right
  unfolding named_of
  right-same = rw (scan-same names names' dpad_right places_per_pad (places_per_pad * p) (λ j from to. same_names.at j 0 from to))

  pub converts-same : (hats : ℕ) → converts_of hats codes names p ≡ converts_of hats codes' names' p
  unfolding converts_of
  converts-same hats = rw (directions-same, right-same)
