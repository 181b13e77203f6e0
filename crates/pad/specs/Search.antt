-- Laws of the two searches, one for each turn of their loops: how the halving search goes on, below and above the middle, and how the scan does; and
-- what the check behind the halving search answers. By the tests that the definitions make.
use Rattle.std.specs.Prelude.{ℕ, zero, suc, ◌+◌, ◌-◌, ◌*◌, ◌/◌, ◌^◌, ◌<◌, ◌≤◌, List, ◌≡◌, refl, Bool, true, false, ◌||◌, get_or, eqb}
use Rattle.std.proofs.Common.{sym, ◌∙◌, ap, pow-suc, sub-one, arith}
use Rattle.std.proofs.lemmas.Bool.{false≢true}
use borrow.Author.Tests.{lt-ltb, le-ltb, eq-eqb, ne_eqb, eqb-false}
use Rattle.rules.specs.Names.{pad_limit, places_per_pad, nowhere}
use Rattle.rules.specs.Places.{halvings, seek_of, checked_of, place_of, scan_of}
use Rattle.pad.specs.Found.{Sought, Halved}

-- ---- the halving search

seek-none : (k : ℕ) (codes : List ℕ) (lo c : ℕ) → lo ≡ seek_of k codes lo 0 c
unfolding seek_of
seek-none zero codes lo c = refl
seek-none (suc k) codes lo c = refl

-- a halving more changes nothing, where those there are suffice
seek-more : (k : ℕ) (codes : List ℕ) (lo n c : ℕ) → n < 2 ^ k → seek_of (suc k) codes lo n c ≡ seek_of k codes lo n c
unfolding seek_of
seek-more zero codes lo n c few =
    let empty : n ≡ 0 = omega arith in
    rw (eq-eqb n 0 empty)
seek-more (suc k) codes lo n c few =
    let double : 2 ^ suc k ≡ 2 ^ k * 2 = pow-suc 2 k in
    rw (seek-more k codes (lo + n / 2 + 1) (n - n / 2 - 1) c (omega arith), seek-more k codes lo (n / 2) c (omega arith))

-- how the search goes on among k places: from m on, behind the middle, or before it
module _ (codes : List ℕ) (lo n c middle k : ℕ) (some : 0 < n) (few : n ≤ places_per_pad) (at : middle ≡ lo + n / 2) where
  not-empty : n ≡ 0 → ⊥
  not-empty e = omega arith

  seek-behind : (m : ℕ) → m ≡ middle + 1 → k ≡ n - n / 2 - 1 → get_or codes middle 0 < c → seek_of halvings codes m k c ≡ seek_of halvings codes lo n c
  unfolding seek_of
  seek-behind m from left below =
      rw (ne_eqb n 0 not-empty, ← at, lt-ltb (get_or codes middle 0) c below, ← from, ← left) (seek-more 5 codes m k c (omega arith))

  seek-before : k ≡ n / 2 → c ≤ get_or codes middle 0 → seek_of halvings codes lo k c ≡ seek_of halvings codes lo n c
  unfolding seek_of
  seek-before left above = rw (ne_eqb n 0 not-empty, ← at, le-ltb (get_or codes middle 0) c above, ← left) (seek-more 5 codes lo k c (omega arith))

-- what is found among the places that are left is found among all
module _ {codes : List ℕ} {lo n c r : ℕ} (middle : ℕ) where
  pub sought-behind : {m : ℕ} → (0 < n) × (n ≤ places_per_pad) × (middle ≡ lo + n / 2) × (m ≡ middle + 1) → get_or codes middle 0 < c
      → Sought codes m (n - n / 2 - 1) c r → Sought codes lo n c r
  sought-behind {m} (some, few, at, from) below s =
      let f = s.from in
      let t = s.to in
      record { is = s.is ∙ seek-behind codes lo n c middle (n - n / 2 - 1) some few at m from refl below; from = omega arith; to = omega arith }

  pub sought-before : (0 < n) × (n ≤ places_per_pad) × (middle ≡ lo + n / 2) → c ≤ get_or codes middle 0 → Sought codes lo (n / 2) c r
      → Sought codes lo n c r
  sought-before (some, few, at) above s =
      let t = s.to in
      record { is = s.is ∙ seek-before codes lo n c middle (n / 2) some few at refl above; from = s.from; to = omega arith }

pub sought-half : {codes : List ℕ} {lo half m c r : ℕ} → Halved codes lo half c m → Sought codes m half c r → Sought codes lo (half + half + 1) c r
sought-half h s =
    let above = h.from in
    let below = h.to in
    let f = s.from in
    let t = s.to in
    record { is = s.is ∙ h.is; from = omega arith; to = omega arith }

pub sought-none : {codes : List ℕ} {lo c : ℕ} → Sought codes lo 0 c lo
sought-none {codes} {lo} {c} = record { is = seek-none halvings codes lo c; from = omega arith; to = omega arith }

-- the two halves of an odd number of places
module _ {codes : List ℕ} {lo half c : ℕ} (few : half < places_per_pad / 2) where
  pub halved-behind : get_or codes (lo + half) 0 < c → Halved codes lo half c (lo + half + 1)
  halved-behind below =
      record {
        is = seek-behind codes lo (half + half + 1) c (lo + half) half (omega arith) (omega arith) (omega arith) (lo + half + 1) refl (omega arith) below;
        from = omega arith;
        to = omega arith;
      }

  pub halved-before : c ≤ get_or codes (lo + half) 0 → Halved codes lo half c lo
  halved-before above =
      record {
        is = seek-before codes lo (half + half + 1) c (lo + half) half (omega arith) (omega arith) (omega arith) (omega arith) above;
        from = omega arith;
        to = omega arith;
      }

-- ---- the check

module _ (codes : List ℕ) (p c k : ℕ) where
  pub checked-no-pad : pad_limit ≤ p → nowhere ≡ checked_of codes p c k
  unfolding checked_of
  checked-no-pad past = rw (le-ltb p pad_limit past)

  pub checked-outside : p < pad_limit → (k / places_per_pad ≡ p → ⊥) → nowhere ≡ checked_of codes p c k
  unfolding checked_of
  checked-outside stands other = rw (lt-ltb p pad_limit stands, ne_eqb (k / places_per_pad) p other)

  module _ (stands : p < pad_limit) (from : places_per_pad * p ≤ k) (to : k < places_per_pad * p + places_per_pad) where
    own : k / places_per_pad ≡ p
    own = omega arith

    pub checked-other : (get_or codes k 0 ≡ c → ⊥) → nowhere ≡ checked_of codes p c k
    unfolding checked_of
    checked-other other = rw (lt-ltb p pad_limit stands, eq-eqb (k / places_per_pad) p own, ne_eqb (get_or codes k 0) c other)

    pub checked-same : get_or codes k 0 ≡ c → k ≡ checked_of codes p c k
    unfolding checked_of
    checked-same same = rw (lt-ltb p pad_limit stands, eq-eqb (k / places_per_pad) p own, eq-eqb (get_or codes k 0) c same)

-- what the check answers for the place that the search finds
pub searched : (codes : List ℕ) (p c k r : ℕ) → k ≡ seek_of halvings codes (places_per_pad * p) places_per_pad c → r ≡ checked_of codes p c k
    → r ≡ place_of codes p c
unfolding place_of
searched codes p c k r found answer = answer ∙ ap (checked_of codes p c) found

-- ---- the scan

pub scan-here : (names : List ℕ) (k n name : ℕ) → 0 < n → get_or names k 0 ≡ name → k ≡ scan_of names n k name
unfolding scan_of
scan-here names k zero name some same = absurd (omega arith)
scan-here names k (suc n) name some same = rw (eq-eqb (get_or names k 0) name same)

pub scan-next : (names : List ℕ) (k n name : ℕ) → 0 < n → (get_or names k 0 ≡ name → ⊥) → scan_of names n k name ≡ scan_of names (n - 1) (k + 1) name
unfolding scan_of
scan-next names k zero name some other = absurd (omega arith)
scan-next names k (suc n) name some other = rw (ne_eqb (get_or names k 0) name other, sub-one)

pub scan-none : (names : List ℕ) (k n name : ℕ) → n ≤ 0 → nowhere ≡ scan_of names n k name
unfolding scan_of
scan-none names k zero name none = refl
scan-none names k (suc n) name none = absurd (omega arith)

-- as long as the name was not found among the first places, the scan goes on behind them
pub early-next :
    (names : List ℕ) (start i name whole : ℕ) (found : Bool) →
    i < places_per_pad →
    (found ≡ false → scan_of names (places_per_pad - i) (start + i) name ≡ whole) →
    found || eqb (get_or names (start + i) 0) name ≡ false →
    scan_of names (places_per_pad - (i + 1)) (start + (i + 1)) name ≡ whole
early-next names start i name whole true low done none = absurd (false≢true (sym none))
early-next names start i name whole false low done none =
    let other = eqb-false (get_or names (start + i) 0) name none in
    let fewer : places_per_pad - (i + 1) ≡ places_per_pad - i - 1 = omega arith in
    let next : start + (i + 1) ≡ start + i + 1 = omega arith in
    rw (fewer, next) (sym (scan-next names (start + i) (places_per_pad - i) name (omega arith) other) ∙ done refl)
