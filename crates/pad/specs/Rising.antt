-- Where a pad's codes do not fall, the halving search answers what the plain scan answers: the first place that has the code, or nowhere. The first such
-- place stays between the two ends of what is left to search.
use Prim.Native.Nat.{ℕ, zero, suc, ◌+◌, ◌-◌, ◌*◌, ◌/◌, ◌^◌, ◌<◌, ◌≤◌}
use Rattle.std.specs.Prelude.{Bool, true, false, cond, List, ◌⊎◌, ◌≡◌, eqb, ltb, get_or}
use Rattle.std.proofs.Common.{inl, inr, sym, ◌∙◌, ltb-true, ltb-false, eqb-true}
use Rattle.std.proofs.Math.Path.{refl}
use Rattle.std.proofs.Math.Nat.{pow-suc}
use native.Mathlib.Omega.{arith}
use Rattle.std.proofs.lemmas.Bool.{eqb-false}
use Rattle.rules.specs.Names.{pad_limit, places_per_pad, nowhere}
use Rattle.rules.specs.Places.{halvings, seek_of, checked_of, place_of, scan_of}
use Rattle.pad.specs.Search.{checked-outside, checked-other, checked-same, searched}
use Rattle.pad.specs.Lookup.{Absent, First, scan-cases}

-- a pad's codes do not fall: places past its last element repeat the last code
pub record NeverFalls (codes : List ℕ) (p : ℕ) : Type 0 where
  pub rises : (i j : ℕ) → places_per_pad * p ≤ i → i ≤ j → j < places_per_pad * p + places_per_pad → get_or codes i 0 ≤ get_or codes j 0

module _ (codes : List ℕ) (c i : ℕ) (own : get_or codes i 0 ≡ c) where
  -- the place lies in what is left to search, with smaller codes before it and no smaller ones after it
  record Between (lo n : ℕ) : Type 0 where
    pub from : lo ≤ i
    pub to : i ≤ lo + n
    pub below : (j : ℕ) → lo ≤ j → j < i → get_or codes j 0 < c
    pub above : (j : ℕ) → i ≤ j → j < lo + n → c ≤ get_or codes j 0

  right_of : (lo n m : ℕ) (before inside : Bool) → ltb m i ≡ before → ltb m (lo + n) ≡ inside → m ≡ lo + n / 2 → get_or codes m 0 < c
      → Between lo n → m < i
  right_of lo n m true inside eb ei e h w = ltb-true m i eb
  right_of lo n m false true eb ei e h w =
      let past = ltb-false m i eb in
      let short = ltb-true m (lo + n) ei in
      absurd (omega (arith, w.above m past short))
  right_of lo n m false false eb ei e h w =
      let past = ltb-false m i eb in
      let end = ltb-false m (lo + n) ei in
      let to = w.to in
      let from = w.from in
      let at : m ≡ i = omega arith in
      let has : get_or codes m 0 ≡ c = rw at own in
      absurd (omega arith)

  left-of : (lo n m : ℕ) (before : Bool) → ltb m i ≡ before → m ≡ lo + n / 2 → c ≤ get_or codes m 0 → Between lo n → i ≤ m
  left-of lo n m true eb e h w =
      let short = ltb-true m i eb in
      let from : lo ≤ m = omega arith in
      absurd (omega (arith, w.below m from short))
  left-of lo n m false eb e h w = ltb-false m i eb

  halve : (smaller : Bool) (k lo n : ℕ) → ltb (get_or codes (lo + n / 2) 0) c ≡ smaller → 0 < n → Between lo n
      → (Between (lo + n / 2 + 1) (n - n / 2 - 1) → seek_of k codes (lo + n / 2 + 1) (n - n / 2 - 1) c ≡ i)
      → (Between lo (n / 2) → seek_of k codes lo (n / 2) c ≡ i)
      → cond smaller (seek_of k codes (lo + n / 2 + 1) (n - n / 2 - 1) c) (seek_of k codes lo (n / 2) c) ≡ i
  halve true k lo n e some w right left =
      let h = ltb-true (get_or codes (lo + n / 2) 0) c e in
      let past = right_of lo n (lo + n / 2) (ltb (lo + n / 2) i) (ltb (lo + n / 2) (lo + n)) refl refl refl h w in
      let to = w.to in
      right
      (record {
        from = omega arith;
        to = omega arith;
        below = λ j from short. w.below j (omega arith) short;
        above = λ j from short. w.above j from (omega arith);
      })
  halve false k lo n e some w right left =
      let h = ltb-false (get_or codes (lo + n / 2) 0) c e in
      left
      (record {
        from = w.from;
        to = left-of lo n (lo + n / 2) (ltb (lo + n / 2) i) refl refl h w;
        below = w.below;
        above = λ j from short. w.above j from (omega arith);
      })

  stop : (empty : Bool) (lo n r : ℕ) → eqb n 0 ≡ empty → Between lo n → (0 < n → r ≡ i) → cond empty lo r ≡ i
  stop true lo n r e w on =
      let none = eqb-true n 0 e in
      let from = w.from in
      let to = w.to in
      omega arith
  stop false lo n r e w on =
      let some = eqb-false n 0 e in
      on (omega arith)

  seek_finds : (k lo n : ℕ) → n < 2 ^ k → Between lo n → seek_of k codes lo n c ≡ i
  unfolding seek_of
  seek_finds zero lo n few w =
      let from = w.from in
      let to = w.to in
      omega arith
  seek_finds (suc k) lo n few w =
      let double : 2 ^ suc k ≡ 2 ^ k * 2 = pow-suc 2 k in
      stop (eqb n 0) lo n _ refl w
      (λ some.
      halve (ltb (get_or codes (lo + n / 2) 0) c) k lo n refl some w
      (seek_finds k (lo + n / 2 + 1) (n - n / 2 - 1) (omega arith))
      (seek_finds k lo (n / 2) (omega arith)))

-- ---- the place of a code

module _ (codes : List ℕ) (p c : ℕ) (stands : p < pad_limit) (falls : NeverFalls codes p) where
  abbrev start : ℕ
  start = places_per_pad * p

  abbrev scanned : ℕ
  scanned = scan_of codes places_per_pad start c

  -- where no place has the code, whatever the search finds does not pass the check
  none_passes : Absent codes c start places_per_pad → (k : ℕ) (own : Bool) → eqb (k / places_per_pad) p ≡ own → nowhere ≡ checked_of codes p c k
  none_passes absent k true e =
      let own = eqb-true (k / places_per_pad) p e in
      let from : start ≤ k = omega arith in
      let to : k < start + places_per_pad = omega arith in
      checked-other codes p c k stands from to (absent.none k from to)
  none_passes absent k false e = checked-outside codes p c k stands (eqb-false (k / places_per_pad) p e)

  -- the first place that has the code: smaller codes before it, no smaller ones after it
  first-between : (i : ℕ) (first : First codes c start places_per_pad i) → Between codes c i first.has start places_per_pad
  first-between i first =
      let from = first.from in
      let to = first.to in
      record {
        from = from;
        to = omega arith;
        below =
            λ j at short.
            let other : get_or codes j 0 ≡ get_or codes i 0 → ⊥ = λ e. first.before j at short (e ∙ first.has) in
            let has = first.has in
            let most = falls.rises j i at (omega arith) to in
            omega arith;
        above =
            λ j at short.
            let has = first.has in
            let least = falls.rises i j from at short in
            omega arith;
      }

  finds : ((scanned ≡ nowhere) × Absent codes c start places_per_pad) ⊎ First codes c start places_per_pad scanned → scanned ≡ place_of codes p c
  finds (inl (nothing, absent)) =
      let k = seek_of halvings codes start places_per_pad c in
      nothing ∙ searched codes p c k nowhere refl (none_passes absent k (eqb (k / places_per_pad) p) refl)
  finds (inr first) =
      searched codes p c scanned scanned
      (sym (seek_finds codes c scanned first.has halvings start places_per_pad (omega arith) (first-between scanned first)))
      (checked-same codes p c scanned stands first.from first.to first.has)

  -- the halving search equals the plain scan
  pub place-is-scan : place_of codes p c ≡ scan_of codes places_per_pad (places_per_pad * p) c
  place-is-scan = sym (finds (scan-cases codes c places_per_pad start))

  -- a code that one of the pad's places has is found
  pub place_found : (i : ℕ) → places_per_pad * p ≤ i → i < places_per_pad * p + places_per_pad → get_or codes i 0 ≡ c → place_of codes p c < nowhere
  place_found i from to has = rw place-is-scan (by (scan-cases codes c places_per_pad start))
    where
      by : ((scanned ≡ nowhere) × Absent codes c start places_per_pad) ⊎ First codes c start places_per_pad scanned → scanned < nowhere
      by (inl (nothing, absent)) = absurd (absent.none i from to has)
      by (inr first) =
          let short = first.to in
          omega arith
