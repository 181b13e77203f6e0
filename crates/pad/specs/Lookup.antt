-- What a place that was found is, whatever the columns hold: it is the pad's and has the code, or the name, so that the places of different codes differ.
-- The lookup of a code checks what it found, and its answer shows that the check passed; the scan for a name stops at it.
use Prim.Native.Nat.{ℕ, zero, suc, ◌+◌, ◌*◌, ◌/◌, ◌<◌, ◌≤◌}
use Rattle.std.specs.Prelude.{Bool, cond, ◌&&◌, List, ◌⊎◌, ◌≡◌, ltb, get_or}
use Rattle.std.proofs.Math.Bool.{true, false}
use Rattle.std.proofs.Math.Logic.{inl, inr}
use Rattle.std.proofs.Math.Path.{refl}
use Rattle.std.proofs.Common.{sym, ◌∙◌, subst}
use native.Mathlib.Omega.{arith}
use Rattle.std.proofs.Math.Dec.{eqb}
use borrow.Author.Tests.{ltb-true, ltb-false, eqb-true, eqb-false}
use Rattle.rules.specs.Names.{pad_limit, places_per_pad, nowhere}
use Rattle.rules.specs.Places.{halvings, seek_of, checked_of, place_of, scan_of, named_of}

-- the place is the pad's, and the column has the number there
pub record Stands (column : List ℕ) (p c k : ℕ) : Type 0 where
  pub pad : p < pad_limit
  pub own : k / places_per_pad ≡ p
  pub has : get_or column k 0 ≡ c

stands-below : {column : List ℕ} {p c k : ℕ} → Stands column p c k → k < nowhere
stands-below {column} {p} {c} {k} s =
    let stands = s.pad in
    let own = s.own in
    omega arith

-- where an answer is nowhere or stands, it is at most nowhere, and one below stands
module _ (column : List ℕ) (p c r : ℕ) where
  small : (r ≡ nowhere) ⊎ Stands column p c r → r ≤ nowhere
  small (inl none) = omega arith
  small (inr s) =
      let below = stands-below s in
      omega arith

  found : (r ≡ nowhere) ⊎ Stands column p c r → r < nowhere → Stands column p c r
  found (inl none) below = absurd (omega arith)
  found (inr s) below = s

-- ---- the place of a code

module _ (codes : List ℕ) (p c : ℕ) where
  checked-by : (k : ℕ) (stands own has : Bool) → ltb p pad_limit ≡ stands → eqb (k / places_per_pad) p ≡ own → eqb (get_or codes k 0) c ≡ has
      → (cond (stands && (own && has)) k nowhere ≡ nowhere) ⊎ Stands codes p c (cond (stands && (own && has)) k nowhere)
  checked-by k true true true s o h =
      inr (record { pad = ltb-true p pad_limit s; own = eqb-true (k / places_per_pad) p o; has = eqb-true (get_or codes k 0) c h })
  checked-by k true true false s o h = inl refl
  checked-by k true false has s o h = inl refl
  checked-by k false own has s o h = inl refl

  place-cases : (place_of codes p c ≡ nowhere) ⊎ Stands codes p c (place_of codes p c)
  unfolding place_of checked_of
  place-cases =
      let k = seek_of halvings codes (places_per_pad * p) places_per_pad c in
      checked-by k (ltb p pad_limit) (eqb (k / places_per_pad) p) (eqb (get_or codes k 0) c) refl refl refl

  pub place-small : place_of codes p c ≤ nowhere
  place-small = small codes p c (place_of codes p c) place-cases

  pub place-stands : place_of codes p c < nowhere → Stands codes p c (place_of codes p c)
  place-stands = found codes p c (place_of codes p c) place-cases

-- a place that two lookups find is of one pad and one code
pub places-differ : (codes : List ℕ) (p c q d : ℕ) → place_of codes p c < nowhere → place_of codes p c ≡ place_of codes q d → (p ≡ q) × (c ≡ d)
places-differ codes p c q d below same =
    let s = place-stands codes p c below in
    let t = subst (Stands codes q d) (sym same) (place-stands codes q d (subst (λ (k : ℕ). k < nowhere) same below)) in
    (sym s.own ∙ t.own, sym s.has ∙ t.has)

-- ---- the scan: the first place of n that has the number, or none has it

module _ (column : List ℕ) (c : ℕ) where
  pub record Absent (k n : ℕ) : Type 0 where
    pub none : (j : ℕ) → k ≤ j → j < k + n → get_or column j 0 ≡ c → ⊥

  pub record First (k n r : ℕ) : Type 0 where
    pub from : k ≤ r
    pub to : r < k + n
    pub has : get_or column r 0 ≡ c
    pub before : (j : ℕ) → k ≤ j → j < r → get_or column j 0 ≡ c → ⊥

  -- neither at k, nor from k + 1 on below m: not from k on
  from-here : (k m : ℕ) → (get_or column k 0 ≡ c → ⊥) → ((j : ℕ) → k + 1 ≤ j → j < m → get_or column j 0 ≡ c → ⊥) → (j : ℕ) → k ≤ j → j < m
      → get_or column j 0 ≡ c → ⊥
  from-here k m here rest j from to same = by (ltb k j) refl
    where
      by : (later : Bool) → ltb k j ≡ later → ⊥
      by true e =
          let past = ltb-true k j e in
          rest j (omega arith) to same
      by false e =
          let past = ltb-false k j e in
          let q : j ≡ k = omega arith in
          here (subst (λ (i : ℕ). get_or column i 0 ≡ c) q same)

  pub scan-cases : (n k : ℕ) → ((scan_of column n k c ≡ nowhere) × Absent k n) ⊎ First k n (scan_of column n k c)
  unfolding scan_of
  scan-cases zero k = inl (refl, record { none = λ j from to same. omega arith })
  scan-cases (suc n) k = by (eqb (get_or column k 0) c) refl (scan-cases n (k + 1))
    where
      by : (here : Bool) → eqb (get_or column k 0) c ≡ here
          → ((scan_of column n (k + 1) c ≡ nowhere) × Absent (k + 1) n) ⊎ First (k + 1) n (scan_of column n (k + 1) c)
          → ((cond here k (scan_of column n (k + 1) c) ≡ nowhere) × Absent k (suc n)) ⊎ First k (suc n) (cond here k (scan_of column n (k + 1) c))
      by true e rest =
          inr (record { from = omega arith; to = omega arith; has = eqb-true (get_or column k 0) c e; before = λ j from to same. omega arith })
      by false e (inl (nothing, absent)) =
          inl (
            nothing,
            record {
              none =
                  λ j from to. from-here k (k + suc n) (eqb-false (get_or column k 0) c e) (λ i f t. absent.none i f (omega arith)) j from to;
            },
          )
      by false e (inr first) =
          inr
          (record {
            from =
                let from = first.from in
                omega arith;
            to =
                let to = first.to in
                omega arith;
            has = first.has;
            before = from-here k (scan_of column n (k + 1) c) (eqb-false (get_or column k 0) c e) first.before;
          })

-- ---- the place of a name

module _ (names : List ℕ) (p name : ℕ) where
  named_by : (stands : Bool) → ltb p pad_limit ≡ stands
      → ((cond stands (scan_of names places_per_pad (places_per_pad * p) name) nowhere ≡ nowhere)
      ⊎ Stands names p name (cond stands (scan_of names places_per_pad (places_per_pad * p) name) nowhere))
  named_by false e = inl refl
  named_by true e = by (scan-cases names name places_per_pad (places_per_pad * p))
    where
      place : ℕ
      place = scan_of names places_per_pad (places_per_pad * p) name

      by : ((place ≡ nowhere) × Absent names name (places_per_pad * p) places_per_pad) ⊎ First names name (places_per_pad * p) places_per_pad place
          → (place ≡ nowhere) ⊎ Stands names p name place
      by (inl (nothing, absent)) = inl nothing
      by (inr first) =
          let from = first.from in
          let to = first.to in
          inr (record { pad = ltb-true p pad_limit e; own = omega arith; has = first.has })

  named-cases : (named_of names p name ≡ nowhere) ⊎ Stands names p name (named_of names p name)
  unfolding named_of
  named-cases = named_by (ltb p pad_limit) refl

  pub named_small : named_of names p name ≤ nowhere
  named_small = small names p name (named_of names p name) named-cases

  pub named-stands : named_of names p name < nowhere → Stands names p name (named_of names p name)
  named-stands = found names p name (named_of names p name) named-cases
