-- The law book's scan over all places, taken pad by pad: what a pad's run of records gives is what its places give, a pad that is not connected gives nothing,
-- and the first place that a pad gives is the first of all. By induction over the places.
use Prim.Native.Nat.{ℕ, zero, suc, ◌+◌, ◌-◌, ◌*◌, ◌/◌, ◌≤◌, ◌<◌}
use Rattle.std.specs.Prelude.{◌≡◌, Bool, cond, ◌&&◌, List, get_or, set, length, eqb, ltb}
use Rattle.std.proofs.Math.Path.{refl}
use Rattle.std.proofs.Common.{sym, ◌∙◌, ap, get_or-set_same, get_or-set_other}
use Rattle.std.proofs.Math.Bool.{true, false}
use native.Mathlib.Omega.{arith}
use borrow.Author.Tests.{lt-ltb, le-ltb, eqb-true, eqb-false}
use Rattle.rules.specs.declared.ButtonData.{ButtonData}
use Rattle.rules.specs.Names.{places_per_pad, nowhere}
use Rattle.rules.specs.Hub.{past_button}
use Rattle.rules.specs.Calls.{blank_button}
use Rattle.rules.specs.Repeat.{due_of, first_due}
use Rattle.repeat.specs.Run.{first_from, first_of}

-- a place's record in its pad's run: one that is not known is blank, and a blank record is never due
abbrev pub record_of : Bool → ButtonData → ButtonData
record_of known b = cond known b blank_button

due-record : (known : Bool) (b : ButtonData) (after every now : ℕ) → due_of true (record_of known b) after every now ≡ due_of known b after every now
unfolding due_of
due-record true b after every now = refl
due-record false b after every now = refl

-- the records of the places from start on
abbrev pub Gathered : List Bool → List ButtonData → ℕ → List ButtonData → Type 0
Gathered hasbutton buttons start run =
    (i : ℕ) → i < places_per_pad → get_or run i past_button ≡ record_of (get_or hasbutton (start + i) false) (get_or buttons (start + i) past_button)

-- the run with one record more
module _ (f : ℕ → ButtonData) (run : List ButtonData) (i : ℕ) (b : ButtonData) (room : i < length run) (is : b ≡ f i) where
  one_more : (j : ℕ) (here : Bool) → eqb j i ≡ here → (j < i → get_or run j past_button ≡ f j) → j < i + 1 → get_or (set run i b) j past_button ≡ f j
  one_more j true e before l =
      let at : j ≡ i = eqb-true j i e in
      rw (at, get_or-set_same run i b past_button room, is)
  one_more j false e before l =
      let other : j ≡ i → ⊥ = eqb-false j i e in
      get_or-set_other run i j b past_button other ∙ before (omega arith)

  pub gathered-more :
      ((j : ℕ) → j < i → get_or run j past_button ≡ f j) → (j : ℕ) → j < i + 1 → get_or (set run i b) j past_button ≡ f j
  gathered-more before j l = one_more j (eqb j i) refl (before j) l

module _ (connected hasbutton : List Bool) (buttons : List ButtonData) (after every now : ℕ) where
  -- whether a record is due, and whether its pad is connected too
  abbrev due-at : ℕ → Bool
  due-at k = due_of (get_or hasbutton k false) (get_or buttons k past_button) after every now

  abbrev test : ℕ → Bool
  test k = get_or connected (k / places_per_pad) false && due-at k

  -- the first due of the n places from k on
  abbrev pub first : ℕ → ℕ → ℕ
  first n k = first_due connected hasbutton buttons after every now n k

  hit : (n k : ℕ) → test k ≡ true → first (suc n) k ≡ k
  unfolding first_due
  hit n k e = rw e

  miss : (n k : ℕ) → test k ≡ false → first (suc n) k ≡ first n (k + 1)
  unfolding first_due
  miss n k e = rw e

  none : (k : ℕ) → first 0 k ≡ nowhere
  unfolding first_due
  none k = refl

  -- ---- a record there is due

  -- by whether the first of the places is due; what the others give is handed in
  there : (n k : ℕ) (joined due : Bool) → get_or connected (k / places_per_pad) false ≡ joined → due-at k ≡ due
      → (first n (k + 1) < nowhere → due-at (first n (k + 1)) ≡ true) → first (suc n) k < nowhere → due-at (first (suc n) k) ≡ true
  there n k true true j d behind l = ap due-at (hit n k (rw (j, d))) ∙ d
  there n k true false j d behind l =
      let e : first (suc n) k ≡ first n (k + 1) = miss n k (rw (j, d)) in
      ap due-at e ∙ behind (omega arith)
  there n k false due j d behind l =
      let e : first (suc n) k ≡ first n (k + 1) = miss n k (rw j) in
      ap due-at e ∙ behind (omega arith)

  due-there : (n k : ℕ) → first n k < nowhere → due-at (first n k) ≡ true
  due-there zero k l = absurd (omega (arith, l, none k))
  due-there (suc n) k l = there n k (get_or connected (k / places_per_pad) false) (due-at k) refl refl (due-there n (k + 1)) l

  pub due-found : (place : ℕ) → place ≡ first nowhere 0 → place < nowhere → due-at place ≡ true
  due-found place e l = ap due-at e ∙ due-there nowhere 0 (omega (arith, e, l))

  -- ---- the places of several pads: those of the first, else the others

  abbrev either : ℕ → ℕ → ℕ
  either a b = cond (ltb a nowhere) a b

  split_by : (m n t k : ℕ) (due : Bool) → test k ≡ due → k < nowhere → first t (k + 1) ≡ either (first m (k + 1)) (first n (k + 1 + m))
      → first (suc t) k ≡ either (first (suc m) k) (first n (k + suc m))
  split_by m n t k true d l behind = rw (hit t k d, hit m k d, lt-ltb k nowhere l)
  split_by m n t k false d l behind =
      let on : k + 1 + m ≡ k + suc m = omega arith in
      rw (miss t k d, miss m k d, behind, on)

  split : (m n t k : ℕ) → t ≡ m + n → k + m ≤ nowhere → first t k ≡ either (first m k) (first n (k + m))
  split zero n t k e l =
      let same : t ≡ n = omega arith in
      let here : k + 0 ≡ k = omega arith in
      rw (same, none k, here)
  split (suc m) n zero k e l = absurd (omega arith)
  split (suc m) n (suc t) k e l = split_by m n t k (test k) refl (omega arith) (split m n t (k + 1) (omega arith) (omega arith))

  -- what the pads from p on give
  abbrev pub from-pad : ℕ → ℕ
  from-pad p = first (nowhere - places_per_pad * p) (places_per_pad * p)

  abbrev pub on-pad : ℕ → ℕ
  on-pad p = first places_per_pad (places_per_pad * p)

  by-pad : (p : ℕ) → p < 4 → from-pad p ≡ either (on-pad p) (from-pad (p + 1))
  by-pad p few =
      let behind : places_per_pad * p + places_per_pad ≡ places_per_pad * (p + 1) = omega arith in
      split places_per_pad (nowhere - places_per_pad * (p + 1)) (nowhere - places_per_pad * p) (places_per_pad * p) (omega arith) (omega arith)
      ∙ ap (λ (k : ℕ). either (on-pad p) (first (nowhere - places_per_pad * (p + 1)) k)) behind

  pub pad-gives : (p place : ℕ) → p < 4 → place ≡ on-pad p → place < nowhere → place ≡ from-pad p
  pad-gives p place few e under = e ∙ sym (by-pad p few ∙ rw (sym e, lt-ltb place nowhere under))

  pub pad-quiet : (p place : ℕ) → p < 4 → place ≡ on-pad p → nowhere ≤ place → from-pad (p + 1) ≡ from-pad p
  pad-quiet p place few e past = sym (by-pad p few ∙ rw (sym e, le-ltb place nowhere past))

  pub pads-end : (p : ℕ) → 4 ≤ p → nowhere ≡ from-pad p
  pads-end p all = let left : nowhere - places_per_pad * p ≡ 0 = omega arith in rw (left, none (places_per_pad * p))

  -- ---- one pad

  module _ (p : ℕ) where
    pad-of : (i : ℕ) → i < places_per_pad → (places_per_pad * p + i) / places_per_pad ≡ p
    pad-of i l = omega arith

    -- not connected
    apart : get_or connected p false ≡ false → (n i : ℕ) → i + n ≤ places_per_pad → first n (places_per_pad * p + i) ≡ nowhere
    apart off zero i l = none (places_per_pad * p + i)
    apart off (suc n) i l =
        let on : places_per_pad * p + i + 1 ≡ places_per_pad * p + (i + 1) = omega arith in
        miss n (places_per_pad * p + i) (rw (pad-of i (omega arith), off)) ∙ rw on (apart off n (i + 1) (omega arith))

    pub not-connected : get_or connected p false ≡ false → nowhere ≡ on-pad p
    not-connected off =
        let start : places_per_pad * p + 0 ≡ places_per_pad * p = omega arith in
        sym (rw (sym start) (apart off places_per_pad 0 (omega arith)))

    -- connected: the place of what its run gives
    module _ (run : List ButtonData) (all : Gathered hasbutton buttons (places_per_pad * p) run) (joined : get_or connected p false ≡ true) where
      abbrev place : ℕ → ℕ
      place i = cond (ltb i places_per_pad) (places_per_pad * p + i) nowhere

      same_test : (i : ℕ) → i < places_per_pad → test (places_per_pad * p + i) ≡ due_of true (get_or run i past_button) after every now
      same_test i l = rw (pad-of i l, joined, all i l, due-record (get_or hasbutton (places_per_pad * p + i) false) (get_or buttons (places_per_pad * p + i) past_button) after every now)

      along-by : (n i : ℕ) (due : Bool) → due_of true (get_or run i past_button) after every now ≡ due → i < places_per_pad
          → first n (places_per_pad * p + (i + 1)) ≡ place (first_from run after every now n (i + 1))
          → first (suc n) (places_per_pad * p + i) ≡ place (first_from run after every now (suc n) i)
      unfolding first_from
      along-by n i true d l behind = hit n (places_per_pad * p + i) (same_test i l ∙ d) ∙ rw (d, lt-ltb i places_per_pad l)
      along-by n i false d l behind =
          let on : places_per_pad * p + i + 1 ≡ places_per_pad * p + (i + 1) = omega arith in
          miss n (places_per_pad * p + i) (same_test i l ∙ d) ∙ rw (on, behind, d)

      along : (n i : ℕ) → i + n ≤ places_per_pad → first n (places_per_pad * p + i) ≡ place (first_from run after every now n i)
      unfolding first_from
      along zero i l = none (places_per_pad * p + i)
      along (suc n) i l = along-by n i (due_of true (get_or run i past_button) after every now) refl (omega arith) (along n (i + 1) (omega arith))

      first_on : place (first_of run after every now) ≡ on-pad p
      first_on =
          let start : places_per_pad * p + 0 ≡ places_per_pad * p = omega arith in
          sym (ap (λ (k : ℕ). first places_per_pad k) (sym start) ∙ along places_per_pad 0 (omega arith))

      pub run-gives : (i : ℕ) → i ≡ first_of run after every now → i < places_per_pad → places_per_pad * p + i ≡ on-pad p
      run-gives i e under =
          let at : place i ≡ places_per_pad * p + i = rw (lt-ltb i places_per_pad under) in
          sym at ∙ ap place e ∙ first_on

      pub run-quiet : (i : ℕ) → i ≡ first_of run after every now → places_per_pad ≤ i → nowhere ≡ on-pad p
      run-quiet i e past =
          let at : place i ≡ nowhere = rw (le-ltb i places_per_pad past) in
          sym at ∙ ap place e ∙ first_on
