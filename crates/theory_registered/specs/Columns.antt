-- What the hub keeps of a registered pad is what its sheet says: the pad's 52 places have the rows that registration lays, and another pad's registration
-- leaves them alone.
use Rattle.std.specs.Prelude.{ℕ, zero, suc, ◌+◌, ◌-◌, ◌*◌, ◌<◌, ◌≤◌, Bool, true, false, List, [], ◌∷◌, map, ◌≡◌, refl, ltb, get_or}
use Rattle.std.proofs.Common.{◌∙◌, subst, ltb-true}
use native.Mathlib.Omega.{arith}
use Rattle.std.proofs.Math.ListN.{length, length-set, get_or-map}
use Rattle.std.proofs.lemmas.List.{length-map}
use Rattle.std.proofs.Math.Seq.{get_or-set_same, get_or-set_other}
use Rattle.rules.specs.declared.Hub.{Hub}
use Rattle.rules.specs.declared.Row.{Row}
use Rattle.rules.specs.Names.{pad_limit, places_per_pad, nowhere, no_name}
use Rattle.rules.specs.Sheets.{sheet_refusal, hats_of, count_of}
use Rattle.rules.specs.Places.{unlisted_row, rows_of}
use Rattle.rules.specs.Refusals.{first, unless_fits}
use Rattle.rules.specs.Hub.{past_element}
use Rattle.rules.specs.Calls.{laid, row_code, row_kind, row_name, row_element, registered_at, register_refusal}
use Rattle.pad.specs.Rising.{NeverFalls}
use Rattle.sheets.specs.Laws.{archived-takes}
use Rattle.theory_registered.specs.Laid.{laid-length, laid-before, laid-at}
use Rattle.theory_registered.specs.Rows.{climbs-rise, places-climb, rows-length}

-- a good sheet's row for the j-th of a pad's places
unfoldable pub row_at : List ℕ → ℕ → Row
unfolding rows_of
row_at s j = get_or (rows_of s (count_of s)) j (unlisted_row 0)

-- what the hub keeps of pad p is what the sheet says
pub record Keeps (h : Hub) (p : ℕ) (s : List ℕ) : Type 0 where
  pub codes : (j : ℕ) → j < places_per_pad → get_or h.codes (places_per_pad * p + j) 0 ≡ (row_at s j).code
  pub kinds : (j : ℕ) → j < places_per_pad → get_or h.kinds (places_per_pad * p + j) 0 ≡ (row_at s j).kind
  pub names : (j : ℕ) → j < places_per_pad → get_or h.names (places_per_pad * p + j) no_name ≡ (row_at s j).name
  pub elements : (j : ℕ) → j < places_per_pad → get_or h.elements (places_per_pad * p + j) past_element ≡ (row_at s j).element
  pub count : get_or h.counts p 0 ≡ count_of s
  pub hats : get_or h.hats p 0 ≡ hats_of s

-- the columns' lengths
pub record Sized (h : Hub) : Type 0 where
  pub codes : length h.codes ≡ nowhere
  pub kinds : length h.kinds ≡ nowhere
  pub names : length h.names ≡ nowhere
  pub elements : length h.elements ≡ nowhere + 1
  pub counts : length h.counts ≡ pad_limit
  pub hats : length h.hats ≡ pad_limit
  pub converts : length h.converts ≡ pad_limit

-- ---- a column

-- inside a list it does not matter what stands past its end
pub inside-any : {A : Type 0} (l : List A) (j : ℕ) (d e : A) → j < length l → get_or l j d ≡ get_or l j e
inside-any [] j d e short = absurd (omega arith)
inside-any (x ∷ xs) zero d e short = refl
inside-any (x ∷ xs) (suc j) d e short = inside-any xs j d e (omega arith)

pub places-length : (s : List ℕ) → length (rows_of s (count_of s)) ≡ places_per_pad
unfolding rows_of
places-length s = rows-length places_per_pad s (count_of s) 0 0 0

module _ {A : Type 0} (f : Row → A) (past : A) (s : List ℕ) (xs : List A) (p : ℕ) (stands : p < pad_limit) (long : nowhere ≤ length xs) where
  mapped-length : length (map f (rows_of s (count_of s))) ≡ places_per_pad
  mapped-length = length-map (rows_of s (count_of s)) f ∙ places-length s

  -- the pad's places have the rows' values
  column-at : (j : ℕ) → j < places_per_pad
      → get_or (laid xs (places_per_pad * p) (map f (rows_of s (count_of s)))) (places_per_pad * p + j) past ≡ f (row_at s j)
  unfolding row_at
  column-at j short =
      let size = mapped-length in
      let inside : j < length (map f (rows_of s (count_of s))) = omega arith in
      laid-at past (map f (rows_of s (count_of s))) xs (places_per_pad * p) j inside (omega arith)
      ∙ (inside-any (map f (rows_of s (count_of s))) j past (f (unlisted_row 0)) inside ∙ get_or-map f (rows_of s (count_of s)) j (unlisted_row 0))

-- the places of a pad before the one that is laid
pub laid-places : {A : Type 0} (xs vs : List A) (q p j : ℕ) (past : A) → q < p → j < places_per_pad * q + places_per_pad
    → get_or (laid xs (places_per_pad * p) vs) j past ≡ get_or xs j past
laid-places xs vs q p j past less to = laid-before past vs xs (places_per_pad * p) j (omega arith)

-- ---- registration

-- a registration that is not refused: fewer than four pads stood, and the sheet is good
few-by : (few : Bool) (number : ℕ) → first (unless_fits few 2) number ≡ 0 → (few ≡ true) × (number ≡ 0)
few-by true number e = (refl, e)
few-by false number e = absurd (omega arith)

pub accepted : (pads : ℕ) (s : List ℕ) → register_refusal true pads s ≡ 0 → (pads < pad_limit) × (sheet_refusal true s ≡ 0)
unfolding register_refusal
accepted pads s e =
    let both = few-by (ltb pads pad_limit) (sheet_refusal true s) e in
    (ltb-true pads pad_limit both.0, both.1)

-- what either call takes, the archived one takes: so what follows speaks of that one
pub either-taken : (archived : Bool) (pads : ℕ) (s : List ℕ) → register_refusal archived pads s ≡ 0 → register_refusal true pads s ≡ 0
unfolding register_refusal
either-taken archived pads s e =
    let both = few-by (ltb pads pad_limit) (sheet_refusal archived s) e in
    rw both.0 (archived-takes archived s both.1)

abbrev after : Hub → List ℕ → Hub
after h s = registered_at h h.pads (hats_of s) (count_of s) (rows_of s (count_of s))

module _ (h : Hub) (s : List ℕ) (z : Sized h) where
  pub register-sized : Sized (after h s)
  unfolding registered_at
  register-sized =
      record {
        codes = laid-length (map row_code (rows_of s (count_of s))) h.codes (places_per_pad * h.pads) ∙ z.codes;
        kinds = laid-length (map row_kind (rows_of s (count_of s))) h.kinds (places_per_pad * h.pads) ∙ z.kinds;
        names = laid-length (map row_name (rows_of s (count_of s))) h.names (places_per_pad * h.pads) ∙ z.names;
        elements = laid-length (map row_element (rows_of s (count_of s))) h.elements (places_per_pad * h.pads) ∙ z.elements;
        counts = length-set h.counts _ _ ∙ z.counts;
        hats = length-set h.hats _ _ ∙ z.hats;
        converts = length-set h.converts _ _ ∙ z.converts;
      }

  module _ (stands : h.pads < pad_limit) where
    -- the next pad keeps its sheet
    pub register-keeps : Keeps (after h s) h.pads s
    unfolding registered_at
    register-keeps =
        let codes = z.codes in
        let kinds = z.kinds in
        let names = z.names in
        let elements = z.elements in
        record {
          codes = column-at row_code 0 s h.codes h.pads stands (omega arith);
          kinds = column-at row_kind 0 s h.kinds h.pads stands (omega arith);
          names = column-at row_name no_name s h.names h.pads stands (omega arith);
          elements = column-at row_element past_element s h.elements h.pads stands (omega arith);
          count = get_or-set_same h.counts h.pads (count_of s) 0 (rw z.counts stands);
          hats = get_or-set_same h.hats h.pads (hats_of s) 0 (rw z.hats stands);
        }

    -- a pad before it keeps its own
    pub register-others : (q : ℕ) (t : List ℕ) → q < h.pads → Keeps h q t → Keeps (after h s) q t
    unfolding registered_at
    register-others q t less k =
        let other : q ≡ h.pads → ⊥ = λ e. omega arith in
        record {
          codes = λ j short. laid-places h.codes (map row_code (rows_of s (count_of s))) q h.pads (places_per_pad * q + j) 0 less (omega arith) ∙ k.codes j short;
          kinds = λ j short. laid-places h.kinds (map row_kind (rows_of s (count_of s))) q h.pads (places_per_pad * q + j) 0 less (omega arith) ∙ k.kinds j short;
          names = λ j short. laid-places h.names (map row_name (rows_of s (count_of s))) q h.pads (places_per_pad * q + j) no_name less (omega arith) ∙ k.names j short;
          elements =
              λ j short.
              laid-places h.elements (map row_element (rows_of s (count_of s))) q h.pads (places_per_pad * q + j) past_element less (omega arith) ∙ k.elements j short;
          count = get_or-set_other h.counts h.pads q (count_of s) 0 other ∙ k.count;
          hats = get_or-set_other h.hats h.pads q (hats_of s) 0 other ∙ k.hats;
        }

-- ---- a kept pad's codes do not fall

pub row-rise : (s : List ℕ) → sheet_refusal true s ≡ 0 → (i j : ℕ) → i ≤ j → j < places_per_pad → (row_at s i).code ≤ (row_at s j).code
unfolding row_at
row-rise s taken i j less short =
    rw (get_or-map row_code (rows_of s (count_of s)) i (unlisted_row 0)) at
    (rw (get_or-map row_code (rows_of s (count_of s)) j (unlisted_row 0)) at
    (climbs-rise (places-climb s taken) i j less (rw (length-map (rows_of s (count_of s)) row_code, places-length s) short)))

-- the place of a pad by its number among the 52
module _ (h : Hub) (p : ℕ) (s : List ℕ) (k : Keeps h p s) (i : ℕ) (from : places_per_pad * p ≤ i) (to : i < places_per_pad * p + places_per_pad) where
  pub code_here : get_or h.codes i 0 ≡ (row_at s (i - places_per_pad * p)).code
  code_here =
      let e : places_per_pad * p + (i - places_per_pad * p) ≡ i = omega arith in
      subst (λ (j : ℕ). get_or h.codes j 0 ≡ (row_at s (i - places_per_pad * p)).code) e (k.codes (i - places_per_pad * p) (omega arith))

both_ends : (a b x y : ℕ) → a ≡ x → b ≡ y → x ≤ y → a ≤ b
both_ends a b x y l r m = omega arith

pub keeps-rise : (h : Hub) (p : ℕ) (s : List ℕ) → sheet_refusal true s ≡ 0 → Keeps h p s → NeverFalls h.codes p
keeps-rise h p s taken k =
    record {
      rises =
          λ i j from less to.
          both_ends (get_or h.codes i 0) (get_or h.codes j 0) (row_at s (i - places_per_pad * p)).code (row_at s (j - places_per_pad * p)).code
          (code_here h p s k i from (omega arith)) (code_here h p s k j (omega arith) to)
          (row-rise s taken (i - places_per_pad * p) (j - places_per_pad * p) (omega arith) (omega arith));
    }
