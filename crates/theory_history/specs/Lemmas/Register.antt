-- A registration leaves the other pads' codes alone, and the pads before it as they were: their codes are found where they were, with the same element, and
-- their state and their events stay.
use Prim.Native.Nat.{ℕ, ◌+◌, ◌*◌, ◌/◌, ◌<◌, ◌≤◌}
use Rattle.std.specs.Prelude.{Bool, true, ◌&&◌, ◌≡◌, ltb, Float, length, get_or}
use Rattle.std.proofs.Math.Bool.{false}
use mathlib.Core.List.{List, map}
use Rattle.std.proofs.Math.Path.{refl, ap}
use Rattle.std.proofs.Common.{sym, ◌∙◌}
use Rattle.std.proofs.Math.Dec.{eqb}
use Rattle.std.proofs.lemmas.List.{length-map}
use Rattle.std.proofs.Math.ListN.{get_or-eq_default}
use Rattle.std.proofs.Math.Seq.{get_or-set_other}
use native.Mathlib.Omega.{arith}
use borrow.Author.Tests.{ltb-true, ltb-false, ne_eqb}
use Rattle.rules.specs.declared.Hub.{Hub}
use Rattle.rules.specs.declared.Event.{Event}
use Rattle.rules.specs.Names.{pad_limit, places_per_pad, nowhere, no_name, is_hat}
use Rattle.rules.specs.Sheets.{count_of}
use Rattle.rules.specs.Places.{place_of, rows_of}
use Rattle.rules.specs.Events.{code_of}
use Rattle.rules.specs.Hub.{has_button_at, has_axis_at, past_element}
use Rattle.rules.specs.Calls.{laid, row_code, row_kind, row_name, row_element, register_refusal, registered_at, register_by}
use Rattle.theory_calls.specs.Waiting.{waiting_list}
use Rattle.pad.specs.Lookup.{place-stands, places-differ}
use Rattle.theory_registered.specs.Laid.{laid-behind}
use Rattle.theory_registered.specs.Columns.{places-length, laid-places, accepted}
use Rattle.theory_registered.specs.Converts.{SamePlaces, place_same}
use Rattle.theory_registered.specs.Pads.{Desk}
use Rattle.theory_history.specs.Lemmas.Cells.{cell_at, Long, hits}
use Rattle.theory_history.specs.Lemmas.Marks.{cleared-before, cleared-inside}
use Rattle.theory_history.specs.Lemmas.Waits.{sheet_of, axial_at, takes, zoned_at, Fit, press, release, change, stick}
use Rattle.theory_history.specs.Lemmas.Truth.{true-false}

-- past the last place stands no element
pub past-axial : (h : Hub) → Desk h → (k : ℕ) → nowhere ≤ k → axial_at (sheet_of h) k ≡ false
unfolding axial_at
past-axial h desk k past =
    let names = desk.sized.names in
    let kinds = desk.sized.kinds in
    rw (get_or-eq_default h.names no_name {n = k} (omega arith), get_or-eq_default h.kinds 0 {n = k} (omega arith))

-- so a listed element's place is found
pub listed_found : (h : Hub) → Desk h → (k : ℕ) → (get_or h.kinds k 0 ≡ 0 → ⊥) → k < nowhere
listed_found h desk k listed = by (ltb k nowhere) refl
  where
    by : (found : Bool) → ltb k nowhere ≡ found → k < nowhere
    by true l = ltb-true k nowhere l
    by false l =
        let past = ltb-false k nowhere l in
        let long = desk.sized.kinds in
        absurd (listed (get_or-eq_default h.kinds 0 {n = k} (omega arith)))

module _ (h : Hub) (s : List ℕ) (desk : Desk h) (ok : register_refusal true h.pads s ≡ 0) where
  abbrev pub next : Hub
  next = (register_by 0 h s).hub

  few : h.pads < pad_limit
  few = (accepted h.pads s ok).0

  -- another pad's codes, registered or not
  pub same_codes : (q : ℕ) → (q ≡ h.pads → ⊥) → SamePlaces next.codes h.codes q
  unfolding registered_at
  same_codes q other = record { at = λ j past from to. by (ltb q h.pads) refl j past from to }
    where
      codes : List ℕ
      codes = map row_code (rows_of s (count_of s))

      size : length codes ≡ places_per_pad
      size = length-map (rows_of s (count_of s)) row_code ∙ places-length s

      by : (older : Bool) → ltb q h.pads ≡ older → (j past : ℕ) → places_per_pad * q ≤ j → j < places_per_pad * q + places_per_pad
          → get_or (laid h.codes (places_per_pad * h.pads) codes) j past ≡ get_or h.codes j past
      by true e j past from to = laid-places h.codes codes q h.pads j past (ltb-true q h.pads e) to
      by false e j past from to =
          let behind = ltb-false q h.pads e in
          laid-behind past codes h.codes (places_per_pad * h.pads) j (omega (arith, size))

  module _ (q : ℕ) (old : q < h.pads) where
    pub old-place : (c : ℕ) → place_of next.codes q c ≡ place_of h.codes q c
    old-place c = place_same next.codes h.codes q c (same_codes q (λ e. omega arith))

    pub old-converts : get_or next.converts q false ≡ get_or h.converts q false
    unfolding registered_at
    old-converts = get_or-set_other h.converts h.pads q _ false (λ e. omega arith)

    pub old-takes : (n : ℕ) → takes (sheet_of next) q n ≡ takes (sheet_of h) q n
    unfolding takes
    old-takes n = ap (λ (b : Bool). b && is_hat n) old-converts

    module _ (k : ℕ) (own : k / places_per_pad ≡ q) where
      to : k < places_per_pad * q + places_per_pad
      to = omega arith

      pub old-name : get_or next.names k no_name ≡ get_or h.names k no_name
      unfolding registered_at
      old-name = laid-places h.names (map row_name (rows_of s (count_of s))) q h.pads k no_name old to

      pub old-kind : get_or next.kinds k 0 ≡ get_or h.kinds k 0
      unfolding registered_at
      old-kind = laid-places h.kinds (map row_kind (rows_of s (count_of s))) q h.pads k 0 old to

      pub old_element : get_or next.elements k past_element ≡ get_or h.elements k past_element
      unfolding registered_at
      old_element = laid-places h.elements (map row_element (rows_of s (count_of s))) q h.pads k past_element old to

      pub old-axial : axial_at (sheet_of next) k ≡ axial_at (sheet_of h) k
      unfolding axial_at
      old-axial = rw (old-name, old-kind)

      pub old-zoned : (x : Float) → zoned_at (sheet_of next) k x ≡ zoned_at (sheet_of h) k x
      unfolding zoned_at
      old-zoned x = rw (old-kind, old_element)

      before : k < places_per_pad * h.pads
      before = omega arith

      pub old-cell : cell_at next k ≡ cell_at h k
      unfolding cell_at registered_at
      old-cell = rw (cleared-before places_per_pad h.hasbutton (places_per_pad * h.pads) k before)

      pub old-hasaxis : has_axis_at next k ≡ has_axis_at h k
      unfolding registered_at
      old-hasaxis = cleared-before places_per_pad h.hasaxis (places_per_pad * h.pads) k before

  -- ---- the new pad's places

  module _ (k : ℕ) (own : k / places_per_pad ≡ h.pads) (long : Long h) where
    pub new-hasbutton : has_button_at next k ≡ false
    unfolding registered_at
    new-hasbutton =
        let f = few in
        let l = long.hasbutton in
        cleared-inside places_per_pad h.hasbutton (places_per_pad * h.pads) k (omega arith) (omega arith) (omega arith)

    pub new-hasaxis : has_axis_at next k ≡ false
    unfolding registered_at
    new-hasaxis =
        let f = few in
        let l = long.hasaxis in
        cleared-inside places_per_pad h.hasaxis (places_per_pad * h.pads) k (omega arith) (omega arith) (omega arith)

  -- ---- events that wait

  pub same_queue : waiting_list next ≡ waiting_list h
  unfolding waiting_list registered_at
  same_queue = refl

  axial-at : (q : ℕ) (old : q < h.pads) (c : ℕ) → axial_at (sheet_of h) (place_of h.codes q c) ≡ true → (found : Bool) → ltb (place_of h.codes q c) nowhere ≡ found
      → axial_at (sheet_of next) (place_of next.codes q c) ≡ true
  axial-at q old c axial true l =
      let own = (place-stands h.codes q c (ltb-true (place_of h.codes q c) nowhere l)).own in
      ap (λ (k : ℕ). axial_at (sheet_of next) k) (old-place q old c) ∙ (old-axial q old (place_of h.codes q c) own ∙ axial)
  axial-at q old c axial false l =
      true-false (sym axial ∙ past-axial h desk (place_of h.codes q c) (ltb-false (place_of h.codes q c) nowhere l))

  pub pads-are : next.pads ≡ h.pads + 1
  unfolding registered_at
  pads-are = refl

  pub more-pads : (q : ℕ) → q < h.pads → q < next.pads
  unfolding registered_at
  more-pads q old = omega arith

  pub still-fits : {e : Event} → Fit (sheet_of h) e → Fit (sheet_of next) e
  still-fits (press {pad} old) = press (more-pads pad old)
  still-fits (release {pad} old) = release (more-pads pad old)
  still-fits (change {pad} old) = change (more-pads pad old)
  still-fits (stick {pad} {time} {n} {c} old axial free) =
      stick (more-pads pad old) (axial-at pad old c axial (ltb (place_of h.codes pad c) nowhere) refl) (old-takes pad old n ∙ free)

  pub same-hits : (k : ℕ) (e : Event) → e.pad < h.pads → hits next.codes k e ≡ hits h.codes k e
  unfolding hits
  same-hits k e old = ap (λ (j : ℕ). eqb j k) (old-place e.pad old (code_of e))

  -- none of them is of a pad that is new
  pub new_apart : (q c : ℕ) → h.pads ≤ q → place_of next.codes q c < nowhere → (e : Event) → e.pad < h.pads
      → hits next.codes (place_of next.codes q c) e ≡ false
  unfolding hits
  new_apart q c new found e old =
      ne_eqb (place_of next.codes e.pad (code_of e)) (place_of next.codes q c)
      (λ same.
      let pad = (places-differ next.codes q c e.pad (code_of e) found (sym same)).0 in
      omega arith)
