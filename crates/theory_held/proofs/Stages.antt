-- What each kind of call makes of a record: an event writes the place of its own pad and code and no other; registration and Connected take the pad's records
-- away and leave every other's.
use Rattle.std.specs.Prelude.{ℕ, ◌*◌, ◌/◌, ◌<◌, Bool, cond, ◌&&◌, ◌||◌, ◌≡◌, eqb, ltb, get_or}
use Rattle.std.proofs.Math.Bool.{true, false, or-false}
use mathlib.Core.List.{List, [], ◌∷◌, map}
use Rattle.std.proofs.Math.Path.{refl}
use Rattle.std.proofs.Common.{sym}
use Rattle.std.proofs.Math.ListN.{length}
use Rattle.std.proofs.Math.Seq.{get_or-set_same, get_or-set_other, set-get_or}
use native.Mathlib.Omega.{arith}
use borrow.Author.Tests.{eqb-true, eqb-false, ltb-true, ltb-false}
use Rattle.rules.specs.declared.Hub.{Hub}
use Rattle.rules.specs.declared.Event.{Event}
use Rattle.rules.specs.declared.NextRecord.{NextRecord}
use Rattle.rules.specs.Names.{places_per_pad, nowhere}
use Rattle.rules.specs.Forms.{kind_connected}
use Rattle.rules.specs.Sheets.{hats_of, count_of}
use Rattle.rules.specs.Places.{cleared_of, rows_of}
use Rattle.rules.specs.Events.{code_of}
use Rattle.rules.specs.State.{writes_button, button_after}
use Rattle.rules.specs.Hub.{place_in, has_button_at, button_at, past_button}
use Rattle.rules.specs.Step.{marked_of, marks_cleared, filtered_hub, pushed_of, taken_of, updated_at, updated_of, step_event, step_hub}
use Rattle.rules.specs.Calls.{row_code, registered_at}
use Rattle.pad.specs.Lookup.{place-stands, places-differ}
use Rattle.theory_history.specs.Lemmas.Cells.{Long}
use Rattle.theory_history.specs.Lemmas.Marks.{cleared-before, cleared-behind, cleared-inside}
use Rattle.theory_registered.specs.Columns.{laid-places}
use Rattle.theory_registered.specs.Converts.{place_same}
use Rattle.theory_held.specs.Lengths.{taken-long}
use Rattle.theory_held.specs.Held.{Told}
use Rattle.theory_held.proofs.Held.{told_none, told_more}
use Rattle.theory_held.specs.Applied.{concerns, noted, connects}

-- what a hub holds of a pad and code is what the events tell
abbrev pub Tells : Hub → ℕ → ℕ → List Event → Type 0
Tells h p c es = Told es (has_button_at h (place_in h p c)) (button_at h (place_in h p c))

-- ---- an event that is applied

module _ (h : Hub) (p c : ℕ) (here : place_in h p c < nowhere) (long : Long h) (e : Event) (es : List Event) (w : Tells h p c es) where
  abbrev at : ℕ
  at = place_in h e.pad (code_of e)

  abbrev k : ℕ
  k = place_in h p c

  -- at its own place it writes the record; at any other it leaves what stands
  own : at ≡ k → Told (e ∷ es) (has_button_at (updated_of true h e) k) (button_at (updated_of true h e) k)
  unfolding updated_of updated_at
  own same =
      let marked : k < length h.hasbutton = omega (arith, long.hasbutton) in
      let stands : k < length h.buttons = omega (arith, long.buttons) in
      rw (
        same,
        get_or-set_same h.hasbutton k (has_button_at h k || writes_button e) false marked,
        get_or-set_same h.buttons k (button_after e (has_button_at h k) (button_at h k) h.counter) past_button stands,
      )
      (told_more es (has_button_at h k) (button_at h k) w e h.counter)

  other : (k ≡ at → ⊥) → Told es (has_button_at (updated_of true h e) k) (button_at (updated_of true h e) k)
  unfolding updated_of updated_at
  other apart = rw (get_or-set_other h.hasbutton at k _ false apart, get_or-set_other h.buttons at k _ past_button apart) w

  -- with updates off it writes nothing
  off : Told es (has_button_at (updated_of false h e) k) (button_at (updated_of false h e) k)
  unfolding updated_of updated_at
  off = rw (or-false, set-get_or, set-get_or) w

  -- only its own pad and code have its place
  by : (pad code : Bool) → eqb e.pad p ≡ pad → eqb (code_of e) c ≡ code → Tells (updated_of true h e) p c (cond (pad && code) (e ∷ es) es)
  unfolding updated_of updated_at
  by true true ep ec = own (rw (eqb-true e.pad p ep, eqb-true (code_of e) c ec))
  by true false ep ec = other (λ same. eqb-false (code_of e) c ec (sym (places-differ h.codes p c e.pad (code_of e) here same).1))
  by false code ep ec = other (λ same. eqb-false e.pad p ep (sym (places-differ h.codes p c e.pad (code_of e) here same).0))

  pub applied : (on : Bool) → Tells (updated_of on h e) p c (noted on p c e es)
  unfolding concerns updated_of updated_at
  applied true = by (eqb e.pad p) (eqb (code_of e) c) refl refl
  applied false = off

-- ---- records that are taken away

-- the marks of pad q: those of another pad stay, those of its own go
module _ (marks : List Bool) (q k p : ℕ) (own : k / places_per_pad ≡ p) where
  others-stay : (q ≡ p → ⊥) → (before : Bool) → ltb k (places_per_pad * q) ≡ before
      → get_or (cleared_of marks (places_per_pad * q) places_per_pad) k false ≡ get_or marks k false
  others-stay other true e = cleared-before places_per_pad marks (places_per_pad * q) k (ltb-true k (places_per_pad * q) e)
  others-stay other false e =
      let from = ltb-false k (places_per_pad * q) e in
      cleared-behind places_per_pad marks (places_per_pad * q) k (omega arith)

  own-go : q ≡ p → k < length marks → get_or (cleared_of marks (places_per_pad * q) places_per_pad) k false ≡ false
  own-go same short = cleared-inside places_per_pad marks (places_per_pad * q) k (omega arith) (omega arith) short

module _ (h : Hub) (p c : ℕ) (here : place_in h p c < nowhere) (long : Long h) (es : List Event) (w : Tells h p c es) where
  abbrev place : ℕ
  place = place_in h p c

  padded : place / places_per_pad ≡ p
  padded = (place-stands h.codes p c here).own

  -- "Connected gives fresh state"
  marks-by : (l : NextRecord) (joins pad : Bool) → eqb l.raw.kind kind_connected ≡ joins → eqb l.raw.pad p ≡ pad
      → Told (cond (joins && pad) [] es) (get_or (marked_of h l.raw).hasbutton place false) (button_at h place)
  unfolding marked_of marks_cleared
  marks-by l true true ej ep =
      rw (ej, own-go h.hasbutton l.raw.pad place p padded (eqb-true l.raw.pad p ep) (omega (arith, long.hasbutton))) (told_none (button_at h place))
  marks-by l true false ej ep =
      rw (ej, others-stay h.hasbutton l.raw.pad place p padded (eqb-false l.raw.pad p ep) (ltb place (places_per_pad * l.raw.pad)) refl) w
  marks-by l false pad ej ep = rw ej (unfold cleared_of in w)

  pub step-tells : (l : NextRecord) → Tells (step_hub h l) p c (noted h.updates p c (step_event h l) (cond (connects l p) [] es))
  unfolding step_hub filtered_hub pushed_of marked_of
  step-tells l =
      applied (filtered_hub (marked_of h l.raw) (taken_of h l)) p c here
      (taken-long h l long)
      (step_event h l) (cond (connects l p) [] es) (marks-by l (eqb l.raw.kind kind_connected) (eqb l.raw.pad p) refl refl) h.updates

-- ---- registration: the next pad begins, and those before it stay

module _ (h : Hub) (s : List ℕ) (p c : ℕ) (long : Long h) where
  abbrev grown : Hub
  grown = registered_at h h.pads (hats_of s) (count_of s) (rows_of s (count_of s))

  pub register-new : h.pads ≡ p → place_in grown p c < nowhere → Tells grown p c []
  unfolding registered_at
  register-new next here =
      rw (own-go h.hasbutton h.pads (place_in grown p c) p (place-stands grown.codes p c here).own next (omega (arith, long.hasbutton)))
      (told_none (button_at h (place_in grown p c)))

  pub register-old : p < h.pads → (es : List Event) → (place_in h p c < nowhere → Tells h p c es) → place_in grown p c < nowhere → Tells grown p c es
  unfolding registered_at
  register-old old es before here =
      let same : place_in grown p c ≡ place_in h p c =
      place_same grown.codes h.codes p c (record { at = λ j past from to. laid-places h.codes (map row_code (rows_of s (count_of s))) p h.pads j past old to }) in
      let stood : place_in h p c < nowhere = rw same at here in
      let other : h.pads ≡ p → ⊥ = λ e. omega arith in
      rw (same, others-stay h.hasbutton h.pads (place_in h p c) p (place-stands h.codes p c stood).own other (ltb (place_in h p c) (places_per_pad * h.pads)) refl)
      (before stood)
