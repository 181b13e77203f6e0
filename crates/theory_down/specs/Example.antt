-- W-213's sentences on 01's padlog example, computed by the checker; and statements that are too strong, refuted (one of
-- them, that a step keeps the summary on any hub, in `proofs/Example.antt`).
use Rattle.std.specs.Prelude.{ℕ, ◌+◌, ◌*◌, ◌^◌, ◌≡◌, refl, true, false, not, ◌&&◌, List, [], ◌∷◌, ◌++◌, eqb, pos, negsuc, get_or, None, Ok, Some}
use Rattle.std.proofs.Common.{sym, ◌∙◌, arith}
use Rattle.std.specs.Float.Ieee as Ieee
use Rattle.rules.specs.declared.Hub.{Hub}
use Rattle.rules.specs.declared.NextRecord.{NextRecord}
use Rattle.rules.specs.Names.{places_per_pad, code_left}
use Rattle.rules.specs.Forms.{record_bytes, kind_connected}
use Rattle.rules.specs.Setters.{with_down}
use Rattle.rules.specs.Hub.{kind_at, button_at, pressed_at}
use Rattle.rules.specs.Down.{has_bit, lowest_of}
use Rattle.rules.specs.Step.{next_record_of, step_hub}
use Rattle.rules.specs.Pump.{pump_of}
use Rattle.rules.specs.Queries.{down_of, lowest_pressed, pad_down}
use Rattle.theory_calls.specs.Reach.{Reached, new, register}
use Rattle.theory_calls.specs.Machines.{bare, sheet, desk, move, room, allowed}
use Rattle.theory_history.specs.Lemmas.Truth.{true-false}
use Rattle.theory_down.specs.Counts.{how_many}
use Rattle.theory_down.specs.Summed.{reads_on, pressed_on, Summed}

-- ---- a hat at -1: "one pressed record, no pressed element"

unfoldable after : List ℕ → Hub
unfolding pump_of desk Ieee.of_bits Ieee.lt Ieee.le Ieee.eq Ieee.ne Ieee.of_int Ieee.sub Ieee.mul Ieee.div Ieee.neg Ieee.add
after batch = (pump_of desk batch 0 room allowed).pumped.hub

unfoldable held : Hub
unfolding after move
held = after (move (negsuc 0) 100)

held-answers : (down_of held 0 ≡ Ok (pad_down 1 false)) × (lowest_pressed held 0 ≡ Ok (Some code_left))
unfolding held down_of lowest_pressed
held-answers = (refl, refl)

-- too strong: that the count is of elements that the sheet lists. Left is none
unfoldable elements_on : Hub → ℕ → ℕ
unfolding how_many pressed_at
elements_on h p = how_many (λ k. not (eqb (kind_at h (places_per_pad * p + k)) 0) && reads_on h p k) places_per_pad

records-not-elements : (pressed_on held 0 ≡ 1) × (elements_on held 0 ≡ 0)
unfolding held elements_on how_many pressed_at
records-not-elements = (refl, refl)

-- ---- the same, and then Connected

unfoldable joined : Hub
unfolding after move record_bytes
joined = after (move (negsuc 0) 100 ++ record_bytes (record { kind = kind_connected; pad = 0; code = 0; value = pos 0; time = 200 }))

joined-answers : (down_of joined 0 ≡ Ok (pad_down 0 false)) × (lowest_pressed joined 0 ≡ Ok None)
unfolding joined down_of lowest_pressed
joined-answers = (refl, refl)

-- too strong: that every record's data counts. What stands behind a mark that was taken off does not
unfoldable data_on : Hub → ℕ → ℕ
unfolding how_many
data_on h p = how_many (λ k. (button_at h (places_per_pad * p + k)).pressed) places_per_pad

marks-count : (pressed_on joined 0 ≡ 0) × (data_on joined 0 ≡ 1)
unfolding joined data_on how_many pressed_at
marks-count = (refl, refl)

-- ---- too strong: that it is so of any hub. One that says 1 and has no record

unfoldable claimed : Hub
unfolding desk
claimed = with_down desk (1 ∷ 0 ∷ 0 ∷ 0 ∷ []) (1 ∷ 0 ∷ 0 ∷ 0 ∷ []) (0 ∷ 0 ∷ 0 ∷ 0 ∷ [])

claimed-reads : (pressed_at claimed 0 ≡ false) × (has_bit (get_or claimed.down 0 0) 0 ≡ true)
unfolding claimed pressed_at has_bit
claimed-reads = (refl, refl)

not-of-any : ((h : Hub) → Summed h) → ⊥
not-of-any all = true-false (sym claimed-reads.1 ∙ ((all claimed).bit 0 0 (omega arith) (omega arith) ∙ claimed-reads.0))

-- ---- too strong: that no bit is set where the lowest place is past the last. A bit above the places is no place's

past-the-places : (lowest_of (2 ^ 52) ≡ 52) × (has_bit (2 ^ 52) 52 ≡ true)
unfolding lowest_of has_bit
past-the-places = (refl, refl)

-- ---- too strong: that a step keeps it on any hub. Where the lists are too short nothing is noted

unfoldable pub short : Hub
unfolding desk
short = with_down desk [] [] []

pub desk-reached : Reached desk
unfolding desk bare
desk-reached = register false sheet (new (Ieee.of_bits Ieee.binary32 0x3f400000) (Ieee.of_bits Ieee.binary32 0x3f000000) false true true)

unfoldable pub next : NextRecord
unfolding next_record_of move
next = next_record_of 0 (move (negsuc 0) 100) 0

pub short-after : (get_or (step_hub short next).held 0 0 ≡ 0) × (pressed_on (step_hub short next) 0 ≡ 1)
unfolding short next step_hub how_many pressed_at Ieee.of_bits Ieee.lt Ieee.le Ieee.eq Ieee.ne Ieee.of_int Ieee.sub Ieee.mul Ieee.div Ieee.neg Ieee.add
short-after = (refl, refl)
