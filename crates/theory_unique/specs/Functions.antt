-- "that two answers meeting a promise are equal is proved": here for each function behind the public calls whose contract is not an equation alone, but
-- a record or a pair that holds one beside what its callers need: a bound to index by, or that a button is due. By that equation, a line for each
-- function by name. For every contract that is one equation it is `one-equation` of `theory_calls/specs/Unique.antt`. Numbers are the contracts' own.
-- The functions of `lines` have theirs in `proofs/Functions.antt`.
use Rattle.std.specs.Prelude.{ℕ, ◌+◌, ◌%◌, ◌^◌, ◌<◌, ◌≤◌, Bool, cond, List, ◌≡◌, leb, length}
use Rattle.rules.specs.declared.Event.{Event}
use Rattle.rules.specs.declared.View.{View}
use Rattle.rules.specs.Forms.{field_of}
use Rattle.rules.specs.Names.{places_per_pad}
use Rattle.rules.specs.Places.{named_of, present_names}
use Rattle.rules.specs.Down.{lowest_of}
use Rattle.rules.specs.Hub.{slot_at}
use Rattle.pad.specs.Found.{Placed, Named}
use Rattle.gather.specs.EventPlaces.{PlaceIs, FoundIs, EventPlacesAre}
use Rattle.rules.specs.Hub.{partner_place_of}
use Rattle.filters.specs.Converted.{ConvertedIs}
use Rattle.turn.specs.Turn.{RingIs}
use Rattle.lines.specs.Appending.{laid_over, Appended}
use Rattle.theory_calls.specs.Unique.{One, one-owed}

-- ---- choices, wire: a number and its bound

pub unique-wide : (x : ℕ) → One (λ (r : ℕ). (r ≡ x) × (r < 256))
unique-wide x = one-owed _ (λ r w. w.0)

pub unique-field : (s : List ℕ) (at width : ℕ) → One (λ (r : ℕ). (r ≡ field_of s at width) × (r < 256 ^ width))
unique-field s at width = one-owed _ (λ r w. w.0)

-- ---- pad, gather: a place and its bound, and what is gathered at places

pub unique-place-of : (codes : List ℕ) (pad code : ℕ) → One (Placed codes pad code)
unique-place-of codes pad code = one-owed _ (λ r w. w.is)

pub unique-named : (names : List ℕ) (pad name : ℕ) → One (Named names pad name)
unique-named names pad name = one-owed _ (λ r w. w.is)

pub unique-find : (codes kinds names renames : List ℕ) (renamed hasbutton : List Bool) (p code : ℕ)
    → One (FoundIs codes kinds names renames renamed hasbutton p code)
unique-find codes kinds names renames renamed hasbutton p code = one-owed _ (λ r w. w.is)

-- the two below, and any other that answers a place
pub unique-place : (place : ℕ) → One (PlaceIs place)
unique-place place = one-owed _ (λ r w. w.is)

pub unique-present-place : (names renames : List ℕ) (renamed : List Bool) (p name : ℕ)
    → One (PlaceIs (named_of (present_names names renames renamed p) p name))
unique-present-place names renames renamed p name = unique-place _

pub unique-partner-place : (names renames : List ℕ) (renamed : List Bool) (p name : ℕ) → One (PlaceIs (partner_place_of names renames renamed p name))
unique-partner-place names renames renamed p name = unique-place _

pub unique-event-places : (codes kinds names renames : List ℕ) (renamed hasbutton hasaxis flags : List Bool) (p name own : ℕ)
    → One (EventPlacesAre codes kinds names renames renamed hasbutton hasaxis flags p name own)
unique-event-places codes kinds names renames renamed hasbutton hasaxis flags p name own = one-owed _ (λ r w. w.is)

-- ---- down: a place, one past the last where none is down

pub unique-lowest : (bits : ℕ) → One (λ (r : ℕ). (r ≡ lowest_of bits) × (r ≤ places_per_pad))
unique-lowest bits = one-owed _ (λ r w. w.0)

-- ---- hats, filters: what they give, and how many events they queue at most

pub unique-dpad : (v : View) (e : Event) → One (ConvertedIs v e)
unique-dpad v e = one-owed _ (λ r w. w.is)

-- ---- turn: a place of the ring

pub unique-front : (head : ℕ) → One (RingIs (head % 64))
unique-front head = one-owed _ (λ r w. w.is)

pub unique-free : (head waiting : ℕ) → One (RingIs (slot_at head waiting))
unique-free head waiting = one-owed _ (λ r w. w.is)

-- ---- lines: the lent buffer, every byte, and the next place (each function's line: `proofs/Functions.antt`)

abbrev pub Leaves : ℕ → List ℕ → List ℕ → ℕ → List ℕ × ℕ → Type 0
Leaves room text before at r = Appended room text before at r.0 r.1

pub one-appended : (room : ℕ) (text before : List ℕ) (at : ℕ) → One (Leaves room text before at)
one-appended room text before at =
    one-owed (cond (leb (at + room) (length before)) (laid_over before at text) before, cond (leb (at + room) (length before)) (at + length text) at)
    (λ r w i. (w.is i, w.place i))
