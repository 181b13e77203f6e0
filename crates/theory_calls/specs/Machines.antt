-- 01's five wrong machines, each shut out by the pump's promise: none of them answers what `pump_of` does. Each is any pump with the fault, and 01's padlog
-- example, computed by the checker, is the input on which it differs.
use Rattle.std.specs.Prelude.{ℕ, ◌<◌, ◌≡◌, refl, true, false, List, [], ◌∷◌, ◌++◌, replicate, ℤ, pos, negsuc, Ok, Result}
use Rattle.std.proofs.Common.{sym, ◌∙◌, ap, arith}
use Rattle.std.specs.Float.Ieee as Ieee
use Rattle.std.specs.Float.{binary32}
use Rattle.rules.specs.declared.Hub.{Hub}
use Rattle.rules.specs.declared.Registered.{Registered}
use Rattle.rules.specs.declared.PumpAnswer.{PumpAnswer}
use Rattle.rules.specs.declared.PumpAnswer.TheVariants.{Drained, Full, Paused, Refused}
use Rattle.rules.specs.declared.Refusal.{Refusal}
use Rattle.rules.specs.Names.{dpad_x}
use Rattle.rules.specs.Forms.{record_bytes, kind_axis}
use Rattle.rules.specs.Sheets.{sheet_bytes, element_axis}
use Rattle.rules.specs.Pump.{Run, pump_of}
use Rattle.rules.specs.Calls.{new_of, register_as, register_of}
use Rattle.rules.specs.Answers.{register_says, pump_says}

-- ---- 01's example: "One axis element 0x00030010, name 39, -1..1, hats 0; values -1 at 100, 1 at 200"

unfoldable pub sheet : List ℕ
unfolding sheet_bytes
sheet = sheet_bytes 0 (record { code = 0x00030010; kind = element_axis; name = dpad_x; min = negsuc 0; max = pos 1; deadzone = 0xffffffff } ∷ [])

unfoldable pub move : ℤ → ℕ → List ℕ
unfolding record_bytes
move value time = record_bytes (record { kind = kind_axis; pad = 0; code = 0x00030010; value = value; time = time })

-- its batch
abbrev pub both : List ℕ
both = move (negsuc 0) 100 ++ move (pos 1) 200

unfoldable pub bare : Hub
unfolding new_of Ieee.of_bits Ieee.lt Ieee.le
bare = (new_of (Ieee.of_bits binary32 0x3f400000) (Ieee.of_bits binary32 0x3f000000) false true true).hub

unfoldable pub desk : Hub
unfolding bare sheet register_as Ieee.of_int Ieee.sub Ieee.mul Ieee.div
desk = (register_of bare sheet).hub

abbrev pub room : List ℕ
room = replicate 132 0

abbrev pub allowed : ℕ
allowed = 100

pub first-pad : (register_of bare sheet).answer ≡ Ok 0
unfolding bare sheet register_as new_of Ieee.of_bits Ieee.lt Ieee.le Ieee.of_int Ieee.sub Ieee.mul Ieee.div
first-pad = refl

one-move : (pump_of desk (move (negsuc 0) 100) 0 room allowed).pumped.answer ≡ Drained 21 2 2
unfolding desk move pump_of Ieee.of_bits Ieee.lt Ieee.le Ieee.eq Ieee.ne Ieee.of_int Ieee.sub Ieee.mul Ieee.div Ieee.neg Ieee.add
one-move = refl

pub two-moves : (pump_of desk both 0 room allowed).pumped.answer ≡ Drained 42 6 6
unfolding desk move pump_of Ieee.of_bits Ieee.lt Ieee.le Ieee.eq Ieee.ne Ieee.of_int Ieee.sub Ieee.mul Ieee.div Ieee.neg Ieee.add
two-moves = refl

-- ---- machines, and what they say

abbrev pub Machine : Type 0
Machine = Hub → List ℕ → ℕ → List ℕ → ℕ → Run

-- the pump's promise
pub record Meets (m : Machine) : Type 0 where
  pub is : (h : Hub) (batch : List ℕ) (place : ℕ) (out : List ℕ) (allowance : ℕ) → m h batch place out allowance ≡ pump_of h batch place out allowance

abbrev pub refusal_said : PumpAnswer → ℕ
refusal_said a = (pump_says a).refusal

abbrev pub place_said : PumpAnswer → ℕ
place_said (Drained place events steps) = place
place_said (Full place events steps) = place
place_said (Paused place events steps) = place
place_said (Refused number place events steps) = place

abbrev pub events_said : PumpAnswer → ℕ
events_said (Drained place events steps) = events
events_said (Full place events steps) = events
events_said (Paused place events steps) = events
events_said (Refused number place events steps) = events

abbrev pub steps_said : PumpAnswer → ℕ
steps_said (Drained place events steps) = steps
steps_said (Full place events steps) = steps
steps_said (Paused place events steps) = steps
steps_said (Refused number place events steps) = steps

-- what a machine answers
abbrev pub said : Machine → Hub → List ℕ → ℕ → List ℕ → ℕ → PumpAnswer
said m h batch place out allowance = (m h batch place out allowance).pumped.answer

module _ (m : Machine) (meets : Meets m) where
  answers : (h : Hub) (batch : List ℕ) (place : ℕ) (out : List ℕ) (allowance : ℕ) → said m h batch place out allowance ≡ said pump_of h batch place out allowance
  answers h batch place out allowance = ap (λ (r : Run). r.pumped.answer) (meets.is h batch place out allowance)

  -- what one that meets the promise says of the example
  first_said : said m desk (move (negsuc 0) 100) 0 room allowed ≡ Drained 21 2 2
  first_said = answers desk (move (negsuc 0) 100) 0 room allowed ∙ one-move

  both-said : said m desk both 0 room allowed ≡ Drained 42 6 6
  both-said = answers desk both 0 room allowed ∙ two-moves

  -- "a hub refusing everything": its pump
  pub refuses-everything : ((h : Hub) (batch : List ℕ) (place : ℕ) (out : List ℕ) (allowance : ℕ) → 0 < refusal_said (said m h batch place out allowance)) → ⊥
  refuses-everything wrong =
      let none : refusal_said (said m desk (move (negsuc 0) 100) 0 room allowed) ≡ 0 = ap refusal_said first_said in
      omega (arith, wrong desk (move (negsuc 0) 100) 0 room allowed)

  -- "a pump always Drained with no events"
  pub always-drained : ((h : Hub) (batch : List ℕ) (place : ℕ) (out : List ℕ) (allowance : ℕ) → events_said (said m h batch place out allowance) ≡ 0) → ⊥
  always-drained wrong =
      let two : events_said (said m desk (move (negsuc 0) 100) 0 room allowed) ≡ 2 = ap events_said first_said in
      omega (arith, wrong desk (move (negsuc 0) 100) 0 room allowed)

  -- "a pump that takes no record": its place is the one given
  pub takes-no-record : ((h : Hub) (batch : List ℕ) (place : ℕ) (out : List ℕ) (allowance : ℕ) → place_said (said m h batch place out allowance) ≡ place) → ⊥
  takes-no-record wrong =
      let past : place_said (said m desk (move (negsuc 0) 100) 0 room allowed) ≡ 21 = ap place_said first_said in
      omega (arith, wrong desk (move (negsuc 0) 100) 0 room allowed)

  -- "one that converts the first hat move and then only advances its place": a second record adds no event
  pub only-advances : ((h : Hub) (first second : List ℕ) (out : List ℕ) (allowance : ℕ)
      → events_said (said m h (first ++ second) 0 out allowance) ≡ events_said (said m h first 0 out allowance)) → ⊥
  only-advances wrong =
      let two : events_said (said m desk (move (negsuc 0) 100) 0 room allowed) ≡ 2 = ap events_said first_said in
      let six : events_said (said m desk both 0 room allowed) ≡ 6 = ap events_said both-said in
      omega (arith, wrong desk (move (negsuc 0) 100) (move (pos 1) 200) room allowed)

  -- "a made-up step count": the count is the definition's, for every input
  pub made-up-steps : (h : Hub) (batch : List ℕ) (place : ℕ) (out : List ℕ) (allowance : ℕ)
      → (steps_said (said m h batch place out allowance) ≡ steps_said (said pump_of h batch place out allowance) → ⊥) → ⊥
  made-up-steps h batch place out allowance wrong = wrong (ap steps_said (answers h batch place out allowance))

  -- so a count that leaves 01's "DRAINED 6" is none
  pub six-steps : (steps : ℕ) → said m desk both 0 room allowed ≡ Drained 42 6 steps → steps ≡ 6
  six-steps steps wrong = sym (ap steps_said wrong) ∙ ap steps_said both-said

-- ---- "a hub refusing everything": its registration

abbrev pub register_refused : Result ℕ Refusal → ℕ
register_refused a = (register_says a).refusal

pub refuses-every-sheet : (register : Hub → List ℕ → Registered) → ((h : Hub) (s : List ℕ) → register h s ≡ register_of h s)
    → ((h : Hub) (s : List ℕ) → 0 < register_refused (register h s).answer) → ⊥
refuses-every-sheet register meets wrong =
    let none : register_refused (register bare sheet).answer ≡ 0 = ap register_refused (ap (λ (r : Registered). r.answer) (meets bare sheet) ∙ first-pad) in
    omega (arith, wrong bare sheet)
