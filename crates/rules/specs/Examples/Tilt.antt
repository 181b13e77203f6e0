-- The pump's report: each of the three, what meets no threshold, and which event of which call it tells of.
use Rattle.std.specs.Prelude.{ℕ, ◌≡◌, refl, true, false, List, [], ◌∷◌, ◌++◌, replicate, pos, negsuc}
use Rattle.std.specs.Float.Ieee as Ieee
use Rattle.numbers.specs.declared.Tilt.{Tilt}
use Rattle.numbers.specs.declared.Tilt.TheVariants.{Unmet, Inside, Between, Full}
use Rattle.rules.specs.declared.Hub.{Hub}
use Rattle.rules.specs.declared.PumpAnswer.TheVariants.{Drained}
use Rattle.rules.specs.Tilt.{pump_tilt}
use Rattle.rules.specs.Examples.Table.{◌is◌, Right}
use Rattle.rules.specs.Examples.Desk.{desk, stick_x, stick_y, trigger, hat_x, south, raw, press, move, disconnect, pumped, pump, after}

-- the report, its arithmetic open
report : Hub → List ℕ → ℕ → List ℕ → ℕ → Tilt
unfolding pump_tilt Ieee.of_bits Ieee.to_bits Ieee.lt Ieee.le Ieee.eq Ieee.ne Ieee.of_int Ieee.sub Ieee.mul Ieee.div Ieee.neg Ieee.add
report h batch place out allowance = pump_tilt h batch place out allowance

-- from the batch's beginning, with room for eight events and an allowance of 50
reports : Hub → List ℕ → Tilt
reports h batch = report h batch 0 (replicate 176 0) 50

fresh : Hub
fresh = desk true true

-- ---- the three, and what meets no threshold

-- 0.25 and 0.5 are inside a threshold of 0.5, 0.75 is between, 1.0 and -1.0 are full
three :
    Right (
    reports fresh (move stick_x (pos 1) 7) is Inside
    ∷ reports fresh (move stick_x (pos 2) 7) is Inside
    ∷ reports fresh (move stick_x (pos 3) 7) is Between
    ∷ reports fresh (move stick_x (pos 4) 7) is Full
    ∷ reports fresh (move stick_x (negsuc 3) 7) is Full
    ∷ [])
unfolding reports report fresh desk raw
three = refl

-- a button, a trigger's value, a hat that the pad converts, a pad that leaves; and any event with the filters off
none :
    Right (
    reports fresh (press south 7) is Unmet
    ∷ reports fresh (move trigger (pos 4) 7) is Unmet
    ∷ reports fresh (move hat_x (pos 1) 7) is Unmet
    ∷ reports fresh (disconnect 7) is Unmet
    ∷ reports fresh [] is Unmet
    ∷ reports (desk false true) (move stick_x (pos 4) 7) is Unmet
    ∷ [])
unfolding reports report fresh desk raw
none = refl

-- ---- "dropped or not", and the partner

-- full tilt held still: jitter drops the second before the calculation; 0.25 is handed to nobody, and counts
held : Hub
unfolding fresh after raw
held = after fresh (move stick_x (pos 4) 7)

dropped :
    Right (
    reports held (move stick_x (pos 4) 8) is Unmet
    ∷ reports fresh (move stick_x (pos 4) 7 ++ move stick_x (pos 4) 8) is Full
    ∷ reports fresh (move stick_x (pos 4) 7 ++ press south 8) is Full
    ∷ [])
unfolding reports report fresh held desk raw
dropped = refl

no-event : (pumped fresh (move stick_x (pos 1) 7)).pumped.answer ≡ Drained 21 0 1
unfolding pumped fresh desk raw
no-event = refl

-- Y in its middle is full beside an X at full tilt
beside : reports held (move stick_y (pos 0) 8) ≡ Full
unfolding reports report held fresh desk raw
beside = refl

-- ---- "its call's last": nothing is kept from call to call

lasts :
    Right (
    reports fresh (move stick_x (pos 4) 7 ++ move stick_x (pos 1) 8) is Inside
    ∷ reports fresh (move stick_x (pos 1) 7 ++ move stick_x (pos 3) 8) is Between
    ∷ reports held (press south 8) is Unmet
    ∷ [])
unfolding reports report fresh held desk raw
lasts = refl

-- Y in its middle beside 0.5 is inside, and clears X: the clearing event is one of the step that serves it, here in a later call
waits : Hub
unfolding fresh after pump raw
waits = (pump (after fresh (move stick_x (pos 3) 7)) (move stick_y (pos 0) 8) 0 (replicate 176 0) 1).pumped.hub

cleared : reports waits [] ≡ Inside
unfolding reports report waits fresh desk raw
cleared = refl

-- a refused record leaves what was met before it; a call that is refused as a whole has none
refusals :
    Right (
    reports fresh (move stick_x (pos 4) 7 ++ press 0x00010132 8) is Full
    ∷ report fresh (move stick_x (pos 4) 7) 22 (replicate 176 0) 50 is Unmet
    ∷ report fresh (move stick_x (pos 4) 7) 0 (replicate 16385 0) 50 is Unmet
    ∷ [])
unfolding reports report fresh desk raw
refusals = refl
