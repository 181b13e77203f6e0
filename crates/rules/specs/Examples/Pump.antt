-- The pump: its stops and their order, refused records, and where its events go.
use Rattle.std.specs.Prelude.{ℕ, ◌≡◌, refl, true, List, [], ◌∷◌, ◌++◌, take, replicate, pos}
use Rattle.numbers.specs.Constants.{zero32, one32}
use Rattle.rules.specs.declared.EventType.TheVariants.{Pressed, Released, Changed}
use Rattle.rules.specs.declared.PumpAnswer.{PumpAnswer}
use Rattle.rules.specs.declared.PumpAnswer.TheVariants.{Drained, Full, Paused, Refused}
use Rattle.rules.specs.Pump.{stop_of}
use Rattle.rules.specs.Examples.Table.{◌is◌, Right, event}
use Rattle.rules.specs.Examples.Desk.{desk, south, hat_x, raw, press, release, move, pump, pumped, after, events_bytes}

-- ---- "Before each step, in order: queue empty and batch used up gives Drained; under 22 bytes of out left gives Full; allowance spent gives Paused"

-- what waits, what is left of the batch, of the out buffer and of the allowance: Drained is 1, Full 2, Paused 3, and 0 goes on
stops :
    Right (
    stop_of 0 0 0 0 is 1
    ∷ stop_of 0 0 22 1 is 1
    ∷ stop_of 1 0 21 0 is 2
    ∷ stop_of 0 21 21 1 is 2
    ∷ stop_of 0 1 22 0 is 3
    ∷ stop_of 1 0 22 0 is 3
    ∷ stop_of 1 0 22 1 is 0
    ∷ stop_of 0 21 22 1 is 0
    ∷ [])
unfolding stop_of
stops = refl

-- ---- the answers of whole pumps: reason or refusal, place, events, steps

answers : List ℕ → ℕ → ℕ → ℕ → PumpAnswer
answers batch place room allowance = (pump (desk true true) batch place (replicate room 0) allowance).pumped.answer

-- South is pressed at 7: Pressed, and Changed behind it
one : List ℕ
one = press south 7

-- a record of a code that no element has
unlisted : List ℕ
unlisted = press 0x00010132 8

-- "14 comes first, then 8 for a place past the end, both with the place given and no events or steps"; a place need not be a multiple of 21
places :
    Right (
    answers one 0 44 50 is Drained 21 2 2
    ∷ answers (9 ∷ one) 1 44 50 is Drained 22 2 2
    ∷ answers one 21 0 0 is Drained 21 0 0
    ∷ answers one 22 44 50 is Refused 8 22 0 0
    ∷ answers one 22 16385 50 is Refused 14 22 0 0
    ∷ answers (replicate 16385 0) 16386 0 50 is Refused 14 16386 0 0
    ∷ [])
unfolding answers one desk raw pump
places = refl

-- Full and Paused come before the next record is looked at; a tail under 21 bytes is 8 when it is reached; "the bad record counts no step, and its place is
-- answered with the events and steps so far"
ends :
    Right (
    answers one 0 43 50 is Full 21 1 1
    ∷ answers one 0 44 1 is Paused 21 1 1
    ∷ answers one 0 43 1 is Full 21 1 1
    ∷ answers unlisted 0 21 50 is Full 0 0 0
    ∷ answers unlisted 0 22 0 is Paused 0 0 0
    ∷ answers unlisted 0 22 1 is Refused 9 0 0 0
    ∷ answers (one ++ unlisted) 0 88 50 is Refused 9 21 2 2
    ∷ answers (one ++ unlisted) 0 88 2 is Paused 21 2 2
    ∷ answers (one ++ (0 ∷ [])) 0 88 50 is Refused 8 21 2 2
    ∷ answers (one ++ take 20 one) 0 44 50 is Full 21 2 2
    ∷ [])
unfolding answers one unlisted desk raw pump
ends = refl

-- "earlier steps stand", and the refused record leaves the hub and the out buffer as they were
refused-hub : after (desk true true) (one ++ unlisted) ≡ after (desk true true) one
unfolding one unlisted after desk raw
refused-hub = refl

refused-out : (pumped (desk true true) (one ++ unlisted)).out ≡ (pumped (desk true true) one).out
unfolding one unlisted pumped desk raw
refused-out = refl

-- a dropped event is a step and no event: the hat in the middle, with neither direction pressed
dropped_step : answers (move hat_x (pos 0) 7) 0 22 50 ≡ Drained 21 0 1
unfolding answers desk raw pump
dropped_step = refl

-- "A step takes the queue's front, else the next raw record"; each event stands at 22 times the events before it; "Bytes past the written events stay"
written :
    (pump (desk true true) (one ++ release south 9) 0 (replicate 90 5) 50).out
    ≡ events_bytes (event 7 (Pressed 1 south) ∷ event 7 (Changed 1 south one32) ∷ event 9 (Released 1 south) ∷ event 9 (Changed 1 south zero32) ∷ [])
    ++ (5 ∷ 5 ∷ [])
unfolding one desk raw pump events_bytes
written = refl

-- what waited when the buffer was full comes first in the next pump
resumed :
    (pump (pump (desk true true) one 0 (replicate 22 0) 50).pumped.hub (release south 9) 0 (replicate 66 0) 50).out
    ≡ events_bytes (event 7 (Changed 1 south one32) ∷ event 9 (Released 1 south) ∷ event 9 (Changed 1 south zero32) ∷ [])
unfolding one desk raw pump events_bytes
resumed = refl
