-- W-206's sentences on a few events, the newest first, computed by the checker; and two statements that are too strong, refuted.
use Rattle.std.specs.Prelude.{ℕ, ◌≡◌, refl, true, [], ◌∷◌, map}
use Rattle.numbers.specs.Constants.{one32}
use Rattle.rules.specs.declared.Event.{Event}
use Rattle.rules.specs.declared.EventType.{EventType}
use Rattle.rules.specs.declared.EventType.TheVariants.{Pressed, Released, Repeated, Changed, Axis}
use Rattle.theory_held.specs.Held.{begun, pressed_by, held_since}

abbrev at : ℕ → EventType → Event
at time t = record { pad = 0; time = time; event = t }

abbrev press : ℕ → Event
press time = at time (Pressed 16 11)

abbrev release : ℕ → Event
release time = at time (Released 16 11)

abbrev again : ℕ → Event
again time = at time (Repeated 16 11)

abbrev value : ℕ → Event
value time = at time (Changed 16 11 one32)

-- "Pressed on an already pressed button keeps it; release keeps it too; a record that begins with Released or Changed has 0. A repeat that creates a record
-- sets it to its own time"; and what is no button's event counts for nothing
sentences :
    map held_since (
    (press 12 ∷ again 9 ∷ press 5 ∷ [])
    ∷ (release 6 ∷ press 5 ∷ [])
    ∷ (press 8 ∷ release 6 ∷ press 5 ∷ [])
    ∷ (release 5 ∷ [])
    ∷ (value 5 ∷ [])
    ∷ (press 6 ∷ value 5 ∷ [])
    ∷ (again 7 ∷ [])
    ∷ (again 7 ∷ release 5 ∷ [])
    ∷ (again 7 ∷ at 5 (Axis 33 11 one32) ∷ [])
    ∷ [])
    ≡ (5 ∷ 5 ∷ 8 ∷ 0 ∷ 0 ∷ 6 ∷ 7 ∷ 0 ∷ 7 ∷ [])
unfolding held_since pressed_by begun
sentences = refl

-- too strong: that 0 tells a button which was never pressed. One that is pressed at 0 has it too, and `pressed` beside it tells them apart
zero-is-no-mark : (pressed_by (press 0 ∷ []) ≡ true) × (held_since (press 0 ∷ []) ≡ 0)
unfolding held_since pressed_by begun
zero-is-no-mark = (refl, refl)

-- too strong: that no event is older than it. Times may run backwards, and it takes what comes
later-than-the-last : held_since (release 4 ∷ press 9 ∷ []) ≡ 9
unfolding held_since pressed_by begun
later-than-the-last = refl
