-- What each case of each answer says: 01's number, and the values beside it.
use Rattle.std.specs.Prelude.{refl, true, false, [], ◌∷◌, Err, None, Ok, Some}
use Rattle.std.specs.Float.Ieee as Ieee
use Rattle.numbers.specs.Constants.{one32, minus_one32}
use Rattle.numbers.specs.declared.Tilt.TheVariants.{Unmet, Inside, Between, Full}
use Rattle.rules.specs.declared.EventType.TheVariants.{Repeated}
use Rattle.rules.specs.declared.PumpAnswer.TheVariants as pump_answer
use Rattle.rules.specs.Events.{event_bytes}
use Rattle.rules.specs.Answers.{served, refused, answer_says, register_says, pump_says, tilt_says, repeat_says, truth_says, value_says, button_says, axis_says, number_says, down_says}
use Rattle.rules.specs.Examples.Table.{◌is◌, Right, event}
use Rattle.rules.specs.Queries.{pad_down}
use Rattle.rules.specs.Refusals.{numbered}

-- "The answer holds reason, place, events written, and the number of steps made"; a refusal in the pump stands beside place, events and steps
calls :
    Right (
    answer_says (Ok tt) is served []
    ∷ answer_says (Err (numbered 7)) is refused 7 []
    ∷ register_says (Ok 3) is served (3 ∷ [])
    ∷ register_says (Err (numbered 2)) is refused 2 []
    ∷ pump_says (pump_answer.Drained 42 2 3) is served (1 ∷ 42 ∷ 2 ∷ 3 ∷ [])
    ∷ pump_says (pump_answer.Full 42 2 3) is served (2 ∷ 42 ∷ 2 ∷ 3 ∷ [])
    ∷ pump_says (pump_answer.Paused 42 2 3) is served (3 ∷ 42 ∷ 2 ∷ 3 ∷ [])
    ∷ pump_says (pump_answer.Refused 9 42 2 3) is refused 9 (42 ∷ 2 ∷ 3 ∷ [])
    ∷ repeat_says (Ok (Some (event 7 (Repeated 1 11)))) is served (event_bytes (event 7 (Repeated 1 11)))
    ∷ repeat_says (Ok None) is served []
    ∷ repeat_says (Err (numbered 15)) is refused 15 []
    ∷ [])
calls = refl

tilts : Right (tilt_says Unmet is 0 ∷ tilt_says Inside is 1 ∷ tilt_says Between is 2 ∷ tilt_says Full is 3 ∷ [])
tilts = refl

-- a truth is 0 or 1, a float its bits
queries :
    Right (
    truth_says (Ok true) is served (1 ∷ [])
    ∷ truth_says (Ok false) is served (0 ∷ [])
    ∷ truth_says (Err (numbered 6)) is refused 6 []
    ∷ value_says (Ok (Some minus_one32)) is served (0xbf800000 ∷ [])
    ∷ value_says (Ok None) is served []
    ∷ value_says (Err (numbered 16)) is refused 16 []
    ∷ button_says (Ok (Some (record { value = one32; stamp = 5; counter = 6; pressed = true; repeating = false; since = 4 })))
    is served (0x3f800000 ∷ 5 ∷ 6 ∷ 1 ∷ 0 ∷ 4 ∷ [])
    ∷ button_says (Ok None) is served []
    ∷ button_says (Err (numbered 6)) is refused 6 []
    ∷ axis_says (Ok (Some (record { value = one32; stamp = 5; counter = 6 }))) is served (0x3f800000 ∷ 5 ∷ 6 ∷ [])
    ∷ axis_says (Ok None) is served []
    ∷ axis_says (Err (numbered 6)) is refused 6 []
    ∷ number_says (Ok (Some 0x00010130)) is served (0x00010130 ∷ [])
    ∷ number_says (Ok None) is served []
    ∷ number_says (Err (numbered 16)) is refused 16 []
    ∷ down_says (Ok (pad_down 3 true)) is served (3 ∷ 1 ∷ [])
    ∷ down_says (Ok (pad_down 0 false)) is served (0 ∷ 0 ∷ [])
    ∷ down_says (Err (numbered 6)) is refused 6 []
    ∷ [])
unfolding Ieee.of_bits Ieee.to_bits
queries = refl
