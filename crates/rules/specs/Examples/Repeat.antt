-- Repeat: when a record is due, which is first, and the event that is answered.
use Rattle.std.specs.Prelude.{ℕ, ◌≡◌, refl, Bool, true, false, [], ◌∷◌, negsuc, Err, None, Ok, Some}
use Rattle.numbers.specs.Constants.{one32}
use Rattle.rules.specs.declared.Hub.{Hub}
use Rattle.rules.specs.declared.EventType.TheVariants.{Pressed, Released, Repeated}
use Rattle.rules.specs.Names.{code_left}
use Rattle.rules.specs.Calls.{rename_of}
use Rattle.rules.specs.Repeat.{due_of, repeat_of}
use Rattle.rules.specs.Queries.{button_by_code}
use Rattle.rules.specs.Examples.Table.{◌is◌, Right, event}
use Rattle.rules.specs.Examples.Desk.{desk, two_pads, south, plain, hat_x, raw, move, disconnect, after, given}
use Rattle.rules.specs.Refusals.{numbered}

-- ---- when a record is due

-- after 500, every 30; a record of stamp 1,000
due : Bool → Bool → Bool → ℕ → Bool
due known pressed repeating now =
    due_of known (record { value = one32; stamp = 1000; counter = 0; pressed = pressed; repeating = repeating; since = 0 }) 500 30 now

-- "A stamp later than now is not due"
dues :
    Right (
    due true true false 1500 is true
    ∷ due true true false 1499 is false
    ∷ due true true true 1030 is true
    ∷ due true true true 1029 is false
    ∷ due true true false 999 is false
    ∷ due true true true 0 is false
    ∷ due true false false 1500 is false
    ∷ due false true false 1500 is false
    ∷ [])
unfolding due due_of
dues = refl

-- ---- what is answered

-- South is held since 0
held : Hub
held = given (desk true true) (event 0 (Pressed 1 south) ∷ [])

-- its repeat, handed back through `update`
repeated : Hub
repeated = given held (event 500 (Repeated 1 south) ∷ [])

-- "A repeat overwrites a button's stamp", and leaves since when it is held (W-206)
held_on : button_by_code (given (desk true true) (event 5 (Pressed 1 south) ∷ event 505 (Repeated 1 south) ∷ [])) 0 south
    ≡ Ok (Some (record { value = one32; stamp = 505; counter = 0; pressed = true; repeating = true; since = 5 }))
unfolding given desk button_by_code
held_on = refl

-- "The time is its stamp plus after or every"; "held since 0, after 500, every 30 .. now 499: none"
answers :
    Right (
    repeat_of held 500 30 499 is Ok None
    ∷ repeat_of held 500 30 500 is Ok (Some (event 500 (Repeated 1 south)))
    ∷ repeat_of held 500 30 1000 is Ok (Some (event 500 (Repeated 1 south)))
    ∷ repeat_of repeated 500 30 529 is Ok None
    ∷ repeat_of repeated 500 30 1000 is Ok (Some (event 530 (Repeated 1 south)))
    ∷ repeat_of held 0 1 0 is Ok (Some (event 0 (Repeated 1 south)))
    ∷ repeat_of held 500 0 1000 is Err (numbered 15)
    ∷ repeat_of held 500 30 0x4000000000000000 is Err (numbered 12)
    ∷ repeat_of held 500 0x4000000000000000 1000 is Err (numbered 15)
    ∷ repeat_of held 0x4000000000000000 30 1000 is Err (numbered 15)
    ∷ [])
unfolding held repeated given desk repeat_of
answers = refl

-- a button that was released is not held
released : repeat_of (given held (event 5 (Released 1 south) ∷ [])) 500 30 1000 ≡ Ok None
unfolding held given desk repeat_of
released = refl

-- ---- the name: "the code's present button name, else Unknown, so for an unlisted direction"

-- Left by the hat is no element; a button with no name; South renamed East; South renamed as an axis
names :
    Right (
    repeat_of (after (desk true true) (move hat_x (negsuc 0) 0)) 500 30 500 is Ok (Some (event 500 (Repeated 0 code_left)))
    ∷ repeat_of (given (desk true true) (event 0 (Pressed 0 plain) ∷ [])) 500 30 500 is Ok (Some (event 500 (Repeated 0 plain)))
    ∷ repeat_of (rename_of held 0 (2 ∷ 255 ∷ 255 ∷ 255 ∷ 255 ∷ 255 ∷ [])).hub 500 30 500 is Ok (Some (event 500 (Repeated 2 south)))
    ∷ repeat_of (rename_of held 0 (33 ∷ 255 ∷ 255 ∷ 255 ∷ 255 ∷ 255 ∷ [])).hub 500 30 500 is Ok (Some (event 500 (Repeated 0 south)))
    ∷ [])
unfolding held given after desk raw rename_of repeat_of
names = refl

-- ---- the order: "Connected pads by number, codes rising; the first due button"

-- pad 1 holds South since 0, and pad 0 its two buttons since 100, the second first
both : Hub
both =
    given two_pads
    (record { pad = 1; time = 0; event = Pressed 1 south } ∷ event 100 (Pressed 0 plain) ∷ event 100 (Pressed 1 south) ∷ [])

order :
    Right (
    repeat_of both 500 30 599 is Ok (Some (record { pad = 1; time = 500; event = Repeated 1 south }))
    ∷ repeat_of both 500 30 600 is Ok (Some (event 600 (Repeated 1 south)))
    ∷ repeat_of (after both (disconnect 200)) 500 30 600 is Ok (Some (record { pad = 1; time = 500; event = Repeated 1 south }))
    ∷ [])
unfolding both given after two_pads raw repeat_of
order = refl
