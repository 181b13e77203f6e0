-- Refusals: each condition at its limit and one past it, and for each two that stand side by side in an order an example where both hold.
use Rattle.std.specs.Prelude.{ℕ, ◌≡◌, refl, Bool, true, false, [], ◌∷◌, map, ℤ, pos, negsuc, Float}
use Rattle.std.specs.Float.Ieee as Ieee
use Rattle.std.specs.Float.{nan, binary32}
use Rattle.std.specs.Float.Ieee.{of_bits}
use Rattle.numbers.specs.Constants.{zero32, one32, two32}
use Rattle.rules.specs.Refusals.{thresholds_refusal, is_registered, value_fits, time_fits, element_refusal, record_refusal, form_refusal, insert_refusal, pump_refusal, repeat_refusal, button_query_refusal, axis_query_refusal, name_query_refusal}
use Rattle.rules.specs.Examples.Table.{◌is◌, Right, half32, three_quarters32}

-- ---- 1: "pressed <= released, either outside 0..1, or NaN"

minus_zero32 : Float
minus_zero32 = of_bits binary32 0x80000000

-- -0.0 is not outside 0..1, and equals 0.0
thresholds :
    Right (
    thresholds_refusal three_quarters32 half32 is 0
    ∷ thresholds_refusal one32 zero32 is 0
    ∷ thresholds_refusal half32 half32 is 1
    ∷ thresholds_refusal half32 three_quarters32 is 1
    ∷ thresholds_refusal (of_bits binary32 0x3f800001) half32 is 1
    ∷ thresholds_refusal half32 (of_bits binary32 0x80000001) is 1
    ∷ thresholds_refusal two32 (of_bits binary32 0x3f800001) is 1
    ∷ thresholds_refusal nan half32 is 1
    ∷ thresholds_refusal half32 nan is 1
    ∷ thresholds_refusal half32 minus_zero32 is 0
    ∷ thresholds_refusal zero32 minus_zero32 is 1
    ∷ [])
unfolding thresholds_refusal minus_zero32 Ieee.of_bits Ieee.lt Ieee.le
thresholds = refl

-- ---- 6: "pad not registered"

pads : Right (is_registered 0 0 is false ∷ is_registered 2 1 is true ∷ is_registered 2 2 is false ∷ is_registered 4 3 is true ∷ is_registered 9 4 is false ∷ [])
unfolding is_registered
pads = refl

-- ---- 11 and 12

-- "event value not finite in -1..1": -0.0, 1.0 and -1.0 are in; the next past 1.0 and -1.0, the infinities and NaNs are not
values :
    map value_fits (0 ∷ 0x80000000 ∷ 0x3f800000 ∷ 0xbf800000 ∷ 0x3f800001 ∷ 0xbf800001 ∷ 0x7f800000 ∷ 0xff800000 ∷ 0x7fc00000 ∷ [])
    ≡ (true ∷ true ∷ true ∷ true ∷ false ∷ false ∷ false ∷ false ∷ false ∷ [])
unfolding value_fits
values = refl

-- "Times 0..2^62-1 microseconds"
times : Right (time_fits 0 is true ∷ time_fits 0x3fffffffffffffff is true ∷ time_fits 0x4000000000000000 is false ∷ [])
unfolding time_fits
times = refl

-- ---- 9 and 10: "record of kind 1 or 2 on an axis element, of kind 3 on a button"; kinds 4 and 5 name no element

elements :
    Right (
    element_refusal 1 0 is 9
    ∷ element_refusal 1 1 is 0
    ∷ element_refusal 1 2 is 10
    ∷ element_refusal 2 0 is 9
    ∷ element_refusal 2 1 is 0
    ∷ element_refusal 2 2 is 10
    ∷ element_refusal 3 0 is 9
    ∷ element_refusal 3 1 is 10
    ∷ element_refusal 3 2 is 0
    ∷ element_refusal 4 0 is 0
    ∷ element_refusal 5 0 is 0
    ∷ [])
unfolding element_refusal
elements = refl

-- ---- "Record and event: 8, 6, 9, 10, 11, 12, 13 where they apply"

late : ℕ
late = 0x4000000000000000

-- two pads stand; a record of a kind, pad, value and time, whose code has an element of a kind
recorded : Bool → ℕ → ℕ → ℕ → ℤ → ℕ → ℕ
recorded fits kind pad element value time =
    record_refusal (record { raw = record { kind = kind; pad = pad; code = 11; value = value; time = time }; fits = fits }) 2 element

-- raw values lie in -8,388,608..8,388,607
records :
    Right (
    recorded true 3 1 2 (pos 8388607) 0x3fffffffffffffff is 0
    ∷ recorded true 3 1 2 (negsuc 8388607) 0 is 0
    ∷ recorded true 3 1 2 (pos 8388608) 0 is 11
    ∷ recorded true 3 1 2 (negsuc 8388608) 0 is 11
    ∷ recorded true 1 0 1 (pos 0) 0 is 0
    ∷ recorded true 4 0 0 (pos 0) 0 is 0
    ∷ recorded true 4 0 0 (pos 0) late is 12
    ∷ recorded true 4 2 0 (pos 0) 0 is 6
    ∷ [])
unfolding recorded record_refusal late
records = refl

record-order :
    Right (
    recorded false 3 2 2 (pos 0) 0 is 8
    ∷ recorded true 3 2 0 (pos 0) 0 is 6
    ∷ recorded true 3 1 0 (pos 8388608) 0 is 9
    ∷ recorded true 3 1 1 (pos 8388608) 0 is 10
    ∷ recorded true 3 1 2 (pos 8388608) late is 11
    ∷ recorded true 3 1 2 (pos 0) late is 12
    ∷ [])
unfolding recorded record_refusal late
record-order = refl

-- two pads stand; an event of a kind and pad whose code stands at a place, while so many wait
inserted : ℕ → ℕ → ℕ → ℕ → ℕ → ℕ → ℕ
inserted kind pad place bits time waiting =
    insert_refusal (record { kind = kind; pad = pad; name = 33; code = 11; bits = bits; time = time }) 2 place waiting

-- "code not listed": place 208. Events of kinds 6 to 8 carry no code. 13: "caller's insert while 16 or more wait".
inserts :
    Right (
    inserted 5 1 207 0x3f800000 0x3fffffffffffffff 15 is 0
    ∷ inserted 1 1 208 0 0 0 is 9
    ∷ inserted 5 1 208 0 0 0 is 9
    ∷ inserted 6 1 208 0 0 0 is 0
    ∷ inserted 8 1 208 0 0 0 is 0
    ∷ inserted 5 1 0 0 0 16 is 13
    ∷ [])
unfolding inserted insert_refusal
inserts = refl

insert-order :
    Right (
    inserted 5 2 208 0x3f800001 0 0 is 6
    ∷ inserted 5 1 208 0x3f800001 0 0 is 9
    ∷ inserted 5 1 0 0x3f800001 late 0 is 11
    ∷ inserted 5 1 0 0 late 16 is 12
    ∷ [])
unfolding inserted insert_refusal late
insert-order = refl

-- an update is judged as an insert is, but for 13
updates : form_refusal (record { kind = 5; pad = 1; name = 33; code = 11; bits = 0x3f800001; time = late }) 2 0 ≡ 11
unfolding form_refusal late
updates = refl

-- ---- 14: "batch or out buffer too long", then 8 for a place past the end

pumps :
    Right (
    pump_refusal 16384 16384 16384 is 0
    ∷ pump_refusal 16385 0 0 is 14
    ∷ pump_refusal 0 16385 0 is 14
    ∷ pump_refusal 21 0 21 is 0
    ∷ pump_refusal 21 0 22 is 8
    ∷ pump_refusal 0 16385 1 is 14
    ∷ [])
unfolding pump_refusal
pumps = refl

-- ---- "Repeat: 15, 12"; "Repeat after 0..60,000,000, every 1..60,000,000"

repeats :
    Right (
    repeat_refusal 0 1 0x3fffffffffffffff is 0
    ∷ repeat_refusal 60000000 60000000 0 is 0
    ∷ repeat_refusal 60000001 1 0 is 15
    ∷ repeat_refusal 0 0 0 is 15
    ∷ repeat_refusal 0 60000001 0 is 15
    ∷ repeat_refusal 0 1 late is 12
    ∷ repeat_refusal 0 0 late is 15
    ∷ [])
unfolding repeat_refusal late
repeats = refl

-- ---- "Query: 6, 16"; 16: "a byte that is no name of the sort asked, Unknown included"

queries :
    Right (
    button_query_refusal 1 0 1 is 0
    ∷ button_query_refusal 1 0 0 is 16
    ∷ button_query_refusal 1 0 33 is 16
    ∷ button_query_refusal 1 1 0 is 6
    ∷ axis_query_refusal 1 0 33 is 0
    ∷ axis_query_refusal 1 0 32 is 16
    ∷ axis_query_refusal 1 0 19 is 16
    ∷ axis_query_refusal 1 1 32 is 6
    ∷ name_query_refusal 1 0 19 is 0
    ∷ name_query_refusal 1 0 40 is 0
    ∷ name_query_refusal 1 0 0 is 16
    ∷ name_query_refusal 1 0 32 is 16
    ∷ name_query_refusal 1 0 255 is 16
    ∷ name_query_refusal 1 1 255 is 6
    ∷ [])
unfolding button_query_refusal axis_query_refusal name_query_refusal
queries = refl
