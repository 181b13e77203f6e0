-- "Refusals by number": each as a condition, and the order in which a record, an event and the settings are judged. 0 is no refusal. The sheet's
-- own refusals stand in Sheets. Definitions only.
use Rattle.std.specs.Prelude.{ℕ, zero, suc, Result, Ok, Err, ◌%◌, Bool, cond, ◌&&◌, ◌||◌, eqb, ltb, leb, Float}
use Rattle.std.specs.Float.Ieee.{lt, le}
use Rattle.numbers.specs.Constants.{zero32, one32, within_of}
use Rattle.rules.specs.declared.RawRecord.{RawRecord}
use Rattle.rules.specs.declared.NextRecord.{NextRecord}
use Rattle.rules.specs.declared.EventForm.{EventForm}
use Rattle.rules.specs.declared.Refusal.{Refusal}
use Rattle.rules.specs.Names.{pad_limit, nowhere, last_time, last_wait, buffer_limit, insert_limit, names_button, names_axis}
use Rattle.rules.specs.Forms.{kind_axis, event_axis}
use Rattle.rules.specs.Sheets.{element_button, element_axis}

-- ---- an answer: the refusal of a number other than 0, else what was asked for

abbrev pub numbered : ℕ → Refusal
numbered number = record { number = number }

abbrev pub answer_by : {A : Type 0} → ℕ → A → Result A Refusal
answer_by zero x = Ok x
answer_by (suc number) x = Err (numbered (suc number))

-- that a call is served, or why not
abbrev pub judged : ℕ → Result (Unit {0}) Refusal
judged number = answer_by number tt

-- ---- 1: "pressed <= released, either outside 0..1, or NaN"

-- whether a value lies in 0..1; a NaN does not
unfoldable pub in_unit : Float → Bool
in_unit x = le zero32 x && le x one32

unfoldable pub thresholds_refusal : Float → Float → ℕ
unfolding in_unit
thresholds_refusal pressed released = cond (in_unit pressed && (in_unit released && lt released pressed)) 0 1

-- ---- 6: "pad not registered"

unfoldable pub is_registered : ℕ → ℕ → Bool
is_registered pads p = ltb p pads && ltb p pad_limit

-- ---- 11 and 12

-- "event value not finite in -1..1": the bits without the sign are those of a value up to 1.0
unfoldable pub value_fits : ℕ → Bool
value_fits bits = leb (bits % 0x80000000) 0x3f800000

unfoldable pub time_fits : ℕ → Bool
time_fits t = leb t last_time

-- ---- "Record and event: 8, 6, 9, 10, 11, 12, 13 where they apply"

-- kind: of the element that has the record's code, 0 where none is listed. Records of kinds 4 and 5 name no element.
unfoldable pub element_refusal : ℕ → ℕ → ℕ
element_refusal record_kind kind =
    cond (ltb kind_axis record_kind) 0
    (cond (eqb kind 0) 9
    (cond (eqb kind (cond (eqb record_kind kind_axis) element_axis element_button)) 0 10))

abbrev pub first : ℕ → ℕ → ℕ
first a b = cond (eqb a 0) b a

abbrev pub unless_fits : Bool → ℕ → ℕ
unless_fits fits number = cond fits 0 number

unfoldable pub fields_refusal : RawRecord → ℕ → ℕ → ℕ
unfolding is_registered element_refusal time_fits within_of
fields_refusal r pads kind =
    first (unless_fits (is_registered pads r.pad) 6)
    (first (element_refusal r.kind kind)
    (first (unless_fits (within_of r.value) 11) (unless_fits (time_fits r.time) 12)))

-- 8 first, then what the fields say
unfoldable pub record_refusal : NextRecord → ℕ → ℕ → ℕ
unfolding fields_refusal
record_refusal l pads kind = first (unless_fits l.fits 8) (fields_refusal l.raw pads kind)

-- place: of the event's code, `nowhere` where it is neither listed nor a direction's. Events of kinds 6 to 8 carry none.
unfoldable pub code_refusal : ℕ → ℕ → ℕ
code_refusal kind place = cond (ltb event_axis kind) 0 (unless_fits (ltb place nowhere) 9)

unfoldable pub form_refusal : EventForm → ℕ → ℕ → ℕ
unfolding is_registered code_refusal value_fits time_fits
form_refusal f pads place =
    first (unless_fits (is_registered pads f.pad) 6)
    (first (code_refusal f.kind place)
    (first (unless_fits (value_fits f.bits) 11) (unless_fits (time_fits f.time) 12)))

-- 13: "caller's insert while 16 or more wait"
unfoldable pub insert_refusal : EventForm → ℕ → ℕ → ℕ → ℕ
unfolding form_refusal
insert_refusal f pads place waiting = first (form_refusal f pads place) (unless_fits (ltb waiting insert_limit) 13)

-- ---- 14, then 8 for a place past the end

unfoldable pub pump_refusal : ℕ → ℕ → ℕ → ℕ
pump_refusal batch out place = cond (ltb buffer_limit batch || ltb buffer_limit out) 14 (cond (ltb batch place) 8 0)

-- ---- "Repeat: 15, 12"

unfoldable pub repeat_refusal : ℕ → ℕ → ℕ → ℕ
unfolding time_fits
repeat_refusal after every now =
    first (unless_fits (leb after last_wait && (leb 1 every && leb every last_wait)) 15) (unless_fits (time_fits now) 12)

-- ---- "Query: 6, 16"

unfoldable pub button_query_refusal : ℕ → ℕ → ℕ → ℕ
unfolding is_registered names_button
button_query_refusal pads p name = first (unless_fits (is_registered pads p) 6) (unless_fits (names_button name) 16)

unfoldable pub axis_query_refusal : ℕ → ℕ → ℕ → ℕ
unfolding is_registered names_axis
axis_query_refusal pads p name = first (unless_fits (is_registered pads p) 6) (unless_fits (names_axis name) 16)

unfoldable pub name_query_refusal : ℕ → ℕ → ℕ → ℕ
unfolding is_registered names_button names_axis
name_query_refusal pads p name = first (unless_fits (is_registered pads p) 6) (unless_fits (names_button name || names_axis name) 16)
