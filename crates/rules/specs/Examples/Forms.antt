-- The byte forms: a good record and a good event, byte by byte, and one of each damaged in every field.
use Rattle.std.specs.Prelude.{ℕ, ◌≡◌, refl, true, false, List, [], ◌∷◌, ◌++◌, map, set, take, pos, negsuc, None, Some}
use Rattle.rules.specs.declared.RawRecord.{RawRecord}
use Rattle.rules.specs.declared.EventForm.{EventForm}
use Rattle.rules.specs.Forms.{field_of, signed_of, bits_of_signed, read_record, record_fits, record_bytes, read_event, event_fits, form_bytes}
use Rattle.rules.specs.Examples.Table.{◌is◌, Right}

-- ---- fields: "big-endian", "signed"

fields : Right (field_of (1 ∷ 2 ∷ 3 ∷ 4 ∷ 5 ∷ []) 1 2 is 0x0203 ∷ field_of (1 ∷ 2 ∷ 3 ∷ 4 ∷ 5 ∷ []) 0 4 is 0x01020304 ∷ [])
unfolding field_of
fields = refl

signs : map signed_of (0 ∷ 0x7fffffff ∷ 0x80000000 ∷ 0xffffffff ∷ []) ≡ (pos 0 ∷ pos 0x7fffffff ∷ negsuc 0x7fffffff ∷ negsuc 0 ∷ [])
unfolding signed_of
signs = refl

signed-bits : map bits_of_signed (pos 0 ∷ pos 0x7fffffff ∷ negsuc 0x7fffffff ∷ negsuc 0 ∷ []) ≡ (0 ∷ 0x7fffffff ∷ 0x80000000 ∷ 0xffffffff ∷ [])
unfolding bits_of_signed
signed-bits = refl

-- ---- raw records: "21 bytes, count 19: version, kind, pad, code 4, value 4 signed, time 8"

-- the axis 0x00030010 of pad 2 stands at -1, at 2^40 + 100 microseconds
axis_record : RawRecord
axis_record = record { kind = 3; pad = 2; code = 0x00030010; value = negsuc 0; time = 0x10000000064 }

axis_bytes : List ℕ
axis_bytes = 0 ∷ 19 ∷ 1 ∷ 3 ∷ 2 ∷ 0 ∷ 3 ∷ 0 ∷ 16 ∷ 255 ∷ 255 ∷ 255 ∷ 255 ∷ 0 ∷ 0 ∷ 1 ∷ 0 ∷ 0 ∷ 0 ∷ 0 ∷ 100 ∷ []

record-reads : read_record axis_bytes 0 ≡ Some axis_record
unfolding read_record axis_bytes axis_record
record-reads = refl

record-written : record_bytes axis_record ≡ axis_bytes
unfolding record_bytes axis_bytes axis_record
record-written = refl

-- pad 0's press of 0x00010130, and its Connected
press_bytes : List ℕ
press_bytes = 0 ∷ 19 ∷ 1 ∷ 1 ∷ 0 ∷ 0 ∷ 1 ∷ 1 ∷ 0x30 ∷ 0 ∷ 0 ∷ 0 ∷ 0 ∷ 0 ∷ 0 ∷ 0 ∷ 0 ∷ 0 ∷ 0 ∷ 0 ∷ 7 ∷ []

connect_bytes : List ℕ
connect_bytes = 0 ∷ 19 ∷ 1 ∷ 4 ∷ 0 ∷ 0 ∷ 0 ∷ 0 ∷ 0 ∷ 0 ∷ 0 ∷ 0 ∷ 0 ∷ 0 ∷ 0 ∷ 0 ∷ 0 ∷ 0 ∷ 0 ∷ 0 ∷ 7 ∷ []

-- 8: "record malformed: size, count, version, kind, an unused field". "Value is 0 but for kind 3; code is 0 for kinds 4, 5". A place is any byte's.
-- A pad byte is never an unused field.
records :
    Right (
    record_fits axis_bytes 0 is true
    ∷ record_fits press_bytes 0 is true
    ∷ record_fits connect_bytes 0 is true
    ∷ record_fits (9 ∷ axis_bytes) 1 is true
    ∷ record_fits (axis_bytes ++ press_bytes) 21 is true
    ∷ record_fits (set axis_bytes 4 255) 0 is true
    ∷ record_fits (take 20 axis_bytes) 0 is false
    ∷ record_fits axis_bytes 1 is false
    ∷ record_fits (set axis_bytes 0 1) 0 is false
    ∷ record_fits (set axis_bytes 1 18) 0 is false
    ∷ record_fits (set axis_bytes 1 20) 0 is false
    ∷ record_fits (set axis_bytes 2 0) 0 is false
    ∷ record_fits (set axis_bytes 2 2) 0 is false
    ∷ record_fits (set axis_bytes 3 0) 0 is false
    ∷ record_fits (set axis_bytes 3 6) 0 is false
    ∷ record_fits (set axis_bytes 3 1) 0 is false
    ∷ record_fits (set press_bytes 3 2) 0 is true
    ∷ record_fits (set press_bytes 3 4) 0 is false
    ∷ record_fits (set press_bytes 3 5) 0 is false
    ∷ record_fits (set press_bytes 12 1) 0 is false
    ∷ record_fits (set connect_bytes 3 5) 0 is true
    ∷ record_fits (set connect_bytes 8 1) 0 is false
    ∷ record_fits (set connect_bytes 9 0x80) 0 is false
    ∷ [])
unfolding record_fits axis_bytes press_bytes connect_bytes
records = refl

malformed-record : read_record (set axis_bytes 2 2) 0 ≡ None
unfolding read_record axis_bytes
malformed-record = refl

-- ---- events: "22 bytes, count 20: version, kind, pad, name, code 4, value bits 4, time 8"

-- LeftStickX of pad 2 stands at -0.5
stick_form : EventForm
stick_form = record { kind = 5; pad = 2; name = 33; code = 0x00030010; bits = 0xbf000000; time = 0x10000000064 }

stick_bytes : List ℕ
stick_bytes = 0 ∷ 20 ∷ 1 ∷ 5 ∷ 2 ∷ 33 ∷ 0 ∷ 3 ∷ 0 ∷ 16 ∷ 0xbf ∷ 0 ∷ 0 ∷ 0 ∷ 0 ∷ 0 ∷ 1 ∷ 0 ∷ 0 ∷ 0 ∷ 0 ∷ 100 ∷ []

event-reads : read_event stick_bytes ≡ Some stick_form
unfolding read_event stick_bytes stick_form
event-reads = refl

event-written : form_bytes stick_form ≡ stick_bytes
unfolding form_bytes stick_bytes stick_form
event-written = refl

-- an event of pad 0, by kind, name, code and value bits
form : ℕ → ℕ → ℕ → ℕ → List ℕ
form kind name code bits = form_bytes (record { kind = kind; pad = 0; name = name; code = code; bits = bits; time = 7 })

-- 8: "size, count, version, kind, an unused field"
damaged-events :
    Right (
    event_fits stick_bytes is true
    ∷ event_fits (set stick_bytes 4 255) is true
    ∷ event_fits (take 21 stick_bytes) is false
    ∷ event_fits (stick_bytes ++ (0 ∷ [])) is false
    ∷ event_fits (set stick_bytes 0 1) is false
    ∷ event_fits (set stick_bytes 1 19) is false
    ∷ event_fits (set stick_bytes 1 21) is false
    ∷ event_fits (set stick_bytes 2 0) is false
    ∷ event_fits (set stick_bytes 2 2) is false
    ∷ event_fits (form 0 255 0 0) is false
    ∷ event_fits (form 9 255 0 0) is false
    ∷ [])
unfolding event_fits stick_bytes form form_bytes
damaged-events = refl

malformed-event : read_event (set stick_bytes 2 2) ≡ None
unfolding read_event stick_bytes
malformed-event = refl

-- "an event's name of the wrong sort"; Unknown is of the right sort, 255 of none but kinds 6 to 8
event-names :
    Right (
    event_fits (form 1 0 1 0) is true
    ∷ event_fits (form 1 19 1 0) is true
    ∷ event_fits (form 1 20 1 0) is false
    ∷ event_fits (form 1 33 1 0) is false
    ∷ event_fits (form 1 255 1 0) is false
    ∷ event_fits (form 2 33 1 0) is false
    ∷ event_fits (form 3 33 1 0) is false
    ∷ event_fits (form 4 19 1 0) is true
    ∷ event_fits (form 4 33 1 0) is false
    ∷ event_fits (form 5 32 1 0) is true
    ∷ event_fits (form 5 40 1 0) is true
    ∷ event_fits (form 5 41 1 0) is false
    ∷ event_fits (form 5 19 1 0) is false
    ∷ event_fits (form 5 255 1 0) is false
    ∷ event_fits (form 6 255 0 0) is true
    ∷ event_fits (form 6 0 0 0) is false
    ∷ event_fits (form 7 32 0 0) is false
    ∷ event_fits (form 8 255 1 0) is false
    ∷ [])
unfolding event_fits form form_bytes
event-names = refl

-- "Value only in 4 and 5, else 0", compared as bits: those of -0.0 are not 0
event-values :
    map event_fits
    (form 1 1 1 0x80000000
    ∷ form 2 1 1 1
    ∷ form 3 1 1 1
    ∷ form 4 1 1 0xffffffff
    ∷ form 5 33 1 0x80000000
    ∷ form 6 255 0 1
    ∷ form 7 255 0 1
    ∷ form 8 255 0 0x80000000
    ∷ [])
    ≡ (false ∷ false ∷ false ∷ true ∷ true ∷ false ∷ false ∷ false ∷ [])
unfolding event_fits form form_bytes
event-values = refl
