-- The byte forms of document 01, "ours, big-endian": fields, then sheets, raw records and events as bytes read and as bytes written.
-- Definitions only.
use Rattle.std.specs.Prelude.{ℕ, zero, suc, ◌+◌, ◌-◌, ◌*◌, ◌/◌, ◌%◌, ◌^◌, Bool, true, false, cond, ◌&&◌, ◌||◌, List, [], ◌∷◌, ◌++◌, length, get_or, eqb, ltb, leb, ℤ, pos, negsuc, None, Option, Some}
use Rattle.rules.specs.declared.RawRecord.{RawRecord}
use Rattle.rules.specs.declared.EventForm.{EventForm}
use Rattle.rules.specs.Names.{is_button, is_axis, no_name}

-- ---- fields

-- the w bytes of s from a place on as one number, the highest first
unfoldable pub field_of : List ℕ → ℕ → ℕ → ℕ
field_of s at zero = 0
field_of s at (suc w) = field_of s at w * 256 + get_or s (at + w) 0

-- four bytes read as a signed number
unfoldable pub signed_of : ℕ → ℤ
signed_of x = cond (ltb x 0x80000000) (pos x) (negsuc (0xffffffff - x))

-- a number as w bytes, the highest first
unfoldable pub bytes_of : ℕ → ℕ → List ℕ
bytes_of zero x = []
bytes_of (suc w) x = x / 256 ^ w % 256 ∷ bytes_of w x

-- a signed number as four bytes
unfoldable pub bits_of_signed : ℤ → ℕ
bits_of_signed (pos n) = n
bits_of_signed (negsuc n) = 0xffffffff - n

abbrev pub version : ℕ
version = 1

-- "All open with a 2-byte count of the bytes that follow, then version 1": the count and the version fit a form of this size at this place
unfoldable pub opens : List ℕ → ℕ → ℕ → Bool
unfolding field_of
opens s at size = eqb (field_of s at 2 + 2) size && eqb (get_or s (at + 2) 0) version

-- ---- raw records: "Raw record, 21 bytes, count 19: version, kind, pad, code 4, value 4 signed, time 8"

abbrev pub record_size : ℕ
record_size = 21

abbrev pub kind_pressed : ℕ
kind_pressed = 1

abbrev pub kind_released : ℕ
kind_released = 2

abbrev pub kind_axis : ℕ
kind_axis = 3

abbrev pub kind_connected : ℕ
kind_connected = 4

abbrev pub kind_disconnected : ℕ
kind_disconnected = 5

-- "Value is 0 but for kind 3; code is 0 for kinds 4, 5", compared as bits
unfoldable pub record_kind_fits : ℕ → ℕ → ℕ → Bool
record_kind_fits kind code value =
    leb 1 kind && (leb kind 5 && ((eqb kind kind_axis || eqb value 0) && (ltb kind kind_connected || eqb code 0)))

-- the record's fields from a place on, as they stand
unfoldable pub record_fields : List ℕ → ℕ → RawRecord
unfolding field_of signed_of
record_fields s at =
    record {
      kind = get_or s (at + 3) 0;
      pad = get_or s (at + 4) 0;
      code = field_of s (at + 5) 4;
      value = signed_of (field_of s (at + 9) 4);
      time = field_of s (at + 13) 8;
    }

-- a whole record stands at the place, and its size, count, version, kind and unused fields are right
unfoldable pub record_fits : List ℕ → ℕ → Bool
unfolding field_of opens record_kind_fits
record_fits s at =
    leb record_size (length s - at) && (opens s at record_size && record_kind_fits (get_or s (at + 3) 0) (field_of s (at + 5) 4) (field_of s (at + 9) 4))

abbrev pub pick_record : Bool → RawRecord → Option RawRecord
pick_record true r = Some r
pick_record false r = None

unfoldable pub read_record : List ℕ → ℕ → Option RawRecord
unfolding record_fits record_fields
read_record s at = pick_record (record_fits s at) (record_fields s at)

-- a record's 21 bytes
unfoldable pub record_bytes : RawRecord → List ℕ
unfolding bytes_of bits_of_signed
record_bytes r =
    bytes_of 2 (record_size - 2) ++ (version ∷ r.kind ∷ r.pad ∷ bytes_of 4 r.code ++ (bytes_of 4 (bits_of_signed r.value) ++ bytes_of 8 r.time))

-- ---- events: "Event, 22 bytes, count 20: version, kind, pad, name, code 4, value bits 4, time 8"

abbrev pub event_size : ℕ
event_size = 22

abbrev pub event_pressed : ℕ
event_pressed = 1

abbrev pub event_released : ℕ
event_released = 2

abbrev pub event_repeated : ℕ
event_repeated = 3

abbrev pub event_changed : ℕ
event_changed = 4

abbrev pub event_axis : ℕ
event_axis = 5

abbrev pub event_connected : ℕ
event_connected = 6

abbrev pub event_disconnected : ℕ
event_disconnected = 7

abbrev pub event_dropped : ℕ
event_dropped = 8

-- "Value only in 4 and 5, else 0"
unfoldable pub has_value : ℕ → Bool
has_value kind = eqb kind event_changed || eqb kind event_axis

-- "kinds 6 to 8 have name 255 and code 0"; 1 to 4 have a button's name and 5 an axis's
unfoldable pub name_fits : ℕ → ℕ → ℕ → Bool
unfolding is_button is_axis
name_fits kind name code =
    cond (leb kind event_changed) (is_button name) (cond (eqb kind event_axis) (is_axis name) (eqb name no_name && eqb code 0))

unfoldable pub event_kind_fits : ℕ → ℕ → ℕ → ℕ → Bool
unfolding name_fits has_value
event_kind_fits kind name code bits =
    leb 1 kind && (leb kind event_dropped && (name_fits kind name code && (has_value kind || eqb bits 0)))

unfoldable pub event_fields : List ℕ → EventForm
unfolding field_of
event_fields s =
    record {
      kind = get_or s 3 0;
      pad = get_or s 4 0;
      name = get_or s 5 0;
      code = field_of s 6 4;
      bits = field_of s 10 4;
      time = field_of s 14 8;
    }

unfoldable pub event_fits : List ℕ → Bool
unfolding field_of opens event_kind_fits
event_fits s =
    eqb (length s) event_size && (opens s 0 event_size && event_kind_fits (get_or s 3 0) (get_or s 5 0) (field_of s 6 4) (field_of s 10 4))

abbrev pub pick_event : Bool → EventForm → Option EventForm
pick_event true e = Some e
pick_event false e = None

unfoldable pub read_event : List ℕ → Option EventForm
unfolding event_fits event_fields
read_event s = pick_event (event_fits s) (event_fields s)

-- an event's 22 bytes
unfoldable pub form_bytes : EventForm → List ℕ
unfolding bytes_of
form_bytes e =
    bytes_of 2 (event_size - 2) ++ (version ∷ e.kind ∷ e.pad ∷ e.name ∷ bytes_of 4 e.code ++ (bytes_of 4 e.bits ++ bytes_of 8 e.time))
