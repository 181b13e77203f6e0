-- Pad sheets: their bytes read, and what refuses them, 3, 4, W-212's 29 and 5 in that order. Definitions only.
use Rattle.std.specs.Prelude.{ℕ, zero, suc, ◌+◌, ◌-◌, ◌*◌, ◌/◌, ◌%◌, Bool, true, false, cond, not, ◌&&◌, ◌||◌, List, [], ◌∷◌, ◌++◌, length, get_or, eqb, ltb, leb, ℤ, pos, negsuc}
use Rattle.std.specs.Int.Signed.{lt_z}
use Rattle.numbers.specs.Constants.{within_of, deadzone_within_of}
use Rattle.rules.specs.declared.SheetElement.{SheetElement}
use Rattle.rules.specs.Names.{name_allowed, no_name, element_limit}
use Rattle.rules.specs.Forms.{field_of, signed_of, bytes_of, bits_of_signed, opens, version}

-- ---- the bytes

-- "count, version, hats 0..15, n, then n elements"
abbrev pub sheet_opening : ℕ
sheet_opening = 5

-- "code 4, kind 1, name 1, min 4, max 4, deadzone 4"
abbrev pub element_size : ℕ
element_size = 18

-- where in an element its name stands
abbrev pub name_offset : ℕ
name_offset = 5

-- "kind 1 (1 button, 2 axis)"
abbrev pub element_button : ℕ
element_button = 1

abbrev pub element_axis : ℕ
element_axis = 2

abbrev pub last_hats : ℕ
last_hats = 15

-- an element's fields from a place on
unfoldable pub element_fields : List ℕ → ℕ → SheetElement
unfolding field_of signed_of
element_fields s at =
    record {
      code = field_of s at 4;
      kind = get_or s (at + 4) 0;
      name = get_or s (at + name_offset) 0;
      min = signed_of (field_of s (at + 6) 4);
      max = signed_of (field_of s (at + 10) 4);
      deadzone = field_of s (at + 14) 4;
    }

-- the sheet's i-th element
unfoldable pub element_of : List ℕ → ℕ → SheetElement
unfolding element_fields
element_of s i = element_fields s (sheet_opening + element_size * i)

-- the hats and the n of the opening
unfoldable pub hats_of : List ℕ → ℕ
hats_of s = get_or s 3 0

unfoldable pub count_of : List ℕ → ℕ
count_of s = get_or s 4 0

-- ---- W-203's bit 7 of the hats byte

abbrev pub zone_mark : ℕ
zone_mark = 128

-- "A sheet may set bit 7 of its hats byte": a zone pad
unfoldable pub zoned_of : ℕ → Bool
zoned_of hats = eqb (hats / zone_mark % 2) 1

-- "hats become 0", but "a rename keeps bit 7"
unfoldable pub hats_renamed : ℕ → ℕ
unfolding zoned_of
hats_renamed hats = cond (zoned_of hats) zone_mark 0

-- ---- 3: "sheet's size, count, version or n wrong"

unfoldable pub sheet_fits : List ℕ → Bool
unfolding opens count_of
sheet_fits s = eqb (length s) (sheet_opening + element_size * count_of s) && (opens s 0 (length s) && leb (count_of s) element_limit)

-- ---- 4: "hats over 15 or an element breaks a rule (first one decides), duplicate names apart"

abbrev pub is_zero : ℤ → Bool
is_zero (pos n) = eqb n 0
is_zero (negsuc n) = false

-- "For a button min, max and deadzone are 0"
unfoldable pub button_fits : SheetElement → Bool
button_fits e = is_zero e.min && (is_zero e.max && eqb e.deadzone 0)

-- "Axis min < max, and min, max and raw values in -8,388,608..8,388,607"; "Deadzone 0..16,777,215 or absent"
unfoldable pub axis_fits : SheetElement → Bool
unfolding within_of deadzone_within_of
axis_fits e = within_of e.min && (within_of e.max && (lt_z e.min e.max && deadzone_within_of e.deadzone))

-- kind, name, and the limits of its kind
unfoldable pub element_fits : SheetElement → Bool
unfolding button_fits axis_fits name_allowed
element_fits e =
    name_allowed e.name && ((eqb e.kind element_button && button_fits e) || (eqb e.kind element_axis && axis_fits e))

-- "Codes strictly rise"
unfoldable pub rises : List ℕ → ℕ → Bool
unfolding element_of
rises s i = eqb i 0 || ltb (element_of s (i - 1)).code (element_of s i).code

-- the n elements from the i-th on
unfoldable pub elements_fit : List ℕ → ℕ → ℕ → Bool
unfolding element_fits rises element_of
elements_fit s zero i = true
elements_fit s (suc n) i = element_fits (element_of s i) && (rises s i && elements_fit s n (i + 1))

-- ---- 5: "a name stands twice"; "none but 255 twice"

-- names stand in bytes at start, start + stride, ..: every 18th byte of a sheet, every byte of a rename list
unfoldable pub name_at : List ℕ → ℕ → ℕ → ℕ → ℕ
name_at s start stride i = get_or s (start + stride * i) 0

-- the name is among the n from the i-th on
unfoldable pub occurs_in : List ℕ → ℕ → ℕ → ℕ → ℕ → ℕ → Bool
unfolding name_at
occurs_in s start stride name zero i = false
occurs_in s start stride name (suc n) i = eqb (name_at s start stride i) name || occurs_in s start stride name n (i + 1)

unfoldable pub occurs_twice : List ℕ → ℕ → ℕ → ℕ → ℕ → Bool
unfolding name_at occurs_in
occurs_twice s start stride zero i = false
occurs_twice s start stride (suc n) i =
    (not (eqb (name_at s start stride i) no_name) && occurs_in s start stride (name_at s start stride i) n (i + 1))
    || occurs_twice s start stride n (i + 1)

-- ---- W-212: "New sheets .. must have hats 0 or 15 in the low four bits", one bit a direction

-- one to three directions are mapped: the low four bits are "1 to 14"
unfoldable pub partial_of : ℕ → Bool
partial_of hats = let low = hats % (last_hats + 1) in ltb 0 low && ltb low last_hats

-- ---- "Sheet order: 2, 3, 4, 5"; "29 partial hats, after 4 and before 5", which an archived sheet may have

-- 0 where the sheet is good
unfoldable pub sheet_refusal : Bool → List ℕ → ℕ
unfolding sheet_fits hats_of count_of elements_fit partial_of occurs_twice
sheet_refusal archived s =
    cond (not (sheet_fits s)) 3
    (cond (ltb last_hats (hats_of s) || not (elements_fit s (count_of s) 0)) 4
    (cond (not archived && partial_of (hats_of s)) 29
    (cond (occurs_twice s (sheet_opening + name_offset) element_size (count_of s) 0) 5 0)))

-- ---- "rename list not one name per element" 3, a name that is none 4, a name twice 5

-- the n names from the i-th on are names that a list may give
unfoldable pub names_fit : List ℕ → ℕ → ℕ → Bool
unfolding name_allowed
names_fit s zero i = true
names_fit s (suc n) i = name_allowed (get_or s i 0) && names_fit s n (i + 1)

unfoldable pub rename_list_refusal : List ℕ → ℕ → ℕ
unfolding names_fit occurs_twice
rename_list_refusal s count =
    cond (not (eqb (length s) count)) 3 (cond (not (names_fit s count 0)) 4 (cond (occurs_twice s 0 1 count 0) 5 0))

-- ---- a sheet's bytes, for examples and theorems

unfoldable pub element_bytes : SheetElement → List ℕ
unfolding bytes_of bits_of_signed
element_bytes e =
    bytes_of 4 e.code ++ (e.kind ∷ e.name ∷ bytes_of 4 (bits_of_signed e.min) ++ (bytes_of 4 (bits_of_signed e.max) ++ bytes_of 4 e.deadzone))

unfoldable pub elements_bytes : List SheetElement → List ℕ
unfolding element_bytes
elements_bytes [] = []
elements_bytes (e ∷ es) = element_bytes e ++ elements_bytes es

unfoldable pub sheet_bytes : ℕ → List SheetElement → List ℕ
unfolding elements_bytes bytes_of
sheet_bytes hats es = bytes_of 2 (3 + element_size * length es) ++ (version ∷ hats ∷ length es ∷ elements_bytes es)
