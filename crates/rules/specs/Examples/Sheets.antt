-- Sheets and rename lists: a good sheet byte by byte, every rule of an element at its limit and one past it, partial hats, and the order 3, 4, 29, 5.
use Rattle.std.specs.Prelude.{ℕ, zero, suc, ◌+◌, ◌≡◌, refl, true, false, List, [], ◌∷◌, ◌++◌, set, take, ℤ, pos, negsuc}
use Rattle.rules.specs.declared.SheetElement.{SheetElement}
use Rattle.rules.specs.Sheets.{sheet_fits, partial_of, sheet_refusal, hats_of, count_of, element_of, sheet_bytes, rename_list_refusal}
use Rattle.rules.specs.Examples.Table.{◌is◌, Right, button, axis}

-- ---- the bytes: "count, version, hats 0..15, n, then n elements: code 4, kind 1, name 1, min 4, max 4, deadzone 4"

-- DPadX from -1 to 1 with no deadzone, on a pad whose hats are 15
hat_bytes : List ℕ
hat_bytes = 0 ∷ 21 ∷ 1 ∷ 15 ∷ 1 ∷ 0 ∷ 3 ∷ 0 ∷ 16 ∷ 2 ∷ 39 ∷ 255 ∷ 255 ∷ 255 ∷ 255 ∷ 0 ∷ 0 ∷ 0 ∷ 1 ∷ 255 ∷ 255 ∷ 255 ∷ 255 ∷ []

sheet-written : sheet_bytes 15 (axis 0x00030010 39 (negsuc 0) (pos 1) 0xffffffff ∷ []) ≡ hat_bytes
unfolding sheet_bytes hat_bytes
sheet-written = refl

sheet-reads : Right (sheet_refusal false hat_bytes is 0 ∷ hats_of hat_bytes is 15 ∷ count_of hat_bytes is 1 ∷ [])
unfolding sheet_refusal hats_of count_of hat_bytes
sheet-reads = refl

element-reads : element_of hat_bytes 0 ≡ axis 0x00030010 39 (negsuc 0) (pos 1) 0xffffffff
unfolding element_of hat_bytes
element-reads = refl

sheet-refused : sheet_refusal false (set hat_bytes 3 16) ≡ 4
unfolding sheet_refusal hat_bytes
sheet-refused = refl

-- n unnamed buttons, their codes rising
many : ℕ → ℕ → List SheetElement
many zero code = []
many (suc n) code = button code 255 ∷ many n (code + 1)

-- ---- 3: "sheet's size, count, version or n wrong"; "Elements per pad 0..48"

sizes :
    Right (
    sheet_refusal false hat_bytes is 0
    ∷ sheet_refusal false (sheet_bytes 0 []) is 0
    ∷ sheet_refusal false (sheet_bytes 0 (many 49 0)) is 3
    ∷ sheet_refusal false [] is 3
    ∷ sheet_refusal false (0 ∷ []) is 3
    ∷ sheet_refusal false (take 22 hat_bytes) is 3
    ∷ sheet_refusal false (hat_bytes ++ (0 ∷ [])) is 3
    ∷ sheet_refusal false (set hat_bytes 0 1) is 3
    ∷ sheet_refusal false (set hat_bytes 1 20) is 3
    ∷ sheet_refusal false (set hat_bytes 1 22) is 3
    ∷ sheet_refusal false (set hat_bytes 2 0) is 3
    ∷ sheet_refusal false (set hat_bytes 2 2) is 3
    ∷ sheet_refusal false (set hat_bytes 4 0) is 3
    ∷ sheet_refusal false (set hat_bytes 4 2) is 3
    ∷ [])
unfolding sheet_refusal sheet_bytes hat_bytes many
sizes = refl

-- 48 elements fit
most : Right (sheet_fits (sheet_bytes 0 (many 48 0)) is true ∷ sheet_fits (sheet_bytes 0 (many 49 0)) is false ∷ [])
unfolding sheet_fits sheet_bytes many
most = refl

-- ---- 4: "hats over 15 or an element breaks a rule"

-- what a new sheet is refused by, from its hats and elements
judged : ℕ → List SheetElement → ℕ
judged hats es = sheet_refusal false (sheet_bytes hats es)

hats : Right (judged 0 [] is 0 ∷ judged 15 [] is 0 ∷ judged 16 [] is 4 ∷ judged 255 [] is 4 ∷ [])
unfolding judged sheet_refusal sheet_bytes
hats = refl

-- "kind 1 (1 button, 2 axis)"
of_kind : ℕ → SheetElement
of_kind kind = record { code = 1; kind = kind; name = 255; min = pos 0; max = pos 0; deadzone = 0 }

kinds : Right (judged 0 (of_kind 0 ∷ []) is 4 ∷ judged 0 (of_kind 1 ∷ []) is 0 ∷ judged 0 (of_kind 2 ∷ []) is 4 ∷ judged 0 (of_kind 3 ∷ []) is 4 ∷ [])
unfolding judged sheet_refusal sheet_bytes of_kind
kinds = refl

-- "Names 1..19, 33..40 or 255", and an axis may be named as a button, a button as an axis
names :
    Right (
    judged 0 (button 1 0 ∷ []) is 4
    ∷ judged 0 (button 1 1 ∷ []) is 0
    ∷ judged 0 (button 1 32 ∷ []) is 4
    ∷ judged 0 (button 1 40 ∷ []) is 0
    ∷ judged 0 (button 1 41 ∷ []) is 4
    ∷ judged 0 (axis 1 20 (pos 0) (pos 1) 0 ∷ []) is 4
    ∷ judged 0 (axis 1 19 (pos 0) (pos 1) 0 ∷ []) is 0
    ∷ judged 0 (axis 1 255 (pos 0) (pos 1) 0 ∷ []) is 0
    ∷ [])
unfolding judged sheet_refusal sheet_bytes
names = refl

-- "Codes strictly rise"
codes :
    Right (
    judged 0 (button 1 255 ∷ button 2 255 ∷ []) is 0
    ∷ judged 0 (button 2 255 ∷ button 2 255 ∷ []) is 4
    ∷ judged 0 (button 3 255 ∷ button 2 255 ∷ []) is 4
    ∷ judged 0 (button 1 255 ∷ button 3 255 ∷ button 3 255 ∷ []) is 4
    ∷ judged 0 (button 0 255 ∷ button 0xffffffff 255 ∷ []) is 0
    ∷ [])
unfolding judged sheet_refusal sheet_bytes
codes = refl

-- "For a button min, max and deadzone are 0"
button_with : ℤ → ℤ → ℕ → SheetElement
button_with min max deadzone = record { code = 1; kind = 1; name = 255; min = min; max = max; deadzone = deadzone }

buttons :
    Right (
    judged 0 (button_with (pos 0) (pos 0) 0 ∷ []) is 0
    ∷ judged 0 (button_with (negsuc 0) (pos 0) 0 ∷ []) is 4
    ∷ judged 0 (button_with (pos 0) (pos 1) 0 ∷ []) is 4
    ∷ judged 0 (button_with (pos 0) (pos 0) 1 ∷ []) is 4
    ∷ judged 0 (button_with (pos 0) (pos 0) 0xffffffff ∷ []) is 4
    ∷ [])
unfolding judged sheet_refusal sheet_bytes button_with
buttons = refl

-- "Axis min < max, and min, max .. in -8,388,608..8,388,607"
ranged : ℤ → ℤ → ℕ
ranged min max = judged 0 (axis 1 255 min max 0 ∷ [])

ranges :
    Right (
    ranged (negsuc 0) (pos 0) is 0
    ∷ ranged (pos 5) (pos 5) is 4
    ∷ ranged (pos 0) (negsuc 0) is 4
    ∷ ranged (negsuc 8388607) (pos 8388607) is 0
    ∷ ranged (negsuc 8388608) (pos 0) is 4
    ∷ ranged (pos 0) (pos 8388608) is 4
    ∷ ranged (pos 8388608) (pos 8388609) is 4
    ∷ [])
unfolding ranged judged sheet_refusal sheet_bytes
ranges = refl

-- "Deadzone 0..16,777,215 or absent"
dead : ℕ → ℕ
dead deadzone = judged 0 (axis 1 255 (pos 0) (pos 1) deadzone ∷ [])

deadzones : Right (dead 0 is 0 ∷ dead 16777215 is 0 ∷ dead 16777216 is 4 ∷ dead 0xfffffffe is 4 ∷ dead 0xffffffff is 0 ∷ [])
unfolding dead judged sheet_refusal sheet_bytes
deadzones = refl

-- ---- 5: "a name stands twice"; "none but 255 twice"

twice :
    Right (
    judged 0 (button 1 7 ∷ button 2 7 ∷ []) is 5
    ∷ judged 0 (button 1 7 ∷ button 2 8 ∷ button 3 7 ∷ []) is 5
    ∷ judged 0 (button 1 7 ∷ axis 2 7 (pos 0) (pos 1) 0 ∷ []) is 5
    ∷ judged 0 (button 1 255 ∷ button 2 255 ∷ []) is 0
    ∷ judged 0 (button 1 7 ∷ button 2 8 ∷ []) is 0
    ∷ [])
unfolding judged sheet_refusal sheet_bytes
twice = refl

-- ---- W-212: "New sheets .. must have hats 0 or 15 in the low four bits"; an archived sheet may have any

partial :
    Right (
    partial_of 0 is false
    ∷ partial_of 1 is true
    ∷ partial_of 8 is true
    ∷ partial_of 14 is true
    ∷ partial_of 15 is false
    ∷ partial_of 16 is false
    ∷ partial_of 129 is true
    ∷ partial_of 143 is false
    ∷ [])
unfolding partial_of
partial = refl

-- what an archived sheet is refused by
archived : ℕ → List SheetElement → ℕ
archived hats es = sheet_refusal true (sheet_bytes hats es)

partial-hats :
    Right (
    judged 1 [] is 29
    ∷ judged 14 [] is 29
    ∷ archived 1 [] is 0
    ∷ archived 14 [] is 0
    ∷ archived 0 [] is 0
    ∷ archived 15 [] is 0
    ∷ archived 16 [] is 4
    ∷ [])
unfolding judged archived sheet_refusal sheet_bytes
partial-hats = refl

-- "29 partial hats, after 4 and before 5"
partial-order :
    Right (
    sheet_refusal false (set (sheet_bytes 1 []) 2 2) is 3
    ∷ judged 17 [] is 4
    ∷ judged 1 (button 1 0 ∷ []) is 4
    ∷ judged 1 (button 1 7 ∷ button 2 7 ∷ []) is 29
    ∷ archived 1 (button 1 7 ∷ button 2 7 ∷ []) is 5
    ∷ [])
unfolding judged archived sheet_refusal sheet_bytes
partial-order = refl

-- ---- "Sheet order: 2, 3, 4, 5": 3 before hats, hats before a name twice, and an element that breaks a rule behind a name twice is still 4

order :
    Right (
    sheet_refusal false (set (sheet_bytes 16 []) 2 2) is 3
    ∷ sheet_refusal false (sheet_bytes 0 (many 48 0 ++ (button 0 0 ∷ []))) is 3
    ∷ judged 16 (button 1 7 ∷ button 2 7 ∷ []) is 4
    ∷ judged 0 (button 1 7 ∷ button 2 7 ∷ button 3 0 ∷ []) is 4
    ∷ judged 0 (button 1 7 ∷ button 1 7 ∷ []) is 4
    ∷ [])
unfolding judged many sheet_refusal sheet_bytes
order = refl

-- ---- rename lists: "not one name per element" 3, a name that is none 4, a name twice 5

renames :
    Right (
    rename_list_refusal [] 0 is 0
    ∷ rename_list_refusal (1 ∷ []) 2 is 3
    ∷ rename_list_refusal (1 ∷ 2 ∷ 0 ∷ []) 2 is 3
    ∷ rename_list_refusal (1 ∷ 40 ∷ []) 2 is 0
    ∷ rename_list_refusal (255 ∷ 255 ∷ []) 2 is 0
    ∷ rename_list_refusal (1 ∷ 0 ∷ []) 2 is 4
    ∷ rename_list_refusal (32 ∷ 1 ∷ []) 2 is 4
    ∷ rename_list_refusal (7 ∷ 7 ∷ 20 ∷ []) 3 is 4
    ∷ rename_list_refusal (7 ∷ 7 ∷ []) 2 is 5
    ∷ rename_list_refusal (7 ∷ 8 ∷ 7 ∷ []) 3 is 5
    ∷ [])
unfolding rename_list_refusal
renames = refl
