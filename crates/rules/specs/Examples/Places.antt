-- A pad's 52 places: how a sheet is laid out, where codes and names are found, and which pads convert.
use Rattle.std.specs.Prelude.{ℕ, zero, suc, ◌+◌, ◌≡◌, refl, Bool, true, false, List, [], ◌∷◌, ◌++◌, map, length, get_or, take, drop, replicate, pos, negsuc}
use Rattle.std.specs.Float.Ieee as Ieee
use Rattle.std.specs.Float.{binary32}
use Rattle.std.specs.Float.Ieee.{to_bits}
use Rattle.rules.specs.declared.SheetElement.{SheetElement}
use Rattle.rules.specs.declared.Row.{Row}
use Rattle.rules.specs.Sheets.{sheet_bytes}
use Rattle.rules.specs.Places.{rows_of, place_of, scan_of, present_names, named_of, converts_of, axis_element, no_element, cleared_of}
use Rattle.rules.specs.Calls.{row_code, row_kind, row_name, row_element}
use Rattle.rules.specs.Examples.Table.{◌is◌, Right, button, axis}

-- ---- "in code order", the unlisted directions merged in

-- a code below the directions, Down itself, and a code above them
rows : List Row
rows = rows_of (sheet_bytes 0 (button 0x00010130 1 ∷ button 0x00010221 17 ∷ axis 0x00030000 33 (pos 0) (pos 1) 0 ∷ [])) 3

laid-codes :
    take 7 (map row_code rows) ≡ (0x00010130 ∷ 0x00010220 ∷ 0x00010221 ∷ 0x00010222 ∷ 0x00010223 ∷ 0x00030000 ∷ 0x00030000 ∷ [])
unfolding rows rows_of sheet_bytes
laid-codes = refl

-- a direction that the sheet does not list, and a place past the last, has no kind and no name
laid-kinds : map row_kind rows ≡ (1 ∷ 0 ∷ 1 ∷ 0 ∷ 0 ∷ 2 ∷ replicate 46 0)
unfolding rows rows_of sheet_bytes
laid-kinds = refl

laid-names : map row_name rows ≡ (1 ∷ 255 ∷ 17 ∷ 255 ∷ 255 ∷ 33 ∷ replicate 46 255)
unfolding rows rows_of sheet_bytes
laid-names = refl

-- a sheet of no elements has the four directions alone
empty-pad : take 5 (map row_code (rows_of (sheet_bytes 0 []) 0)) ≡ (0x00010220 ∷ 0x00010221 ∷ 0x00010222 ∷ 0x00010223 ∷ 0x00010223 ∷ [])
unfolding rows_of sheet_bytes
empty-pad = refl

-- 48 elements below the directions: every one of the 52 places is taken, the last by Right
counting : ℕ → ℕ → List ℕ
counting zero k = []
counting (suc n) k = k ∷ counting n (k + 1)

unnamed : List ℕ → List SheetElement
unnamed [] = []
unnamed (c ∷ cs) = button c 255 ∷ unnamed cs

full-pad : drop 46 (map row_code (rows_of (sheet_bytes 0 (unnamed (counting 48 0x000101f0))) 48)) ≡ counting 6 0x0001021e
unfolding counting unnamed rows_of sheet_bytes
full-pad = refl

-- ---- what an axis element keeps: -1..255 has an even range of 256, of which 32 are 0.25; absent is 0.1; 0..255 has an odd range

kept-numbers :
    Right (
    to_bits binary32 (axis_element (axis 1 33 (negsuc 0) (pos 255) 32)).low is 0xbf800000
    ∷ to_bits binary32 (axis_element (axis 1 33 (negsuc 0) (pos 255) 32)).range is 0x43800000
    ∷ to_bits binary32 (axis_element (axis 1 33 (negsuc 0) (pos 255) 32)).threshold is 0x3e800000
    ∷ to_bits binary32 (axis_element (axis 1 33 (negsuc 0) (pos 255) 0xffffffff)).threshold is 0x3dcccccd
    ∷ [])
unfolding axis_element Ieee.of_bits Ieee.to_bits Ieee.of_int Ieee.sub Ieee.mul Ieee.div
kept-numbers = refl

kept-parity : Right ((axis_element (axis 1 33 (negsuc 0) (pos 255) 32)).odd is false ∷ (axis_element (axis 1 33 (pos 0) (pos 255) 32)).odd is true ∷ [])
unfolding axis_element
kept-parity = refl

-- a button element keeps nothing of these
button-keeps-nothing : get_or (map row_element rows) 0 (axis_element (axis 1 33 (pos 0) (pos 255) 32)) ≡ no_element
unfolding rows rows_of sheet_bytes
button-keeps-nothing = refl

-- ---- lookup

-- pad 0 has the sheet above, pad 1 the codes of a full one, and pads 2 and 3 stand empty
codes : List ℕ
codes = map row_code rows ++ (counting 52 0x000101f0 ++ replicate 104 0)

-- the halving search finds every code of a full pad, at its place
every-code : map (place_of codes 1) (counting 52 0x000101f0) ≡ counting 52 52
unfolding codes rows counting rows_of sheet_bytes place_of
every-code = refl

-- a code that is not there, another pad's, and no pad's; of the codes past the last the first is found
lookups :
    Right (
    place_of codes 0 0x00010130 is 0
    ∷ place_of codes 0 0x00010220 is 1
    ∷ place_of codes 0 0x00030000 is 5
    ∷ place_of codes 0 0x00010131 is 208
    ∷ place_of codes 0 0 is 208
    ∷ place_of codes 0 0xffffffff is 208
    ∷ place_of codes 0 0x000101f0 is 208
    ∷ place_of codes 1 0x00010130 is 208
    ∷ place_of codes 1 0x00010224 is 208
    ∷ place_of codes 4 0x00010220 is 208
    ∷ scan_of codes 52 0 0x00030000 is 5
    ∷ scan_of codes 52 0 0x00010131 is 208
    ∷ [])
unfolding codes rows counting rows_of sheet_bytes place_of scan_of
lookups = refl

-- ---- names

names : List ℕ
names = map row_name rows ++ replicate 156 255

-- the first place of the pad that has the name
named :
    Right (
    named_of names 0 1 is 0
    ∷ named_of names 0 17 is 2
    ∷ named_of names 0 33 is 5
    ∷ named_of names 0 18 is 208
    ∷ named_of names 1 1 is 208
    ∷ named_of (replicate 52 255 ++ names) 1 33 is 57
    ∷ named_of (replicate 208 255 ++ names) 4 33 is 208
    ∷ [])
unfolding names rows rows_of sheet_bytes named_of
named = refl

-- a pad that was renamed goes by its rename list
present :
    Right (present_names (1 ∷ []) (2 ∷ []) (false ∷ true ∷ []) 0 is (1 ∷ []) ∷ present_names (1 ∷ []) (2 ∷ []) (false ∷ true ∷ []) 1 is (2 ∷ []) ∷ [])
unfolding present_names
present = refl

-- ---- "A pad converts if hats is 15, or hats is 0 and no direction code is named and no element is named DPadRight"

converts : ℕ → List SheetElement → Bool
converts hats es =
    converts_of hats (map row_code (rows_of (sheet_bytes hats es) (length es))) (map row_name (rows_of (sheet_bytes hats es) (length es))) 0

converting :
    Right (
    converts 0 [] is true
    ∷ converts 15 [] is true
    ∷ converts 1 [] is false
    ∷ converts 14 [] is false
    ∷ converts 0 (axis 0x00030010 39 (negsuc 0) (pos 1) 0 ∷ []) is true
    ∷ [])
unfolding converts converts_of rows_of sheet_bytes
converting = refl

-- a direction code named as a button or as an axis stops it, one listed but unnamed does not; DPadRight does wherever it stands, DPadLeft does not
directions-named :
    Right (
    converts 0 (button 0x00010220 16 ∷ []) is false
    ∷ converts 0 (button 0x00010221 1 ∷ []) is false
    ∷ converts 0 (button 0x00010222 33 ∷ []) is false
    ∷ converts 0 (button 0x00010223 1 ∷ []) is false
    ∷ converts 0 (button 0x00010223 255 ∷ []) is true
    ∷ converts 0 (button 0x00010130 19 ∷ []) is false
    ∷ converts 0 (button 0x00010130 18 ∷ []) is true
    ∷ converts 15 (button 0x00010130 19 ∷ button 0x00010221 17 ∷ []) is true
    ∷ [])
unfolding converts converts_of rows_of sheet_bytes
directions-named = refl

-- ---- marks taken off

cleared : cleared_of (true ∷ true ∷ true ∷ true ∷ []) 1 2 ≡ (true ∷ false ∷ false ∷ true ∷ [])
unfolding cleared_of
cleared = refl
