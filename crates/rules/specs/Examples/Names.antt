-- Names: sorts, pairs, flags, the directions of a hat, and `to_nec`.
use Rattle.std.specs.Prelude.{◌≡◌, refl, true, false, [], ◌∷◌, map}
use Rattle.rules.specs.Names.{is_button, is_axis, names_button, names_axis, name_allowed, is_y, partner_of, flag_of, is_hat, positive_name, negative_name, positive_code, negative_code, to_nec}
use Rattle.rules.specs.Examples.Table.{◌is◌, Right}

-- "Button names: 0 Unknown, .. 19 DPadRight"
button-names : Right (is_button 0 is true ∷ is_button 19 is true ∷ is_button 20 is false ∷ is_button 32 is false ∷ is_button 255 is false ∷ [])
unfolding is_button
button-names = refl

-- "Axes: 32 Unknown, .. 40 DPadY"
axis-names : Right (is_axis 31 is false ∷ is_axis 32 is true ∷ is_axis 40 is true ∷ is_axis 41 is false ∷ is_axis 19 is false ∷ is_axis 255 is false ∷ [])
unfolding is_axis
axis-names = refl

-- a query's names: "no name of the sort asked, Unknown included" is refused
button-queries : Right (names_button 0 is false ∷ names_button 1 is true ∷ names_button 19 is true ∷ names_button 20 is false ∷ [])
unfolding names_button
button-queries = refl

axis-queries : Right (names_axis 32 is false ∷ names_axis 33 is true ∷ names_axis 40 is true ∷ names_axis 41 is false ∷ [])
unfolding names_axis
axis-queries = refl

-- "Names 1..19, 33..40 or 255": Unknown, 0 or 32, is none that a sheet may give
sheet-names :
    map name_allowed (0 ∷ 1 ∷ 19 ∷ 20 ∷ 32 ∷ 33 ∷ 40 ∷ 41 ∷ 254 ∷ 255 ∷ [])
    ≡ (false ∷ true ∷ true ∷ false ∷ false ∷ true ∷ true ∷ false ∷ false ∷ true ∷ [])
unfolding name_allowed
sheet-names = refl

-- "names 34, 37, 40 are negated if the hub says Y reversed"
y-names :
    map is_y (32 ∷ 33 ∷ 34 ∷ 35 ∷ 36 ∷ 37 ∷ 38 ∷ 39 ∷ 40 ∷ []) ≡ (false ∷ false ∷ true ∷ false ∷ false ∷ true ∷ false ∷ false ∷ true ∷ [])
unfolding is_y
y-names = refl

-- "Pairs: 33/34, 36/37, 39/40"; Unknown, LeftZ and RightZ have no partner
partners : map partner_of (32 ∷ 33 ∷ 34 ∷ 35 ∷ 36 ∷ 37 ∷ 38 ∷ 39 ∷ 40 ∷ []) ≡ (0 ∷ 34 ∷ 33 ∷ 0 ∷ 37 ∷ 36 ∷ 0 ∷ 40 ∷ 39 ∷ [])
unfolding partner_of
partners = refl

-- `deadzone_nonzero_axis_idx`
flags : map flag_of (32 ∷ 33 ∷ 34 ∷ 35 ∷ 36 ∷ 37 ∷ 38 ∷ 39 ∷ 40 ∷ 19 ∷ 255 ∷ []) ≡ (6 ∷ 2 ∷ 3 ∷ 6 ∷ 4 ∷ 5 ∷ 6 ∷ 0 ∷ 1 ∷ 6 ∷ 6 ∷ [])
unfolding flag_of
flags = refl

-- a hat's axes are DPadX and DPadY alone
hats : map is_hat (32 ∷ 33 ∷ 34 ∷ 38 ∷ 39 ∷ 40 ∷ 16 ∷ []) ≡ (false ∷ false ∷ false ∷ false ∷ true ∷ true ∷ false ∷ [])
unfolding is_hat
hats = refl

-- "Directions: Up 0x00010220, Down 0x00010221, Left 0x00010222, Right 0x00010223": DPadX is Right and Left, DPadY Up and Down
directions :
    Right (
    positive_name 39 is 19
    ∷ negative_name 39 is 18
    ∷ positive_name 40 is 16
    ∷ negative_name 40 is 17
    ∷ positive_code 39 is 0x00010223
    ∷ negative_code 39 is 0x00010222
    ∷ positive_code 40 is 0x00010220
    ∷ negative_code 40 is 0x00010221
    ∷ [])
unfolding positive_name negative_name positive_code negative_code
directions = refl

-- "0x00010000 plus, in hex, 130, 131, 133, 134, 132, 135, 136, 138, 137, 139, 13a to 13e, 220 to 223", by the names of 01's list
necs :
    Right (
    to_nec 1 is 0x00010130
    ∷ to_nec 2 is 0x00010131
    ∷ to_nec 3 is 0x00010133
    ∷ to_nec 4 is 0x00010134
    ∷ to_nec 5 is 0x00010132
    ∷ to_nec 6 is 0x00010135
    ∷ to_nec 7 is 0x00010136
    ∷ to_nec 8 is 0x00010138
    ∷ to_nec 9 is 0x00010137
    ∷ to_nec 10 is 0x00010139
    ∷ to_nec 11 is 0x0001013a
    ∷ to_nec 12 is 0x0001013b
    ∷ to_nec 13 is 0x0001013c
    ∷ to_nec 14 is 0x0001013d
    ∷ to_nec 15 is 0x0001013e
    ∷ to_nec 16 is 0x00010220
    ∷ to_nec 17 is 0x00010221
    ∷ to_nec 18 is 0x00010222
    ∷ to_nec 19 is 0x00010223
    ∷ [])
unfolding to_nec
necs = refl
