-- Numbers and names, in the order of document 01's "Numbers": limits, directions, sorts of names, partners of axes, and the code that a button
-- name falls back to. Definitions only.
use Rattle.std.specs.Prelude.{ℕ, ◌+◌, ◌-◌, Bool, cond, ◌&&◌, ◌||◌, List, [], ◌∷◌, get_or, eqb, leb}

-- ---- limits

-- "Pads 0..3"
abbrev pub pad_limit : ℕ
pad_limit = 4

-- "Elements per pad 0..48"
abbrev pub element_limit : ℕ
element_limit = 48

-- a pad's places: its elements, and the four directions where the sheet does not list them
abbrev pub places_per_pad : ℕ
places_per_pad = 52

-- the place of a code that is not there: one past the last pad's places
abbrev pub nowhere : ℕ
nowhere = 208

-- "Times 0..2^62-1 microseconds"; "the counter goes from 2^62-1 to 0"
abbrev pub last_time : ℕ
last_time = 0x3fffffffffffffff

-- "Repeat after 0..60,000,000, every 1..60,000,000"
abbrev pub last_wait : ℕ
last_wait = 60000000

-- "Batch and out buffer at most 16,384 bytes each"
abbrev pub buffer_limit : ℕ
buffer_limit = 16384

-- "The queue holds 64"
abbrev pub queue_room : ℕ
queue_room = 64

-- "caller's insert while 16 or more wait"
abbrev pub insert_limit : ℕ
insert_limit = 16

-- ---- directions: "Up 0x00010220, Down 0x00010221, Left 0x00010222, Right 0x00010223"

abbrev pub code_up : ℕ
code_up = 0x00010220

abbrev pub code_down : ℕ
code_down = 0x00010221

abbrev pub code_left : ℕ
code_left = 0x00010222

abbrev pub code_right : ℕ
code_right = 0x00010223

-- ---- names that a rule speaks of

abbrev pub unknown_button : ℕ
unknown_button = 0

abbrev pub dpad_up : ℕ
dpad_up = 16

abbrev pub dpad_down : ℕ
dpad_down = 17

abbrev pub dpad_left : ℕ
dpad_left = 18

abbrev pub dpad_right : ℕ
dpad_right = 19

abbrev pub unknown_axis : ℕ
unknown_axis = 32

abbrev pub left_stick_x : ℕ
left_stick_x = 33

abbrev pub left_stick_y : ℕ
left_stick_y = 34

abbrev pub right_stick_x : ℕ
right_stick_x = 36

abbrev pub right_stick_y : ℕ
right_stick_y = 37

abbrev pub dpad_x : ℕ
dpad_x = 39

abbrev pub dpad_y : ℕ
dpad_y = 40

-- "255 = no name"
abbrev pub no_name : ℕ
no_name = 255

-- ---- sorts of names

-- a button's name, Unknown among them
unfoldable pub is_button : ℕ → Bool
is_button n = leb n dpad_right

-- an axis's name, Unknown among them
unfoldable pub is_axis : ℕ → Bool
is_axis n = leb unknown_axis n && leb n dpad_y

-- names that a sheet, a rename list or a query may give: "Unknown included" in what 16 refuses
unfoldable pub names_button : ℕ → Bool
names_button n = leb 1 n && leb n dpad_right

unfoldable pub names_axis : ℕ → Bool
names_axis n = leb left_stick_x n && leb n dpad_y

-- "Names 1..19, 33..40 or 255"
unfoldable pub name_allowed : ℕ → Bool
unfolding names_button names_axis
name_allowed n = names_button n || (names_axis n || eqb n no_name)

-- the names that scaling negates where the hub says Y reversed: "names 34, 37, 40"
unfoldable pub is_y : ℕ → Bool
is_y n = eqb n left_stick_y || (eqb n right_stick_y || eqb n dpad_y)

-- ---- axes in pairs (`second_axis`): "Pairs: 33/34, 36/37, 39/40"; 0 for an axis that has no partner

unfoldable pub partner_of : ℕ → ℕ
partner_of n =
    cond (eqb n left_stick_x) left_stick_y
    (cond (eqb n left_stick_y) left_stick_x
    (cond (eqb n right_stick_x) right_stick_y
    (cond (eqb n right_stick_y) right_stick_x
    (cond (eqb n dpad_x) dpad_y (cond (eqb n dpad_y) dpad_x 0)))))

-- how many deadzone flags a pad has, one for each axis of a pair
abbrev pub flags_per_pad : ℕ
flags_per_pad = 6

-- which of a pad's flags is an axis's (`deadzone_nonzero_axis_idx`); 6 for none
unfoldable pub flag_of : ℕ → ℕ
flag_of n =
    cond (eqb n dpad_x) 0
    (cond (eqb n dpad_y) 1
    (cond (eqb n left_stick_x) 2
    (cond (eqb n left_stick_y) 3
    (cond (eqb n right_stick_x) 4 (cond (eqb n right_stick_y) 5 flags_per_pad)))))

-- ---- the two directions of a hat's axis: 1.0 is Right or Up, -1.0 is Left or Down

unfoldable pub is_hat : ℕ → Bool
is_hat n = eqb n dpad_x || eqb n dpad_y

unfoldable pub positive_name : ℕ → ℕ
positive_name n = cond (eqb n dpad_x) dpad_right dpad_up

unfoldable pub negative_name : ℕ → ℕ
negative_name n = cond (eqb n dpad_x) dpad_left dpad_down

unfoldable pub positive_code : ℕ → ℕ
positive_code n = cond (eqb n dpad_x) code_right code_up

unfoldable pub negative_code : ℕ → ℕ
negative_code n = cond (eqb n dpad_x) code_left code_down

-- ---- `to_nec`: "for names 1..19, 0x00010000 plus, in hex, 130, 131, 133, 134, 132, 135, 136, 138, 137, 139, 13a to 13e, 220 to 223"

abbrev pub necs : List ℕ
necs =
    0x130 ∷ 0x131 ∷ 0x133 ∷ 0x134 ∷ 0x132 ∷ 0x135 ∷ 0x136 ∷ 0x138 ∷ 0x137 ∷ 0x139 ∷ 0x13a ∷ 0x13b ∷ 0x13c ∷ 0x13d ∷ 0x13e ∷ 0x220 ∷ 0x221
    ∷ 0x222 ∷ 0x223 ∷ []

unfoldable pub to_nec : ℕ → ℕ
to_nec n = 0x00010000 + get_or necs (n - 1) 0
