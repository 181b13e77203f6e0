-- The operations' numbers, in the order of the table of `oracle/README.md`.
use Rattle.std.specs.Prelude.{ℕ}

-- ---- 1 to 6: a desk is set up, events are sent

abbrev pub new : ℕ
new = 1

abbrev pub register : ℕ
register = 2

abbrev pub rename : ℕ
rename = 3

abbrev pub pump : ℕ
pump = 4

abbrev pub update : ℕ
update = 5

abbrev pub insert : ℕ
insert = 6

-- ---- 7 to 10: what goes by time

abbrev pub repeat : ℕ
repeat = 7

abbrev pub inc : ℕ
inc = 8

abbrev pub counter : ℕ
counter = 9

abbrev pub reset_counter : ℕ
reset_counter = 10

-- ---- 11 to 23: queries

abbrev pub pressed_by_code : ℕ
pressed_by_code = 11

abbrev pub value_by_code : ℕ
value_by_code = 12

abbrev pub pressed_by_name : ℕ
pressed_by_name = 13

abbrev pub value_by_name : ℕ
value_by_name = 14

abbrev pub button_by_code : ℕ
button_by_code = 15

abbrev pub axis_by_code : ℕ
axis_by_code = 16

abbrev pub button_by_name : ℕ
button_by_name = 17

abbrev pub axis_by_name : ℕ
axis_by_name = 18

abbrev pub name_of_code : ℕ
name_of_code = 19

abbrev pub code_of_name : ℕ
code_of_name = 20

abbrev pub threshold : ℕ
threshold = 21

abbrev pub connected : ℕ
connected = 22

abbrev pub waiting : ℕ
waiting = 23

abbrev pub dump : ℕ
dump = 24

-- ---- 38, 39: what is down on a pad, its lowest pressed code (W-213)

abbrev pub down : ℕ
down = 38

abbrev pub lowest : ℕ
lowest = 39

-- ---- 40, 41: the pump with its report, the deadzone calculation with which of the three it was (W-205)

abbrev pub report : ℕ
report = 40

abbrev pub pair : ℕ
pair = 41

-- ---- 42: since when a button is held (W-206)

abbrev pub since : ℕ
since = 42

-- ---- 43, 44: an archived sheet is registered, whether a pad is old (W-212)

abbrev pub register_archived : ℕ
register_archived = 43

abbrev pub old : ℕ
old = 44
