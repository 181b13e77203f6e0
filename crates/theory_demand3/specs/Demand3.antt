-- Demand 3 on one page, from bytes to reads. A script is what a caller does with a fresh hub; from it and from what the calls answered are told the sheets
-- that were accepted, the records that were taken and the events that were written; `rule_reads` is 01's history rule over these, which knows no queue; and
-- `Demand3` says of a pump what every script shows. Theorem.antt proves it of the pump. Definitions only: beside `rules` and `numbers` a referee reads this page,
-- `Rule` of history, and of `Machines` of promises what a pump's answer says.
use Rattle.std.specs.Prelude.{ℕ, zero, suc, ◌+◌, ◌-◌, ◌*◌, ◌/◌, ◌<◌, ◌≤◌, Bool, true, false, cond, not, ◌&&◌, ◌||◌, List, [], ◌∷◌, ◌++◌, ◌≡◌, eqb, Float, length, get_or, Err, None, Ok, Option, Result, Some}
use Rattle.std.specs.Float.Ieee.{eq}
use Rattle.numbers.specs.Constants.{one32, minus_one32}
use Rattle.rules.specs.declared.Hub.{Hub}
use Rattle.rules.specs.declared.RawRecord.{RawRecord}
use Rattle.rules.specs.declared.Element.{Element}
use Rattle.rules.specs.declared.SheetElement.{SheetElement}
use Rattle.rules.specs.declared.PumpAnswer.{PumpAnswer}
use Rattle.rules.specs.declared.Event.{Event}
use Rattle.rules.specs.declared.Refusal.{Refusal}
use Rattle.rules.specs.Names.{no_name, dpad_x, dpad_y, dpad_right, code_up, code_down, code_left, code_right, is_button, is_axis}
use Rattle.rules.specs.Forms.{record_size}
use Rattle.rules.specs.Sheets.{hats_of, count_of, element_of, element_button, element_axis, last_hats}
use Rattle.rules.specs.Places.{no_element, listed_row}
use Rattle.rules.specs.Refusals.{thresholds_refusal}
use Rattle.rules.specs.Events.{event_bytes}
use Rattle.rules.specs.Repeat.{repeat_of}
use Rattle.rules.specs.Calls.{new_of, register_as, update_of, inc_of, reset_of}
use Rattle.rules.specs.Queries.{pressed_by_code}
use Rattle.theory_calls.specs.Machines.{Machine, said, place_said, events_said, steps_said}
use Rattle.theory_history.specs.Rule.{Bytes, records_from, Reading, Reads, nothing, held, is_direction, button_reads, trigger_reads, hat_value}

-- ---- what is called

pub record Settings : Type 0 where
  pub pressed : Float
  pub released : Float
  pub reversed : Bool

-- archived: W-212's register_archived is the call with true, `register` the one with false; a repeat's event is fed back at once through `update`, or never;
-- queries change nothing and may stand anywhere
pub data Call : Type 0 where
  register : (archived : Bool) (sheet : List ℕ) → Call
  pump : (batch : List ℕ) (place : ℕ) (out : List ℕ) (allowance : ℕ) → Call
  inc : Call
  reset : Call
  repeat : (after every clock : ℕ) (fed : Bool) → Call

-- a fresh hub with filters and updates on, and the calls after it
pub data Script : Type 0 where
  new : Settings → Script
  ◌then◌ : Script → Call → Script

infixl 20 ◌then◌
-- and further calls
abbrev pub goes_on : Script → List Call → Script
goes_on s [] = s
goes_on s (c ∷ cs) = goes_on (s then c) cs

-- the settings are not refused, and a sheet is bytes
abbrev pub Lends : Call → Type 0
Lends (register archived sheet) = Bytes sheet
Lends (pump batch place out allowance) = Unit
Lends inc = Unit
Lends reset = Unit
Lends (repeat after every clock fed) = Unit

abbrev pub Allowed : Script → Type 0
Allowed (new s) = thresholds_refusal s.pressed s.released ≡ 0
Allowed (s then c) = Allowed s × Lends c

-- ---- the hub after a script, with any function for the pump, so that wrong ones can be tried

abbrev pub fed_back : Result (Option Event) Refusal → Hub → Hub
fed_back (Ok (Some e)) h = (update_of h (event_bytes e)).hub
fed_back (Ok None) h = h
fed_back (Err e) h = h

abbrev pub called : Machine → Call → Hub → Hub
called m (register archived sheet) h = (register_as archived h sheet).hub
called m (pump batch place out allowance) h = (m h batch place out allowance).pumped.hub
called m inc h = inc_of h
called m reset h = reset_of h
called m (repeat after every clock true) h = fed_back (repeat_of h after every clock) h
called m (repeat after every clock false) h = h

unfoldable pub play : Machine → Script → Hub
play m (new t) = (new_of t.pressed t.released t.reversed true true).hub
play m (s then c) = called m c (play m s)

unfoldable pub settings_of : Script → Settings
settings_of (new t) = t
settings_of (s then c) = settings_of s

-- ---- the records that were taken, the newest first: those that stand in the batch from the place given to the place answered

abbrev pub taken_by : PumpAnswer → List ℕ → ℕ → List RawRecord → List RawRecord
taken_by a batch place rs = records_from ((place_said a - place) / record_size) batch place rs

unfoldable pub records_of : Machine → Script → List RawRecord
unfolding play
records_of m (new t) = []
records_of m (s then register archived sheet) = records_of m s
records_of m (s then pump batch place out allowance) = taken_by (said m (play m s) batch place out allowance) batch place (records_of m s)
records_of m (s then inc) = records_of m s
records_of m (s then reset) = records_of m s
records_of m (s then repeat after every clock fed) = records_of m s

-- ---- the events that were written, as the answers count them

unfoldable pub events_of : Machine → Script → ℕ
unfolding play
events_of m (new t) = 0
events_of m (s then register archived sheet) = events_of m s
events_of m (s then pump batch place out allowance) = events_of m s + events_said (said m (play m s) batch place out allowance)
events_of m (s then inc) = events_of m s
events_of m (s then reset) = events_of m s
events_of m (s then repeat after every clock fed) = events_of m s

-- ---- the sheets that were accepted, as they read, pad 0's first

pub record Sheet : Type 0 where
  pub hats : ℕ
  pub elements : List SheetElement

-- the n elements from the i-th on
unfoldable pub elements_from : ℕ → List ℕ → ℕ → List SheetElement
elements_from zero s i = []
elements_from (suc n) s i = element_of s i ∷ elements_from n s (i + 1)

unfoldable pub sheet_read : List ℕ → Sheet
unfolding elements_from
sheet_read s = record { hats = hats_of s; elements = elements_from (count_of s) s 0 }

abbrev pub accepted_by : Result ℕ Refusal → List ℕ → List Sheet → List Sheet
accepted_by (Ok p) s sheets = sheets ++ (sheet_read s ∷ [])
accepted_by (Err e) s sheets = sheets

unfoldable pub sheets_of : Machine → Script → List Sheet
unfolding play
sheets_of m (new t) = []
sheets_of m (s then register archived sheet) = accepted_by (register_as archived (play m s) sheet).answer sheet (sheets_of m s)
sheets_of m (s then pump batch place out allowance) = sheets_of m s
sheets_of m (s then inc) = sheets_of m s
sheets_of m (s then reset) = sheets_of m s
sheets_of m (s then repeat after every clock fed) = sheets_of m s

abbrev pub no_sheet : Sheet
no_sheet = record { hats = 0; elements = [] }

-- ---- what a sheet says of a code

pub data Lookup : Type 0 where
  listed : SheetElement → Lookup
  unlisted : Lookup

unfoldable pub lookup : ℕ → List SheetElement → Lookup
lookup c [] = unlisted
lookup c (e ∷ es) = cond (eqb e.code c) (listed e) (lookup c es)

abbrev pub lookup_name : Lookup → ℕ
lookup_name (listed e) = e.name
lookup_name unlisted = no_name

-- what scaling and the deadzone want of an element
abbrev pub lookup_element : Lookup → Element
lookup_element (listed e) = (listed_row e).element
lookup_element unlisted = no_element

-- "no direction code is named and no element is named DPadRight"
unfoldable pub speaks_of_hats : List SheetElement → Bool
speaks_of_hats [] = false
speaks_of_hats (e ∷ es) = ((is_direction e.code && not (eqb e.name no_name)) || eqb e.name dpad_right) || speaks_of_hats es

-- "A pad converts if hats is 15, or hats is 0 and .."
unfoldable pub converts : Sheet → Bool
unfolding speaks_of_hats
converts s = eqb s.hats last_hats || (eqb s.hats 0 && not (speaks_of_hats s.elements))

-- ---- 01's history rule, by sort of code

-- a reading, or nothing said
pub data Rule : Type 0 where
  says : Reading → Rule
  silent : Rule

-- "Right is pressed exactly when the last DPadX value was 1.0, Left when it was -1.0; .. Up and Down the same with DPadY"
unfoldable pub last_hat : Settings → Sheet → ℕ → ℕ → List RawRecord → Float
unfolding lookup
last_hat t s n p rs = hat_value t.reversed (λ c. lookup_name (lookup c s.elements)) (λ c. lookup_element (lookup c s.elements)) n p rs

unfoldable pub direction_reads : Settings → Sheet → ℕ → ℕ → List RawRecord → Reading
unfolding last_hat
direction_reads t s p c rs =
    cond (eqb c code_right) (held (eq (last_hat t s dpad_x p rs) one32))
    (cond (eqb c code_left) (held (eq (last_hat t s dpad_x p rs) minus_one32))
    (cond (eqb c code_up) (held (eq (last_hat t s dpad_y p rs) one32)) (held (eq (last_hat t s dpad_y p rs) minus_one32))))

-- "A button element named as a button or unnamed"; "A trigger": an axis element named as a button
unfoldable pub element_reads : Settings → SheetElement → ℕ → List RawRecord → Rule
element_reads t e p rs =
    cond (eqb e.kind element_button && not (is_axis e.name)) (says (button_reads p e.code rs))
    (cond (eqb e.kind element_axis && is_button e.name) (says (trigger_reads t.pressed t.released (listed_row e).element p e.code rs)) silent)

-- "On converting pads direction codes are left out of the first two, and the hat rule needs them unlisted"; what is not listed, and no direction of a
-- converting pad, reads false and 0.0
abbrev pub reads_by : Bool → Lookup → Settings → Sheet → ℕ → ℕ → List RawRecord → Rule
reads_by true (listed e) t s p c rs = silent
reads_by true unlisted t s p c rs = says (direction_reads t s p c rs)
reads_by false (listed e) t s p c rs = element_reads t e p rs
reads_by false unlisted t s p c rs = says nothing

unfoldable pub rule_reads : Settings → Sheet → ℕ → ℕ → List RawRecord → Rule
unfolding converts lookup
rule_reads t s p c rs = reads_by (converts s && is_direction c) (lookup c s.elements) t s p c rs

-- ---- demand 3

-- two directions of one hat
pub data Opposite : ℕ → ℕ → Type 0 where
  right-left : Opposite code_right code_left
  up-down : Opposite code_up code_down

-- what every script shows of a pump; `waiting` is what the call of that name answers
pub record Demand3 (m : Machine) : Type 0 where
  -- "when none wait, every button, trigger and hat direction reads as 01's history rule says"
  pub reads : (s : Script) → Allowed s → (play m s).waiting ≡ 0 → (p c : ℕ) (x : Reading) → p < length (sheets_of m s)
      → rule_reads (settings_of s) (get_or (sheets_of m s) p no_sheet) p c (records_of m s) ≡ says x → Reads (play m s) p c x
  -- "on a converting pad opposite directions never read pressed together", whatever waits
  pub opposites : (s : Script) → Allowed s → (p c d : ℕ) → p < length (sheets_of m s) → converts (get_or (sheets_of m s) p no_sheet) ≡ true → Opposite c d
      → lookup c (get_or (sheets_of m s) p no_sheet).elements ≡ unlisted → lookup d (get_or (sheets_of m s) p no_sheet).elements ≡ unlisted
      → pressed_by_code (play m s) p c ≡ Ok true → pressed_by_code (play m s) p d ≡ Ok false
  -- "each record hands out at most four events": from any moment at which nothing waits to any later one, whatever stops lie between
  pub four : (s : Script) (cs : List Call) → Allowed (goes_on s cs) → (play m s).waiting ≡ 0
      → events_of m (goes_on s cs) ≤ events_of m s + 4 * (length (records_of m (goes_on s cs)) - length (records_of m s))
  -- "before the next is taken": no record is taken in the steps that what waits still needs
  pub before : (s : Script) → Allowed s → (batch : List ℕ) (place : ℕ) (out : List ℕ) (allowance : ℕ)
      → steps_said (said m (play m s) batch place out allowance) ≤ (play m s).waiting → place_said (said m (play m s) batch place out allowance) ≡ place
