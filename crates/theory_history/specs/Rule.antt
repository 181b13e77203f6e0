-- 01's history rule: what a code of a pad reads, told from the records that were taken, the newest first, and from the sheet. It knows no queue, no filter's
-- state and no cached record. Definitions only.
use Rattle.std.specs.Prelude.{ℕ, zero, suc, ◌+◌, ◌<◌, Bool, true, false, cond, not, ◌&&◌, ◌||◌, List, [], ◌∷◌, ◌≡◌, eqb, Float, get_or, Ok, Some}
use Rattle.std.specs.Float.Ieee.{le}
use Rattle.numbers.specs.Constants.{zero32, one32, minus_one32}
use Rattle.numbers.specs.Scale.{axis_scaled_of, button_scaled_of}
use Rattle.numbers.specs.Deadzone.{deadzone_of}
use Rattle.rules.specs.declared.Hub.{Hub}
use Rattle.rules.specs.declared.RawRecord.{RawRecord}
use Rattle.rules.specs.declared.Element.{Element}
use Rattle.rules.specs.Names.{is_y, positive_code, negative_code, code_up, code_down, code_left, code_right}
use Rattle.rules.specs.Forms.{record_fields, record_size, kind_pressed, kind_released, kind_axis, kind_connected}
use Rattle.rules.specs.Dispatch.{amount}
use Rattle.rules.specs.Queries.{pressed_by_code, value_by_code}

-- what is lent as bytes
abbrev pub byte_limit : ℕ
byte_limit = 256

abbrev pub Bytes : List ℕ → Type 0
Bytes s = (i : ℕ) → get_or s i 0 < byte_limit

-- "records are those taken": n records of a batch from a place on, before those that were taken earlier
unfoldable pub records_from : ℕ → List ℕ → ℕ → List RawRecord → List RawRecord
records_from zero batch place rs = rs
records_from (suc n) batch place rs = records_from n batch (place + record_size) (record_fields batch place ∷ rs)

-- what is read of a code
pub record Reading : Type 0 where
  pub pressed : Bool
  pub value : Float

-- "Reads are by code": what the two queries answer
pub record Reads (h : Hub) (p c : ℕ) (x : Reading) : Type 0 where
  pub pressed : pressed_by_code h p c ≡ Ok x.pressed
  pub value : value_by_code h p c ≡ Ok (Some x.value)

-- "false and 0.0 if none"
abbrev pub nothing : Reading
nothing = record { pressed = false; value = zero32 }

-- "pressed reads 1.0, else 0.0"
abbrev pub held : Bool → Reading
held b = record { pressed = b; value = amount b }

-- "since the pad's last Connected"
unfoldable pub rejoins : ℕ → RawRecord → Bool
rejoins p r = eqb r.pad p && eqb r.kind kind_connected

-- a press, a release or a value
unfoldable pub speaks : ℕ → Bool
speaks kind = eqb kind kind_pressed || (eqb kind kind_released || eqb kind kind_axis)

-- of the pad's code
unfoldable pub concerns : ℕ → ℕ → RawRecord → Bool
unfolding speaks
concerns p c r = eqb r.pad p && (eqb r.code c && speaks r.kind)

-- "A button element ..: pressed and value as its last record"
unfoldable pub button_reads : ℕ → ℕ → List RawRecord → Reading
unfolding rejoins concerns
button_reads p c [] = nothing
button_reads p c (r ∷ rs) = cond (rejoins p r) nothing (cond (concerns p c r) (held (eqb r.kind kind_pressed)) (button_reads p c rs))

-- "A trigger: pressed folds the two thresholds over its scaled values; value is the last of them deadzoned"
unfoldable pub trigger_after : Float → Float → Element → RawRecord → Reading → Reading
trigger_after pressed released e r was =
    record {
      pressed =
          cond was.pressed (not (le (button_scaled_of e.low e.range r.value) released))
          (le pressed (button_scaled_of e.low e.range r.value));
      value = (deadzone_of (button_scaled_of e.low e.range r.value) zero32 e.threshold).x;
    }

unfoldable pub trigger_reads : Float → Float → Element → ℕ → ℕ → List RawRecord → Reading
unfolding rejoins concerns trigger_after
trigger_reads pressed released e p c [] = nothing
trigger_reads pressed released e p c (r ∷ rs) =
    cond (rejoins p r) nothing
    (cond (concerns p c r) (trigger_after pressed released e r (trigger_reads pressed released e p c rs)) (trigger_reads pressed released e p c rs))

-- a record's value as it is dispatched for an axis of this name: an axis's is scaled, a button gives 1.0 or 0.0
abbrev pub dispatched_value : Bool → ℕ → Element → RawRecord → Float
dispatched_value reversed n e r =
    cond (eqb r.kind kind_axis) (axis_scaled_of e.low e.range e.odd (reversed && is_y n) r.value) (amount (eqb r.kind kind_pressed))

-- "the last DPadX value": of the last record of an element that the pad's sheet names so. name_of and element_of: what the sheet says of a code of the pad
unfoldable pub hat_value : Bool → (ℕ → ℕ) → (ℕ → Element) → ℕ → ℕ → List RawRecord → Float
unfolding rejoins speaks is_y
hat_value reversed name_of element_of n p [] = zero32
hat_value reversed name_of element_of n p (r ∷ rs) =
    cond (rejoins p r) zero32
    (cond (eqb r.pad p && (speaks r.kind && eqb (name_of r.code) n)) (dispatched_value reversed n (element_of r.code) r)
    (hat_value reversed name_of element_of n p rs))

-- a hat's two directions, the positive one for true: their codes
abbrev pub direction_code : Bool → ℕ → ℕ
direction_code true n = positive_code n
direction_code false n = negative_code n

-- and the values that press them: "Right is pressed exactly when the last DPadX value was 1.0, Left when it was -1.0; .. Up and Down the same with DPadY"
abbrev pub pressing_value : Bool → Float
pressing_value true = one32
pressing_value false = minus_one32

-- the codes of the four directions
unfoldable pub is_direction : ℕ → Bool
is_direction c = eqb c code_up || (eqb c code_down || (eqb c code_left || eqb c code_right))
