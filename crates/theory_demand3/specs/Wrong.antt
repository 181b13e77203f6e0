-- 01's wrong machines against demand 3: "one that converts the first hat move and then only advances its place (demands 2 and 3)", and one that leaves the hub as
-- it is and answers that the batch is used up. What each does with 01's padlog example, computed by the checker; `proofs/Wrong` refutes demand 3 of both by it.
use Rattle.std.specs.Prelude.{ℕ, zero, suc, ◌+◌, Bool, true, false, ◌&&◌, List, [], ◌∷◌, ◌≡◌, refl, ltb, pos, negsuc, length, take, Ok, Result}
use Rattle.std.proofs.Common.{sym, arith, ltb-true}
use Rattle.std.specs.Float.Ieee as Ieee
use Rattle.rules.specs.declared.PumpAnswer.TheVariants.{Drained}
use Rattle.rules.specs.declared.Refusal.{Refusal}
use Rattle.rules.specs.Names.{code_left, code_right}
use Rattle.rules.specs.Forms.{record_size, record_fields}
use Rattle.rules.specs.Refusals.{thresholds_refusal}
use Rattle.rules.specs.Pump.{pump_of}
use Rattle.rules.specs.Calls.{new_of, register_as}
use Rattle.rules.specs.Queries.{pressed_by_code}
use Rattle.theory_calls.specs.Machines.{Machine, sheet, move, events_said, steps_said}
use Rattle.theory_history.specs.Rule.{byte_limit, Bytes, records_from}
use Rattle.theory_history.specs.Lemmas.Truth.{true-false}
use Rattle.theory_demand3.specs.Demand3.{Allowed, play, records_of, sheet_read, sheets_of}
use Rattle.theory_demand3.specs.Example.{padlog, pushed, example, hasaxis}

-- ---- bytes

below : List ℕ → Bool
below [] = true
below (b ∷ bs) = ltb b byte_limit && below bs

first : (a b : Bool) → (a && b) ≡ true → a ≡ true
first true b e = refl
first false b e = e

second : (a b : Bool) → (a && b) ≡ true → b ≡ true
second true b e = e
second false b e = true-false (sym e)

bytes : (s : List ℕ) → below s ≡ true → Bytes s
unfolding below
bytes [] e i = omega arith
bytes (b ∷ bs) e zero = ltb-true b byte_limit (first (ltb b byte_limit) (below bs) e)
bytes (b ∷ bs) e (suc i) = bytes bs (second (ltb b byte_limit) (below bs) e) i

-- ---- the machines

-- the hub stays as it is
pub leaves : Machine
leaves h batch place out allowance = record { pumped = record { hub = h; answer = Drained (length batch) 0 0 }; out = out }

-- the first record is served, and the others only passed over
pub only_advances : Machine
only_advances h batch place out allowance =
    let r = pump_of h (take (place + record_size) batch) place out allowance in
    record { pumped = record { hub = r.pumped.hub; answer = Drained (length batch) (events_said r.pumped.answer) (steps_said r.pumped.answer) }; out = r.out }

-- ---- the scripts are allowed

sheet-bytes : below sheet ≡ true
unfolding below sheet
sheet-bytes = refl

pub pushed-allowed : Allowed pushed
unfolding pushed padlog thresholds_refusal Ieee.of_bits Ieee.lt Ieee.le Ieee.eq Ieee.ne Ieee.of_int Ieee.sub Ieee.mul Ieee.div Ieee.neg Ieee.add
pushed-allowed = ((refl, bytes sheet sheet-bytes), tt)

pub example-allowed : Allowed example
unfolding example padlog thresholds_refusal Ieee.of_bits Ieee.lt Ieee.le Ieee.eq Ieee.ne Ieee.of_int Ieee.sub Ieee.mul Ieee.div Ieee.neg Ieee.add
example-allowed = ((refl, bytes sheet sheet-bytes), tt)

-- ---- what a query answers

pub clash : (a : Result Bool Refusal) → a ≡ Ok true → a ≡ Ok false → ⊥
clash a e f = let z : ◌≡◌ {A = ℕ} 0 1 = cc in omega arith

-- the one sheet that is registered, whatever the pump
pub pushed-sheets : (m : Machine) → sheets_of m pushed ≡ sheet_read sheet ∷ []
unfolding pushed padlog sheet sheets_of new_of register_as Ieee.of_bits Ieee.lt Ieee.le Ieee.eq Ieee.ne Ieee.of_int Ieee.sub Ieee.mul Ieee.div Ieee.neg Ieee.add
pushed-sheets m = refl

pub example-sheets : (m : Machine) → sheets_of m example ≡ sheet_read sheet ∷ []
unfolding example padlog sheet sheets_of new_of register_as Ieee.of_bits Ieee.lt Ieee.le Ieee.eq Ieee.ne Ieee.of_int Ieee.sub Ieee.mul Ieee.div Ieee.neg Ieee.add
example-sheets m = refl

-- ---- the hub stays as it is: the rule says that Left is pressed, and it does not read so

pub leaves_none : (play leaves pushed).waiting ≡ 0
unfolding leaves pushed padlog sheet play new_of register_as Ieee.of_bits Ieee.lt Ieee.le Ieee.eq Ieee.ne Ieee.of_int Ieee.sub Ieee.mul Ieee.div Ieee.neg Ieee.add
leaves_none = refl

pub leaves-records : records_of leaves pushed ≡ hasaxis (negsuc 0) 100 ∷ []
unfolding leaves pushed padlog sheet move records_of records_from record_fields new_of register_as Ieee.of_bits Ieee.lt Ieee.le Ieee.eq Ieee.ne Ieee.of_int Ieee.sub Ieee.mul Ieee.div Ieee.neg Ieee.add
leaves-records = refl

pub leaves-left : pressed_by_code (play leaves pushed) 0 code_left ≡ Ok false
unfolding leaves pushed padlog sheet play new_of register_as pressed_by_code Ieee.of_bits Ieee.lt Ieee.le Ieee.eq Ieee.ne Ieee.of_int Ieee.sub Ieee.mul Ieee.div Ieee.neg Ieee.add
leaves-left = refl

-- ---- the second record is only passed over: the rule says that Right is pressed, and it does not read so

pub advances-none : (play only_advances example).waiting ≡ 0
unfolding only_advances example padlog sheet move play new_of register_as pump_of Ieee.of_bits Ieee.lt Ieee.le Ieee.eq Ieee.ne Ieee.of_int Ieee.sub Ieee.mul Ieee.div Ieee.neg Ieee.add
advances-none = refl

pub advances-records : records_of only_advances example ≡ hasaxis (pos 1) 200 ∷ hasaxis (negsuc 0) 100 ∷ []
unfolding only_advances example padlog sheet move records_of records_from new_of register_as pump_of Ieee.of_bits Ieee.lt Ieee.le Ieee.eq Ieee.ne Ieee.of_int Ieee.sub Ieee.mul Ieee.div Ieee.neg Ieee.add
advances-records = refl

pub advances-right : pressed_by_code (play only_advances example) 0 code_right ≡ Ok false
unfolding only_advances example padlog sheet move play new_of register_as pump_of pressed_by_code Ieee.of_bits Ieee.lt Ieee.le Ieee.eq Ieee.ne Ieee.of_int Ieee.sub Ieee.mul Ieee.div Ieee.neg Ieee.add
advances-right = refl
