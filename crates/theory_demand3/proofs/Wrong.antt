-- 01's wrong machines (`specs/Wrong`) do not meet demand 3: 01's padlog example is the script on which each fails. By what the checker computed of it: the rule
-- says that a direction is pressed, and it does not read so.
use Rattle.std.specs.Prelude.{ℕ, ◌<◌, true, false, List, [], ◌∷◌, ◌≡◌, refl, length, get_or, Ok}
use Rattle.std.proofs.Common.{arith}
use Rattle.rules.specs.declared.RawRecord.{RawRecord}
use Rattle.rules.specs.Names.{code_left, code_right}
use Rattle.rules.specs.Queries.{pressed_by_code}
use Rattle.theory_calls.specs.Machines.{Machine, sheet}
use Rattle.theory_history.specs.Rule.{Reading, held}
use Rattle.theory_demand3.specs.Demand3.{Script, Allowed, play, settings_of, records_of, sheet_read, sheets_of, no_sheet, says, rule_reads, Demand3}
use Rattle.theory_demand3.specs.Example.{padlog, pushed, example, rule-right, rule-pushed}
use Rattle.theory_demand3.specs.Wrong.{advances-none, advances-records, advances-right, clash, example-allowed, example-sheets, leaves, leaves-left, leaves-records, leaves_none, only_advances, pushed-allowed, pushed-sheets}

-- ---- what a query answers

-- the rule's case, and the pad's
module _ (m : Machine) (s : Script) (rs : List RawRecord) (sheets : sheets_of m s ≡ sheet_read sheet ∷ []) (settings : settings_of s ≡ padlog) (records : records_of m s ≡ rs) where
  told : (c : ℕ) (x : Reading) → rule_reads padlog (sheet_read sheet) 0 c rs ≡ says x
      → rule_reads (settings_of s) (get_or (sheets_of m s) 0 no_sheet) 0 c (records_of m s) ≡ says x
  told c x is = rw (sheets, settings, records) is

  registered : 0 < length (sheets_of m s)
  registered = rw sheets (omega arith)

  refuted : Allowed s → (play m s).waiting ≡ 0 → (c : ℕ) → rule_reads padlog (sheet_read sheet) 0 c rs ≡ says (held true)
      → pressed_by_code (play m s) 0 c ≡ Ok false → Demand3 m → ⊥
  refuted ok none c is other d = clash (pressed_by_code (play m s) 0 c) (d.reads s ok none 0 c (held true) registered (told c (held true) is)).pressed other

-- ---- the hub stays as it is: the rule says that Left is pressed, and it does not read so

pub leaves-refuted : Demand3 leaves → ⊥
unfolding pushed settings_of
leaves-refuted = refuted leaves pushed _ (pushed-sheets leaves) refl leaves-records pushed-allowed leaves_none code_left rule-pushed leaves-left

-- ---- the second record is only passed over: the rule says that Right is pressed, and it does not read so

pub advances-refuted : Demand3 only_advances → ⊥
unfolding example settings_of
advances-refuted = refuted only_advances example _ (example-sheets only_advances) refl advances-records example-allowed advances-none code_right rule-right advances-right
