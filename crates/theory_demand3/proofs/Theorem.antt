-- Demand 3 holds of the pump. The hub after a script is played by the records that the script took (Scripts), so history's theorems say what its codes read;
-- what they ask of the hub's columns is read off the sheet's bytes (Listed, Converting, Reading).
use Rattle.std.specs.Prelude.{ℕ, ◌<◌, true, false, ◌≡◌, length, get_or, Ok}
use Rattle.rules.specs.Pump.{pump_of}
use Rattle.rules.specs.Queries.{pressed_by_code}
use Rattle.theory_history.specs.Rule.{Reading, Reads}
use Rattle.theory_demand3.specs.Demand3.{Script, Allowed, play, settings_of, records_of, Sheet, sheets_of, no_sheet, unlisted, lookup, converts, says, rule_reads, Opposite, Demand3}
use Rattle.theory_demand3.proofs.Scripts.{Registered, script-played, script-sheets, script-set}
use Rattle.theory_demand3.proofs.Reading.{code_reads, opposite-reads}
use Rattle.theory_demand3.proofs.Counts.{script-four, script-before}

module _ (s : Script) (ok : Allowed s) (p : ℕ) (short : p < length (sheets_of pump_of s)) where
  old : p < (play pump_of s).pads
  old = rw (← (script-sheets s ok).pads) short

  abbrev registered : Registered (play pump_of s) (sheets_of pump_of s) p
  registered = (script-sheets s ok).each p old

  abbrev sheet : Sheet
  sheet = get_or (sheets_of pump_of s) p no_sheet

  reads : (play pump_of s).waiting ≡ 0 → (c : ℕ) (x : Reading) → rule_reads (settings_of s) sheet p c (records_of pump_of s) ≡ says x → Reads (play pump_of s) p c x
  reads none c x rule =
      code_reads (script-played s ok) p old registered.bytes registered.kept none (settings_of s) (script-set s ok) c x (rw registered.reads at rule)

  opposites : (c d : ℕ) → converts sheet ≡ true → Opposite c d → lookup c sheet.elements ≡ unlisted → lookup d sheet.elements ≡ unlisted
      → pressed_by_code (play pump_of s) p c ≡ Ok true → pressed_by_code (play pump_of s) p d ≡ Ok false
  opposites c d hats facing no_plus no_minus =
      opposite-reads (script-played s ok) p old registered.bytes registered.kept (rw registered.reads at hats) c d facing
      (rw registered.reads at no_plus) (rw registered.reads at no_minus)

pub demand3 : Demand3 pump_of
demand3 =
    record {
      reads = λ s ok none p c x short rule. reads s ok p short none c x rule;
      opposites = λ s ok p c d short hats facing no_plus no_minus. opposites s ok p short c d hats facing no_plus no_minus;
      four = script-four;
      before = script-before;
    }
