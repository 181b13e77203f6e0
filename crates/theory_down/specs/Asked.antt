-- What W-213's two queries should answer, by codes: that an axis element reads pressed, and which is the lowest pressed code. `proofs/Asked` has it of the queries, on
-- every hub that the public calls reach.
use Rattle.std.specs.Prelude.{ℕ, ◌≤◌, true, ◌≡◌, None, Ok, Option, Result, Some}
use Rattle.std.proofs.Math.Bool.{false}
use Rattle.rules.specs.declared.Hub.{Hub}
use Rattle.rules.specs.declared.Refusal.{Refusal}
use Rattle.rules.specs.Sheets.{element_axis}
use Rattle.rules.specs.Hub.{place_in, kind_at}
use Rattle.rules.specs.Queries.{pressed_by_code}

-- ---- what the answers should be, by codes

-- an axis element that reads pressed
pub record PressedAxis (h : Hub) (p : ℕ) : Type 0 where
  pub code : ℕ
  pub kind : kind_at h (place_in h p code) ≡ element_axis
  pub reads : pressed_by_code h p code ≡ Ok true

-- "the lowest pressed code, which says that there is none exactly when no record is pressed"
pub data Lowest (h : Hub) (p : ℕ) : Result (Option ℕ) Refusal → Type 0 where
  none : ((c : ℕ) → pressed_by_code h p c ≡ Ok false) → Lowest h p (Ok None)
  least : (c : ℕ) → pressed_by_code h p c ≡ Ok true → ((d : ℕ) → pressed_by_code h p d ≡ Ok true → c ≤ d) → Lowest h p (Ok (Some c))
