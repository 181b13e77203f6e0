-- What holds whenever the heads of the pump's loops are reached; `whole` is the run that they are to leave, with its report.
use Rattle.std.specs.Prelude.{ℕ, ◌+◌, ◌*◌, ◌≤◌, ◌≡◌, List, length}
use Rattle.numbers.specs.declared.Tilt.{Tilt}
use Rattle.rules.specs.declared.Hub.{Hub}
use Rattle.rules.specs.Names.{buffer_limit}
use Rattle.rules.specs.Forms.{event_size}
use Rattle.pump_laws.specs.Runs.{Reported, rest, standing}

-- the largest allowance
abbrev pub last_allowance : ℕ
last_allowance = 65535

pub record Going (h : Hub) (s : List ℕ) (at : ℕ) (out : List ℕ) (events steps left : ℕ) (tilt : Tilt) (whole : Reported) : Type 0 where
  pub at_small : at ≤ length s
  pub batch-small : length s ≤ buffer_limit
  pub out-small : length out ≤ buffer_limit
  pub room : event_size * events ≤ length out
  pub steps-small : steps + left ≤ last_allowance
  pub same : rest left s (standing h at out events steps) tilt ≡ whole
