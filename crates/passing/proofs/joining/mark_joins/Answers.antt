-- `passing::joining::mark_joins` meets its contract: nothing below Connected, else what the calls ensure.
use Rattle.passing.specs.Passing.{no-marks, no_join}
use Rattle.passing.proofs.joining.mark_joins.Goals as goal

pub returns-then-kind-lt-KIND_CONNECTED : goal.returns-then-kind-lt-KIND_CONNECTED
returns-then-kind-lt-KIND_CONNECTED c =
    (no-marks _ _ _ _ _ _ _ c.if-kind-lt-KIND_CONNECTED.true, no_join _ _ _ _ _ c.if-kind-lt-KIND_CONNECTED.true)
