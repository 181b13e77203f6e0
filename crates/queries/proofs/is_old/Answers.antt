-- `queries::is_old` meets its contract: what the calls ensure, put together.
use Rattle.std.proofs.Common.{rules}
use Rattle.rules.specs.Queries.{old_of}
use Rattle.queries.proofs.is_old.Goals as goal

pub returns : goal.returns
unfolding old_of
returns c s t =
    let hats = c.hats_now.ensures s t in
    search rules
