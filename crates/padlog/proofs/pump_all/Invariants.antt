-- `pump_all` calls the pump at most eight times: what is printed and what the calls to come print make the whole text.
use Rattle.hub.specs.Lent.{hub_of}
use Rattle.hub.specs.Holding.{listed_now, columns_now}
use Rattle.padlog.specs.Log.{rounds_of, rounds}
use Rattle.padlog.proofs.Rounds.{Standing}
use Rattle.padlog.proofs.pump_all.Given as goal

abbrev pub invariant-loop-n : goal.invariant-loop-n
invariant-loop-n l =
    Standing l.batch
    (rounds_of rounds (hub_of l.fn.head (listed_now l.listed) (columns_now l.fn.lent)) l.batch 0 l.fn.out 0)
    (hub_of l.h (listed_now l.listed) (columns_now l.lent)) l.place l.out
    l.steps l.text l.at l.n
