-- The pump's loops. At the head of each the run that is left from where the pump stands is the whole call's, with its report, at the hub that head and arrays
-- stand for. The bytes filled tell the events written, and what is left of the allowance the steps made. The measure is what is left of the allowance.
use Rattle.std.proofs.Common.{◌≡◌, ◌-◌, ◌*◌, ◌/◌, ◌≤◌}
use Rattle.rules.specs.Forms.{event_size}
use Rattle.pump_laws.specs.Runs.{call}
use Rattle.pump_laws.specs.Going.{Going}
use Rattle.hub.specs.Lent.{hub_of}
use Rattle.hub.specs.Holding.{listed_now, columns_now, Same}
use Rattle.pump.proofs.Loops.{hub_at}
use Rattle.pump.proofs.pump.Given as goal

-- the inner loop: one step of the law book a turn
abbrev pub invariant-loop-converts-2 : goal.invariant-loop-converts-2
invariant-loop-converts-2 l = record {
  going : Going
      (hub_at l.fn.head l.connected l.renamed l.down l.held l.heldaxes l.flags l.front l.waiting (listed_now l.listed) (columns_now l.lent))
      l.batch l.at l.out (l.filled / event_size) (l.most - l.left) l.left l.tilt
      (call (hub_of l.fn.head (listed_now l.fn.listed) (columns_now l.fn.lent))
      l.fn.batch l.fn.place l.fn.out l.fn.allowance);
  same : Same l.fn.lent l.lent;
  fewer : l.left ≤ l.initial.left;
}

abbrev pub decreases-loop-converts-2 : goal.decreases-loop-converts-2
decreases-loop-converts-2 l = l.left

-- the outer loop: one kept event a turn
abbrev pub invariant-loop-converts : goal.invariant-loop-converts
invariant-loop-converts l = record {
  going : Going
      (hub_at l.fn.head l.connected l.renamed l.down l.held l.heldaxes l.flags l.front l.waiting (listed_now l.listed) (columns_now l.lent))
      l.batch l.at l.out (l.filled / event_size) (l.most - l.left) l.left l.tilt
      (call (hub_of l.fn.head (listed_now l.fn.listed) (columns_now l.fn.lent))
      l.fn.batch l.fn.place l.fn.out l.fn.allowance);
  filled : l.filled ≡ event_size * (l.filled / event_size);
  same : Same l.fn.lent l.lent;
  few : l.left ≤ l.most;
}

abbrev pub decreases-loop-converts : goal.decreases-loop-converts
decreases-loop-converts l = l.left
