-- What an operation that changes the hub leaves: the law book's hub that the head and the lent arrays stand for, and its answer.
use Rattle.std.specs.Prelude.{◌≡◌}
use Rattle.rules.specs.declared.Hub.{Hub}
use Rattle.hub.specs.declared.Head.{Head}
use Rattle.hub.specs.Lent.{Listed, Columns, hub_of}
use Rattle.replay_answers.specs.declared.Changed.{Changed}
use Rattle.replay_answers.specs.declared.Told.{Told}

pub record ToldHub : Type 0 where
  pub hub : Hub
  pub answer : Changed

abbrev pub told_of : Hub → Changed → ToldHub
told_of h a = record { hub = h; answer = a }

-- what is told of a hub that is lent
abbrev pub told : Told → Listed → Columns → ToldHub
told r s t = told_of (hub_of r.head s t) r.answer

-- a law: as `tell` says it
pub told_is : (r : Told) (s : Listed) (t : Columns) {head : Head} {answer : Changed}
    → (r.head ≡ head) × (r.answer ≡ answer) → told r s t ≡ told_of (hub_of head s t) answer
told_is r s t e = rw (e.0, e.1)
