-- `threshold_of` meets its contract: an absent deadzone is one arm of `threshold_of`; else the cast is exact (`deadzone-fits`).
use Rattle.scale.specs.Casts.{deadzone-fits}
use Rattle.scale.proofs.threshold_of.Goals as goal

pub int_to_float-result : goal.int_to_float-result
int_to_float-result c = deadzone-fits c.args.deadzone c.if-deadzone-eq-ABSENT.false c.requires.1
