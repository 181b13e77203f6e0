-- What the pads from here on give is what all of them give.
use Rattle.std.proofs.Common.{◌≡◌}
use Rattle.columns.specs.Columns.{buttons_of}
use Rattle.clock.specs.Runs.{from-pad}
use Rattle.clock.proofs.first_place.Given as goal

abbrev pub invariant-loop-p : goal.invariant-loop-p
invariant-loop-p l =
    from-pad l.connected l.buttons.hasbutton.now (buttons_of l.buttons.values.now l.buttons.times.now l.buttons.marks.now) l.after l.every l.clock l.p
    ≡ from-pad l.connected l.buttons.hasbutton.now (buttons_of l.buttons.values.now l.buttons.times.now l.buttons.marks.now) l.after l.every l.clock 0
