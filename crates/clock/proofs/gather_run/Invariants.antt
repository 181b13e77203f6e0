-- The records before the index are gathered.
use Rattle.std.proofs.Common.{◌≡◌, ℕ, false, ◌+◌, ◌<◌, get_or, length}
use Rattle.rules.specs.Names.{places_per_pad}
use Rattle.rules.specs.Hub.{past_button}
use Rattle.columns.specs.Columns.{buttons_of}
use Rattle.clock.specs.Runs.{record_of}
use Rattle.clock.proofs.gather_run.Given as goal

abbrev pub invariant-loop-index : goal.invariant-loop-index
invariant-loop-index l =
    record {
      long : length l.run ≡ places_per_pad;
      gathered :
          (j : ℕ) →
          j < l.index →
          get_or l.run j past_button
          ≡ record_of (get_or l.buttons.hasbutton.now (l.start + j) false) (get_or (buttons_of l.buttons.values.now l.buttons.times.now l.buttons.marks.now) (l.start + j) past_button);
    }
