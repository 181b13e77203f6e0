-- `sticks` prints a pad's places one after the other: the lines of the first i places stand there.
use Rattle.std.proofs.Common.{◌≡◌}
use Rattle.columns.specs.Columns.{axes_of}
use Rattle.replay_words.specs.Pieces.{written, laid_all}
use Rattle.replay_dump.specs.Dump.{stick_lines}
use Rattle.replay_dump.proofs.sticks.Given as goal

abbrev pub invariant-loop-i : goal.invariant-loop-i
invariant-loop-i l =
    written l.text l.next ≡ laid_all (stick_lines l.codes l.hasaxis (axes_of l.values l.times) l.p l.i) (written l.fn.text l.fn.at)
