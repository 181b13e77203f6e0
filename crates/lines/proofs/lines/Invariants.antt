-- `lines` prints one event after the other: the lines of the first i events are laid.
use Rattle.std.proofs.Common.{◌≡◌, ◌+◌, ◌*◌, ◌≤◌, length}
use Rattle.lines.specs.Text.{held_of, lines_of}
use Rattle.lines.proofs.Laws.{Laid}
use Rattle.lines.proofs.lines.Given as goal

abbrev pub invariant-loop-i : goal.invariant-loop-i
invariant-loop-i l = record {
  inside : 22 * l.held ≤ length l.events;
  room : l.at + 94 * l.held ≤ length l.fn.out;
  laid : Laid (94 * l.i) (lines_of l.events l.i) l.fn.out l.at l.out l.next;
  all : l.held ≡ held_of l.events l.fn.count;
}
