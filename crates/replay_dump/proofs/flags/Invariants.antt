-- `flags` prints a pad's flags one after the other: the digits of the first i flags stand behind the word.
use Rattle.std.proofs.Common.{◌≡◌}
use Rattle.replay_words.specs.Pieces.{written, laid_all}
use Rattle.replay_dump.specs.Dump.{flag_digits}
use Rattle.replay_dump.proofs.flags.Given as goal

abbrev pub invariant-loop-i : goal.invariant-loop-i
invariant-loop-i l =
    written l.text l.next ≡ laid_all (flag_digits l.flags l.p l.i) (written l.initial.text l.initial.next)
