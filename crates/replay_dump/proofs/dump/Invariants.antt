-- `dump` prints one pad after the other: the lines of the first p pads stand there, whatever the arrays hold that are not lent.
use Rattle.std.proofs.Common.{◌≡◌, List, ℕ}
use Rattle.hub.specs.Lent.{listed, columns, hub_of}
use Rattle.replay_words.specs.Pieces.{written, laid_all}
use Rattle.replay_dump.specs.Dump.{up_to, pad_lines}
use Rattle.replay_dump.proofs.dump.Given as goal

abbrev pub invariant-loop-p : goal.invariant-loop-p
invariant-loop-p l =
    (kinds names renames queuebytes queuecodes : List ℕ)
    → written l.text l.next
    ≡ laid_all
    (up_to (pad_lines (hub_of l.head (listed l.codes kinds names renames) (columns l.hasbutton l.hasaxis l.values l.times l.marks queuebytes queuecodes))) l.p)
    (written l.fn.text l.fn.at)
