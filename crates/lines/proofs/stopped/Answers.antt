-- `lines::stopped` meets its contract: the word and its numbers are laid as one text.
use Rattle.std.proofs.Common.{arith, ◌+◌, ◌≤◌, length, append_assoc}
use Rattle.lines.specs.Text.{stopped_line}
use Rattle.lines.proofs.Laws.{laid, more, named, untouched, lacking, having}
use Rattle.lines.proofs.Words.{stopped-short}
use Rattle.lines.proofs.stopped.Goals as goal

pub returns-then-not-fits : goal.returns-then-not-fits
returns-then-not-fits c =
    untouched _ _ _ _ (stopped-short c.args.refusal c.args.place) (lacking _ _ _ c.fits.ensures c.if-not-fits.true)

pub returns : goal.returns
unfolding stopped_line
returns c =
    let room : c.args.at + 50 ≤ length c.args.out.now = having _ _ _ c.fits.ensures c.if-not-fits.false in
    let l = laid _ _ _ _ _ _ c.labelled-next.ensures (omega arith) in
    named _ 50 _ _ _ _ _ _ (more _ _ _ _ _ _ _ _ _ _ l c.number.ensures (omega arith)) (simp append_assoc) (omega arith) room
