-- `lines::labelled` meets its contract: the label and the number are laid as one text.
use Rattle.std.proofs.Common.{arith, ◌+◌, ◌≤◌, length}
use Rattle.lines.proofs.Laws.{laid, more, appended, untouched, lacking, having}
use Rattle.lines.proofs.Words.{labelled-short}
use Rattle.lines.proofs.labelled.Goals as goal

pub returns-then-not-fits : goal.returns-then-not-fits
returns-then-not-fits c =
    untouched _ _ _ _ (labelled-short c.args.label.now c.args.n c.args.end) (lacking _ _ _ c.fits.ensures c.if-not-fits.true)

pub returns : goal.returns
returns c =
    let h : c.args.at + (length c.args.label.now + 21) ≤ length c.args.out.now = having _ _ _ c.fits.ensures c.if-not-fits.false in
    let l = laid _ _ _ _ _ _ c.append-next.ensures (omega arith) in
    appended _ _ _ _ _ _ h (more _ _ _ _ _ _ _ _ _ _ l c.number.ensures (omega arith))
