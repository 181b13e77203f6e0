-- `lines::number` meets its contract: the digits and the byte behind them are laid as one text.
use Rattle.std.proofs.Common.{arith, ◌^◌, ◌<◌, ◌∙◌}
use Rattle.lines.specs.Text.{number_text}
use Rattle.lines.proofs.Laws.{ended, untouched, lacking, having}
use Rattle.lines.proofs.Digits.{decimal-is, decimal-short, number_short}
use Rattle.lines.proofs.number.Goals as goal

pub returns-then-not-fits : goal.returns-then-not-fits
returns-then-not-fits c =
    untouched _ _ _ _ (number_short c.args.n c.args.end) (lacking _ _ _ c.fits.ensures c.if-not-fits.true)

pub returns : goal.returns
unfolding number_text
returns c =
    let d = c.decimal-count in
    let few : c.args.n < 10 ^ 20 = omega arith in
    ended 20 _ _ _ _ _ _ _ _ _ (d.ensures.digits ∙ decimal-is c.args.n d.result few d.ensures.len) (decimal-short c.args.n)
    c.append-next.ensures c.append.ensures (having _ _ _ c.fits.ensures c.if-not-fits.false)
