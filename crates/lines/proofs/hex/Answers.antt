-- `lines::hex` meets its contract: the digits and the byte behind them are laid as one text.
use Rattle.std.proofs.Common.{arith, ◌^◌, ◌<◌, ◌∙◌}
use Rattle.lines.specs.Text.{hex_text}
use Rattle.lines.proofs.Laws.{ended, untouched, lacking, having}
use Rattle.lines.proofs.Digits.{hex-is, hex-short, hex-text-short}
use Rattle.lines.proofs.hex.Goals as goal

pub returns-then-not-fits : goal.returns-then-not-fits
returns-then-not-fits c =
    untouched _ _ _ _ (hex-text-short c.args.x c.args.end) (lacking _ _ _ c.fits.ensures c.if-not-fits.true)

pub returns : goal.returns
unfolding hex_text
returns c =
    let d = c.hex-count in
    let eight : c.args.x < 16 ^ 8 = omega arith in
    ended 8 _ _ _ _ _ _ _ _ _ (d.ensures.digits ∙ hex-is c.args.x d.result eight d.ensures.len) (hex-short c.args.x)
    c.append-next.ensures c.append.ensures (having _ _ _ c.fits.ensures c.if-not-fits.false)
