-- `lines::line` meets its contract: its six texts are laid as one.
use Rattle.std.proofs.Common.{arith, ◌+◌, ◌≤◌, length, append_assoc}
use Rattle.lines.specs.Text.{word_of, line_of}
use Rattle.lines.proofs.Laws.{laid, more, named, untouched, lacking, having}
use Rattle.lines.proofs.Words.{word-short, line-short}
use Rattle.lines.proofs.line.Goals as goal

pub returns-then-not-fits : goal.returns-then-not-fits
returns-then-not-fits c =
    untouched _ _ _ _ (line-short c.args.event) (lacking _ _ _ c.fits.ensures c.if-not-fits.true)

pub returns : goal.returns
unfolding line_of
returns c =
    let short : length (word_of c.args.event.kind) ≤ 13 = word-short c.args.event.kind in
    let room : c.args.at + 94 ≤ length c.args.out.now = having _ _ _ c.fits.ensures c.if-not-fits.false in
    let upto_pad = laid _ _ _ _ _ _ c.word-pad.ensures (omega arith) in
    let upto_name = more _ _ _ _ _ _ _ _ _ _ upto_pad c.number-name.ensures (omega arith) in
    let upto_code = more _ _ _ _ _ _ _ _ _ _ upto_name c.number-code.ensures (omega arith) in
    let upto_bits = more _ _ _ _ _ _ _ _ _ _ upto_code c.hex-bits.ensures (omega arith) in
    let upto_time = more _ _ _ _ _ _ _ _ _ _ upto_bits c.hex-time.ensures (omega arith) in
    let whole = more _ _ _ _ _ _ _ _ _ _ upto_time c.number.ensures (omega arith) in
    named _ 94 _ _ _ _ _ _ whole (simp append_assoc) (omega arith) room
