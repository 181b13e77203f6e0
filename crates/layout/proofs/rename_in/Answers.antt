-- `layout::rename_in` meets its contract: a turn names one place more, and past the column's end nothing is set.
use Rattle.std.proofs.Common.{◌+◌, ◌-◌, ◌*◌, ◌≡◌, sym, ◌∙◌, arith}
use Rattle.rules.specs.Names.{places_per_pad}
use Rattle.layout.specs.Rows.{one-if-small, byte-is}
use Rattle.layout.specs.Renames.{renames-past, renames-none, renames-next}
use Rattle.layout.proofs.rename_in.Goals as goal

pub returns-then-pad-ge-PADS : goal.returns-then-pad-ge-PADS
returns-then-pad-ge-PADS c = renames-past _ _ _ _ _ _ (omega arith)

pub loop-place-preserved : goal.loop-place-preserved
loop-place-preserved c =
    let l = c.loop-place in
    let end = places_per_pad * c.args.pad + places_per_pad in
    let fewer : end - (l.place + 1) ≡ end - l.place - 1 = omega arith in
    let element = c.from-i.ensures ∙ byte-is _ in (
      omega (arith, element, one-if-small),
      rw fewer (sym (renames-next _ _ _ _ _ _ _ _ (omega arith) c.name_given.ensures element) ∙ l.invariant.1),
    )

pub returns : goal.returns
returns c = renames-none _ _ _ _ _ _ (omega arith) ∙ c.loop-place.invariant.1
