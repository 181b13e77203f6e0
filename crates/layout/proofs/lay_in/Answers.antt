-- `layout::lay_in` meets its contract: a good sheet has the bytes that are read, and a turn lays one row more in each of the arrays.
use Rattle.std.proofs.Common.{sym, ◌∙◌, arith}
use Rattle.rules.specs.Sheets.{count_of}
use Rattle.layout.specs.Laid.{laid_none, laid-row, first_inside, first_is, others-left, laid_whole}
use Rattle.layout.specs.Laying.{first_rows, none_left}
use Rattle.layout.proofs.lay_in.Goals as goal

pub loop-k-init : goal.loop-k-init
loop-k-init c =
    let none = c.default-laying.ensures in
    (omega arith, omega arith, first_rows _ _ c.default-laying.result none.0 none.1.0 none.1.1, laid_none _ _ _ _ _ _)

pub loop-k-preserved : goal.loop-k-preserved
loop-k-preserved c =
    let l = c.loop-k in
    let left = sym (c.next-row.ensures.rows l.k c.loop-k-test.true) ∙ l.invariant.2 in (
      omega arith,
      omega arith,
      others-left _ l.k left,
      laid-row _ _ _ _ _ _ _ l.k (first_inside _ l.k left) (first_is _ l.k left) l.invariant.3 c.put_element.ensures,
    )

pub returns : goal.returns
unfolding count_of
returns c =
    let l = c.loop-k in
    rw (laid_whole _ l.k (sym (none_left l.k _ _ _ c.loop-k-test.false) ∙ l.invariant.2)) at l.invariant.3
