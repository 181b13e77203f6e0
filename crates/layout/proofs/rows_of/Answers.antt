-- `layout::rows_of` meets its contract: a good sheet has the bytes that are read, and a turn lays one place more.
use Rattle.std.proofs.Common.{refl, List, ◌++◌, sym, ◌∙◌, ap, arith, take, length-set}
use Rattle.rules.specs.declared.Row.{Row}
use Rattle.rules.specs.Sheets.{count_of}
use Rattle.layout.specs.Rows.{row_laid, rows-laid}
use Rattle.layout.specs.Laying.{first_rows, none_left}
use Rattle.layout.proofs.rows_of.Goals as goal

pub loop-row-init : goal.loop-row-init
loop-row-init c =
    let none = c.default-laying.ensures in
    (refl, omega arith, omega arith, first_rows _ _ c.default-laying.result none.0 none.1.0 none.1.1)

pub loop-row-preserved : goal.loop-row-preserved
loop-row-preserved c =
    let l = c.loop-row in
    let next = c.next.ensures in (
      simp length-set l.invariant.0,
      omega arith,
      omega arith,
      row_laid l.row-items _ _ l.row-index (omega (arith, l.invariant.0)) ∙ ap (λ (rest : List Row). take l.row-index l.row-items ++ rest) (sym (next.rows l.row-index c.loop-row-test.true)) ∙ l.invariant.3,
    )

pub returns : goal.returns
unfolding count_of
returns c =
    let l = c.loop-row in
    rows-laid _ _ l.row-index (omega (arith, l.invariant.0)) (none_left l.row-index _ _ _ c.loop-row-test.false) ∙ l.invariant.3
