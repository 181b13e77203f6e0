-- `near_root` meets its contract: of the whole part that `floor_root` ensures, each way through the code is one arm of `rounded`.
use Rattle.std.specs.Prelude.{Bool, cond, ◌+◌, ◌*◌, ◌-◌}
use Rattle.std.proofs.Common.{sym, ap, ◌∙◌, le-ltb}
use borrow.Author.Tests.{lt-ltb}
use Rattle.binary32.specs.WholeRoot.{near-is}
use Rattle.binary32.proofs.near_root.Goals as goal

pub returns-then-r-w : goal.returns-then-r-w
returns-then-r-w c =
    let w = c.args.w in
    let r = c.floor_root-r.result in
    sym (near-is w r c.requires.1 c.floor_root-r.ensures ∙ ap (λ (b : Bool). cond b (r + 1) r) (lt-ltb r (w - r * r) c.if-r-w.true))

pub returns-else-r-w : goal.returns-else-r-w
returns-else-r-w c =
    let w = c.args.w in
    let r = c.floor_root-r.result in
    sym (near-is w r c.requires.1 c.floor_root-r.ensures ∙ ap (λ (b : Bool). cond b (r + 1) r) (le-ltb r (w - r * r) c.if-r-w.false))
