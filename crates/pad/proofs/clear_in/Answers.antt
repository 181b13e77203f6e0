-- `pad::clear_in` meets its contract: each turn takes one mark off; those that are off then stand where so many did (`cleared-run`), and past the end there is none.
use Rattle.std.proofs.Common.{◌≡◌, ℕ, List, Bool, false, ◌∷◌, [], ◌++◌, ◌+◌, ◌-◌, drop, replicate, refl, sym, ap, ◌∙◌, arith, length-take, length-drop}
use Rattle.std.proofs.Math.Seq.{take_all}
use Rattle.std.proofs.lemmas.List.{take_more_set, length-replicate}
use Rattle.std.proofs.lemmas.List.Edits.{paste_all}
use Rattle.std.proofs.lemmas.Slice.{put_mid-paste}
use Rattle.std.proofs.lemmas.Grind.{replicate_next}
use Rattle.pad.proofs.Columns.{cleared-all, cleared-run}
use Rattle.pad.proofs.clear_in.Goals as goal

pub loop-mark-init : goal.loop-mark-init
loop-mark-init c = (omega arith, refl)

pub loop-mark-preserved : goal.loop-mark-preserved
loop-mark-preserved c =
    let l = c.loop-mark in (
      omega arith,
      take_more_set l.mark-items l.mark-index false (omega (arith, l.auto.mark-items))
          ∙ ap (λ (marks : List Bool). marks ++ false ∷ []) l.invariant.1
          ∙ sym (replicate_next l.mark-index false),
    )

pub returns-after-loop-mark : goal.returns-after-loop-mark
returns-after-loop-mark c =
    let l = c.loop-mark in
    let marks = c.args.marks.now in
    let start = c.args.start in
    let run = c.min.result in
    let part = start + run - start in
    let same : run ≡ part = omega arith in
    let long = length-take part (drop start marks) in
    let behind = length-drop start marks in
    let end : l.mark-index ≡ run = omega (arith, long, behind, c.min.ensures) in
    let off : l.mark-items ≡ replicate run false =
    sym (take_all l.mark-index l.mark-items (omega (arith, l.auto.mark-items))) ∙ l.invariant.1 ∙ ap (λ (n : ℕ). replicate n false) end in
    let room = sym (length-replicate run false) in
    put_mid-paste start part marks l.mark-items (replicate run false) run off same room
    ∙ paste_all marks start (replicate run false) run room
    ∙ cleared-run marks start c.args.n run (omega arith) c.min.ensures

pub returns-else-start-marks : goal.returns-else-start-marks
returns-else-start-marks c = sym (cleared-all c.args.marks.now c.args.start c.args.n (omega arith))
