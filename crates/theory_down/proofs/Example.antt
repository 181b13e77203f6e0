-- A statement of the summary that is too strong, refuted: that a step keeps it on any hub. By a hub whose lists are too short (`short` of `specs/Example`).
use Rattle.std.specs.Prelude.{refl}
use Rattle.std.proofs.Common.{sym, arith}
use Rattle.rules.specs.declared.Hub.{Hub}
use Rattle.rules.specs.declared.NextRecord.{NextRecord}
use Rattle.rules.specs.Names.{pad_limit}
use Rattle.rules.specs.Hub.{pressed_at}
use Rattle.rules.specs.Step.{step_hub}
use Rattle.theory_calls.specs.Machines.{desk}
use Rattle.theory_history.specs.Lemmas.Marks.{all_same}
use Rattle.theory_down.specs.Summed.{Summed, by-pads, on-pad, sums-alike}
use Rattle.theory_down.proofs.Kept.{reached-summed}
use Rattle.theory_down.specs.Example.{desk-reached, next, short, short-after}

-- ---- too strong: that a step keeps it on any hub. Where the lists are too short nothing is noted

short-summed : Summed short
unfolding short desk pressed_at
short-summed =
    by-pads short
    (λ p few. sums-alike (sym (all_same pad_limit p 0)) (sym (all_same pad_limit p 0)) (sym (all_same pad_limit p 0)) (λ k inside. refl) (λ k inside. refl) (on-pad desk (reached-summed desk-reached) p few))

not-by-any-step : ((h : Hub) (l : NextRecord) → Summed h → Summed (step_hub h l)) → ⊥
not-by-any-step all =
    let e = (all short next short-summed).count 0 (omega arith) in
    let none = short-after.0 in
    let one = short-after.1 in
    omega arith
