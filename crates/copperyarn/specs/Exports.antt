-- What a call on a lent hub leaves, with its answer as it crosses to C and Rust: the law book's answer, in the struct that stands for it.
use Rattle.std.specs.Prelude.{ℕ, ◌≡◌, List}
use Rattle.std.proofs.Common.{ap, ◌∙◌}
use Rattle.numbers.specs.declared.Tilt.{Tilt}
use Rattle.rules.specs.declared.Hub.{Hub}
use Rattle.rules.specs.declared.Answered.{Answered}
use Rattle.rules.specs.declared.Registered.{Registered}
use Rattle.rules.specs.Pump.{Run}
use Rattle.hub.specs.declared.Head.{Head}
use Rattle.hub.specs.Lent.{Listed, Columns, hub_of}
use Rattle.crossing.specs.declared.Pad.{Pad}
use Rattle.crossing.specs.declared.Report.{Report}
use Rattle.crossing.specs.Crossing.{refusal_of, pad_of, report_of}

-- ---- the hub after a call, with the refusal's number

pub record DoneHub : Type 0 where
  pub hub : Hub
  pub refusal : ℕ

abbrev pub done : Head → Listed → Columns → ℕ → DoneHub
done d s t refusal = record { hub = hub_of d s t; refusal = refusal }

abbrev pub done_of : Answered → DoneHub
done_of a = record { hub = a.hub; refusal = refusal_of a.answer }

-- ---- with the pad that was registered

pub record RegisteredHub : Type 0 where
  pub hub : Hub
  pub pad : Pad

abbrev pub enrolled : Head → Listed → Columns → Pad → RegisteredHub
enrolled d s t pad = record { hub = hub_of d s t; pad = pad }

abbrev pub enrolled_of : Registered → RegisteredHub
enrolled_of a = record { hub = a.hub; pad = pad_of a.answer }

-- ---- with a pump's report and every byte of the out buffer

pub record ReportedHub : Type 0 where
  pub hub : Hub
  pub report : Report
  pub out : List ℕ

abbrev pub reported : Head → Listed → Columns → Report → List ℕ → ReportedHub
reported d s t report out = record { hub = hub_of d s t; report = report; out = out }

abbrev pub reported_of : Run → Tilt → ReportedHub
reported_of run tilt = record { hub = run.pumped.hub; report = report_of run.pumped.answer tilt; out = run.out }

-- from the call's two equations
pub reports-by : {r s : Run} {t u : Tilt} → r ≡ s → t ≡ u → reported_of r t ≡ reported_of s u
reports-by {r} {s} {t} {u} e f = ap (λ (x : Run). reported_of x t) e ∙ ap (reported_of s) f
