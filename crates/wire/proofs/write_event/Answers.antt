-- `wire::write_event` meets its contract: `Bytes` says that the bytes laid out of the swapped numbers are the form's.
use Rattle.std.proofs.Common.{◌≡◌, List, ℕ, ◌++◌, drop, ap, ◌∙◌}
use Rattle.rules.specs.declared.Event.{Event}
use Rattle.rules.specs.declared.EventForm.{EventForm}
use Rattle.rules.specs.Forms.{form_bytes}
use Rattle.rules.specs.Events.{form_of, event_bytes}
use Rattle.wire.specs.Bytes.{swapped_of, laid_out, laid_out-is}
use Rattle.wire.proofs.write_event.Goals as goal

of-event : (f : EventForm) (e : Event) (out : List ℕ) {bytes : List ℕ} → f ≡ form_of e
    → bytes ≡ laid_out f.kind f.pad f.name (swapped_of 8 f.code) (swapped_of 8 f.bits) (swapped_of 8 f.time) ++ drop 22 out
    → bytes ≡ event_bytes e ++ drop 22 out
unfolding event_bytes
of-event f e out is laid = laid ∙ ap (λ (l : List ℕ). l ++ drop 22 out) (laid_out-is f ∙ ap form_bytes is)

pub returns : goal.returns
returns c = of-event c.form_of.result c.args.e c.args.out.now c.form_of.ensures c.lay_out.ensures
