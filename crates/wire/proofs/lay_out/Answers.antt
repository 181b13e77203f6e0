-- `wire::lay_out` meets its contract: behind the last part that is written the buffer is as it was, and `Bytes` says that the form's bytes are those laid out of the
-- swapped numbers.
use Rattle.std.proofs.Common.{◌≡◌, List, ℕ, ◌++◌, drop, refl, sym, ap, ◌∙◌, div-one, drop-drop}
use Rattle.rules.specs.declared.EventForm.{EventForm}
use Rattle.rules.specs.Forms.{bytes_of, form_bytes}
use Rattle.wire.specs.Bytes.{swapped_of, laid_out, laid_out-is}
use Rattle.wire.proofs.lay_out.Goals as goal

behind : (out : List ℕ) → drop 8 (drop 4 (drop 4 (drop 6 out))) ≡ drop 22 out
behind out = rw (drop-drop 4 6 out, drop-drop 4 10 out, drop-drop 8 14 out) refl

as-laid : (f : EventForm) (out : List ℕ) {bytes : List ℕ} → bytes ≡ form_bytes f ++ drop 22 out
    → bytes ≡ laid_out f.kind f.pad f.name (swapped_of 8 f.code) (swapped_of 8 f.bits) (swapped_of 8 f.time) ++ drop 22 out
as-laid f out is = is ∙ ap (λ (l : List ℕ). l ++ drop 22 out) (sym (laid_out-is f))

pub returns : goal.returns
unfolding form_bytes bytes_of
returns c =
    as-laid c.args.form c.args.out.now (rw (
      c.copy_from_slice.ensures.after,
      c.copy_from_slice-2.ensures.after,
      c.copy_from_slice-3.ensures.after,
      c.copy_from_slice-4.ensures.after,
      c.to_be_bytes.ensures,
      c.to_be_bytes-2.ensures,
      c.to_be_bytes-3.ensures,
      behind c.args.out.now,
    ) (simp div-one refl))
