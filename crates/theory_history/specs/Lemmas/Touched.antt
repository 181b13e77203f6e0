-- Whatever is played: where a button's record is there, the lookup of the place's code finds the place. The places past a pad's last repeat its code,
-- so this does not hold of every place; but a record comes only to a place that a lookup answered, and registration of the next pad leaves the other
-- pads' codes alone. By induction on the calls.
use Rattle.std.specs.Prelude.{ℕ, zero, suc, ◌*◌, ◌/◌, ◌<◌, Bool, List, ◌≡◌, eqb, Float, get_or}
use Rattle.std.proofs.Math.Bool.{true, false}
use Rattle.std.proofs.Math.Path.{refl}
use Rattle.std.proofs.Common.{sym, ◌∙◌, ap, get_or-set_other, arith}
use borrow.Author.Tests.{eqb-true, eqb-false}
use Rattle.rules.specs.declared.Hub.{Hub}
use Rattle.rules.specs.declared.Event.{Event}
use Rattle.rules.specs.declared.EventForm.{EventForm}
use Rattle.rules.specs.declared.NextRecord.{NextRecord}
use Rattle.rules.specs.declared.RawRecord.{RawRecord}
use Rattle.rules.specs.Names.{places_per_pad, nowhere}
use Rattle.rules.specs.Refusals.{thresholds_refusal}
use Rattle.rules.specs.Events.{code_of, form_event}
use Rattle.rules.specs.Hub.{place_in, has_button_at}
use Rattle.rules.specs.Step.{marks_cleared, marked_of, pushed_of, filtered_hub, taken_of, updated_at, updated_of, step_event, step_hub}
use Rattle.rules.specs.Calls.{fresh_hub, new_by, new_of, registered_at, register_refusal, register_by, register_as, update_form_by, counted_at, inc_of, reset_of}
use Rattle.pad.specs.Lookup.{place-stands}
use Rattle.theory_registered.specs.Converts.{place_same}
use Rattle.theory_registered.specs.Columns.{either-taken}
use Rattle.theory_registered.specs.Pads.{Desk}
use Rattle.theory_registered.proofs.Pads.{reached-desk}
use Rattle.theory_history.specs.Lemmas.Cells.{Long}
use Rattle.theory_history.specs.Lemmas.Marks.{all_same, still-there}
use Rattle.theory_history.specs.Lemmas.Truth.{false-true}
use Rattle.theory_history.specs.Lemmas.Steps.{look, look_at}
use Rattle.theory_history.specs.Lemmas.Register.{next, same_codes, new-hasbutton}
use Rattle.theory_history.specs.Played.{Played, fresh, register, take, serve, inc, reset, repeat, reached, ready, refusal, update-is}

pub record Found (h : Hub) : Type 0 where
  pub at : (k : ℕ) → k < nowhere → has_button_at h k ≡ true → place_in h (k / places_per_pad) (get_or h.codes k 0) ≡ k

-- ---- the calls that make no record

fewer : (h g : Hub) → g.codes ≡ h.codes → ((k : ℕ) → has_button_at g k ≡ true → has_button_at h k ≡ true) → Found h → Found g
fewer h g codes was f = record { at = λ k inside up. rw codes (f.at k inside (was k up)) }

fresh-found : (number : ℕ) (pressed released : Float) (reversed : Bool) → number ≡ 0
    → Found (new_by number (fresh_hub pressed released reversed true true)).hub
unfolding fresh_hub
fresh-found zero pressed released reversed e = record { at = λ k inside up. false-true (sym (all_same nowhere k false) ∙ up) }
fresh-found (suc number) pressed released reversed e = absurd (omega arith)

counted-found : (h : Hub) (n : ℕ) → Found h → Found (counted_at h n)
unfolding counted_at
counted-found h n f = fewer h _ refl (λ k up. up) f

-- ---- registration

module _ (h : Hub) (s : List ℕ) (desk : Desk h) (ok : register_refusal true h.pads s ≡ 0) (long : Long h) (f : Found h) where
  abbrev then : Hub
  then = next h s desk ok

  was-hasbutton : (k : ℕ) → has_button_at then k ≡ true → has_button_at h k ≡ true
  unfolding registered_at
  was-hasbutton k up = still-there places_per_pad h.hasbutton (places_per_pad * h.pads) k up

  register-at : (k : ℕ) → k < nowhere → has_button_at then k ≡ true → (new : Bool) → eqb (k / places_per_pad) h.pads ≡ new
      → place_in then (k / places_per_pad) (get_or then.codes k 0) ≡ k
  register-at k inside up true e = false-true (sym (new-hasbutton h s desk ok k (eqb-true (k / places_per_pad) h.pads e) long) ∙ up)
  register-at k inside up false e =
      let same = same_codes h s desk ok (k / places_per_pad) (eqb-false (k / places_per_pad) h.pads e) in
      ap (λ (c : ℕ). place_in then (k / places_per_pad) c) (same.at k 0 (omega arith) (omega arith))
      ∙ (place_same then.codes h.codes (k / places_per_pad) (get_or h.codes k 0) same ∙ f.at k inside (was-hasbutton k up))

register-found : (number : ℕ) (h : Hub) (s : List ℕ) → Desk h → Long h → (archived : Bool) → register_refusal archived h.pads s ≡ number → Found h
    → Found (register_by number h s).hub
register-found zero h s desk long archived taken f =
    let ok = either-taken archived h.pads s taken in
    record { at = λ k inside up. register-at h s desk ok long f k inside up (eqb (k / places_per_pad) h.pads) refl }
register-found (suc number) h s desk long archived taken f = f

-- ---- an event writes the place that the lookup of its code answers

module _ (on : Bool) (h : Hub) (e : Event) (f : Found h) where
  abbrev written : ℕ
  written = place_in h e.pad (code_of e)

  update-at : (k : ℕ) → k < nowhere → has_button_at (updated_of on h e) k ≡ true → (own : Bool) → eqb k written ≡ own
      → place_in h (k / places_per_pad) (get_or h.codes k 0) ≡ k
  unfolding updated_of updated_at
  update-at k inside up true own =
      let here = eqb-true k written own in
      let stands = place-stands h.codes e.pad (code_of e) (omega arith) in
      rw (here, stands.own, stands.has)
  update-at k inside up false own = f.at k inside (sym (get_or-set_other h.hasbutton written k _ false (eqb-false k written own)) ∙ up)

  update_found : Found (updated_of on h e)
  update_found = record { at = λ k inside up. unfold updated_of updated_at in update-at k inside up (eqb k written) refl }

form-found : (number : ℕ) (h : Hub) (g : EventForm) → Found h → Found (update_form_by number h g).hub
form-found zero h g f = update_found true h (form_event g) f
form-found (suc number) h g f = f

step-found : (h : Hub) (l : NextRecord) → Found h → Found (step_hub h l)
unfolding step_hub filtered_hub pushed_of marked_of
step-found h l f =
    update_found h.updates (filtered_hub (marked_of h l.raw) (taken_of h l)) (step_event h l)
    (fewer h _ refl (λ k up. still-there (marks_cleared l.raw.kind places_per_pad) h.hasbutton (places_per_pad * l.raw.pad) k up) f)

-- ---- whatever is played

pub found : {h : Hub} {rs : List RawRecord} → Played h rs → Found h
unfolding new_of register_as inc_of reset_of
found (fresh pressed released reversed ok) = fresh-found (thresholds_refusal pressed released) pressed released reversed ok
found (register {h} archived sheet w) =
    register-found (register_refusal archived h.pads sheet) h sheet (reached-desk (reached w)) (ready w).long archived refl (found w)
found (take {h} r none ok w) = step-found h (look_at r) (found w)
found (serve {h} some w) = step-found h look (found w)
found (inc {h} w) = counted-found h _ (found w)
found (reset {h} w) = counted-found h 0 (found w)
found (repeat {h} bytes is w) = rw (update-is h bytes is) (form-found (refusal h bytes is) h is.form (found w))
