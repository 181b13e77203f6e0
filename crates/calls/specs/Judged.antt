-- What update and insert_event come to, by what their parts answer: bytes that are no event, an event that is refused, and one that is done.
use Rattle.std.specs.Prelude.{ℕ, zero, suc, true, ◌≡◌, refl, List, None, Some, Err, Ok}
use Rattle.refusals.specs.Judged.{served, stopped}
use Rattle.rules.specs.declared.Hub.{Hub}
use Rattle.rules.specs.declared.Event.{Event}
use Rattle.rules.specs.declared.EventForm.{EventForm}
use Rattle.rules.specs.declared.Answered.{Answered}
use Rattle.rules.specs.declared.Refusal.{Refusal}
use Rattle.rules.specs.Forms.{read_event}
use Rattle.rules.specs.Events.{form_event}
use Rattle.rules.specs.Refusals.{form_refusal, insert_refusal, numbered, judged}
use Rattle.rules.specs.Step.{updated_of}
use Rattle.rules.specs.Calls.{form_place, update_form_by, update_of, insert_form_by, inserted_at, insert_of}

-- a refused call, with the hub as it was
abbrev refused_by : Hub → Refusal → Answered
refused_by h refusal = record { hub = h; answer = Err refusal }

abbrev done_with : Hub → Answered
done_with g = record { hub = g; answer = Ok tt }

-- ---- an event that is read, by its refusal's number

unfoldable pub update_form : Hub → EventForm → Answered
update_form h f = update_form_by (form_refusal f h.pads (form_place h f)) h f

update-stops : (n : ℕ) (h : Hub) (f : EventForm) → (n ≡ 0 → ⊥) → refused_by h (numbered n) ≡ update_form_by n h f
update-stops zero h f some = absurd (some refl)
update-stops (suc n) h f some = refl

module _ (h : Hub) (f : EventForm) {place number : ℕ} (found : place ≡ form_place h f) (told : number ≡ form_refusal f h.pads place) where
  pub update_form-refused : (number ≡ 0 → ⊥) → refused_by h (numbered number) ≡ update_form h f
  unfolding update_form
  update_form-refused some = rw (← found, ← told) (update-stops number h f some)

  pub update_form-done : {e : Event} {g : Hub} → number ≡ 0 → e ≡ form_event f → g ≡ updated_of true h e → done_with g ≡ update_form h f
  unfolding update_form
  update_form-done none is written = rw (← found, ← told, none, written, is)

unfoldable pub insert_form : Hub → EventForm → Answered
insert_form h f = insert_form_by (insert_refusal f h.pads (form_place h f) h.waiting) h f

insert-stops : (n : ℕ) (h : Hub) (f : EventForm) → (n ≡ 0 → ⊥) → refused_by h (numbered n) ≡ insert_form_by n h f
insert-stops zero h f some = absurd (some refl)
insert-stops (suc n) h f some = refl

module _ (h : Hub) (f : EventForm) {place number : ℕ} (found : place ≡ form_place h f) (told : number ≡ insert_refusal f h.pads place h.waiting) where
  pub insert_form-refused : (number ≡ 0 → ⊥) → refused_by h (numbered number) ≡ insert_form h f
  unfolding insert_form
  insert_form-refused some = rw (← found, ← told) (insert-stops number h f some)

  pub insert_form-done : {e : Event} {g : Hub} → number ≡ 0 → e ≡ form_event f → g ≡ inserted_at h e → done_with g ≡ insert_form h f
  unfolding insert_form
  insert_form-done none is waits = rw (← found, ← told, none, waits, is)

-- ---- a call, by what its parts answer

module _ (h : Hub) (s : List ℕ) where
  pub update-malformed : None ≡ read_event s → refused_by h (numbered 8) ≡ update_of h s
  unfolding update_of
  update-malformed read = rw (← read) refl

  pub insert-malformed : None ≡ read_event s → refused_by h (numbered 8) ≡ insert_of h s
  unfolding insert_of
  insert-malformed read = rw (← read) refl

  module _ {f : EventForm} {place : ℕ} (read : Some f ≡ read_event s) (found : place ≡ form_place h f) where
    pub update-refused : {refusal : Refusal} → Err refusal ≡ judged (form_refusal f h.pads place) → refused_by h refusal ≡ update_of h s
    unfolding update_of
    update-refused e =
        rw (← read, ← found) (stopped (λ (n : ℕ). update_form_by n h f) (refused_by h) (λ (n : ℕ). refl) (form_refusal f h.pads place) e)

    pub update-done :
        {e : Event} {g : Hub} → Ok tt ≡ judged (form_refusal f h.pads place) → e ≡ form_event f → g ≡ updated_of true h e → done_with g ≡ update_of h s
    unfolding update_of
    update-done taken is written = rw (← read, ← found, served (form_refusal f h.pads place) taken, written, is)

    pub insert-refused : {refusal : Refusal} → Err refusal ≡ judged (insert_refusal f h.pads place h.waiting) → refused_by h refusal ≡ insert_of h s
    unfolding insert_of
    insert-refused e =
        rw (← read, ← found)
        (stopped (λ (n : ℕ). insert_form_by n h f) (refused_by h) (λ (n : ℕ). refl) (insert_refusal f h.pads place h.waiting) e)

    pub insert-done :
        {e : Event} {g : Hub} →
        Ok tt ≡ judged (insert_refusal f h.pads place h.waiting) →
        e ≡ form_event f →
        g ≡ inserted_at h e →
        done_with g ≡ insert_of h s
    unfolding insert_of
    insert-done taken is waits = rw (← read, ← found, served (insert_refusal f h.pads place h.waiting) taken, waits, is)
