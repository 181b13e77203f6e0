-- Whatever is played, by induction on the calls: what holds of a pad if each call keeps it, and what is told by a pad's records before it is registered.
use Rattle.std.specs.Prelude.{ℕ, zero, suc, ◌<◌, ◌≤◌, Bool, true, false, List, [], ◌∷◌, ◌≡◌, ltb, Float}
use Rattle.std.proofs.Math.Path.{refl, ap, subst}
use Rattle.std.proofs.Common.{sym, ◌∙◌, arith, ltb-true, ltb-false}
use Rattle.rules.specs.declared.Hub.{Hub}
use Rattle.rules.specs.declared.EventForm.{EventForm}
use Rattle.rules.specs.declared.EventType.{EventType}
use Rattle.rules.specs.declared.EventType.TheVariants.{Repeated}
use Rattle.rules.specs.declared.RawRecord.{RawRecord}
use Rattle.rules.specs.Places.{place_of}
use Rattle.rules.specs.Refusals.{thresholds_refusal}
use Rattle.rules.specs.Events.{form_event}
use Rattle.rules.specs.State.{next_counter}
use Rattle.rules.specs.Hub.{pressed_at}
use Rattle.rules.specs.Step.{updated_of, step_hub}
use Rattle.rules.specs.Calls.{fresh_hub, new_by, new_of, register_refusal, registered_at, register_by, register_as, update_form_by, counted_at, inc_of, reset_of}
use Rattle.theory_registered.specs.Columns.{either-taken}
use Rattle.theory_registered.proofs.Pads.{reached-desk}
use Rattle.theory_history.specs.Lemmas.Turns.{ev}
use Rattle.theory_history.specs.Lemmas.Steps.{look, look_at}
use Rattle.theory_history.specs.Lemmas.Accepted.{Good, good}
use Rattle.theory_history.specs.Played.{Played, fresh, register, take, serve, inc, reset, repeat, reached, refusal, update-is}
use Rattle.theory_history.specs.Lemmas.Register.{pads-are}
use Rattle.theory_history.specs.Lemmas.Sorts.{Same, step_same, counted_same, update_same}

-- a hub with one pad more
abbrev pub grown : Hub → List ℕ → Hub
grown h s = (register_by 0 h s).hub

fresh-empty : (number : ℕ) (pressed released : Float) (reversed : Bool) (p : ℕ) → number ≡ 0
    → p < (new_by number (fresh_hub pressed released reversed true true)).hub.pads → ⊥
unfolding fresh_hub
fresh-empty zero pressed released reversed p e old = omega arith
fresh-empty (suc number) pressed released reversed p e old = omega arith

pub form-same : (number : ℕ) (h : Hub) (f : EventForm) → Same h (update_form_by number h f).hub
form-same zero h f = update_same h (form_event f)
form-same (suc number) h f =
    record { pads = refl; codes = refl; kinds = refl; names = refl; elements = refl; converts = refl; pressed = refl; released = refl; reversed = refl }

-- On: what is asked of the pad. Holds: what is so of a hub and the records that were taken
module _ (p : ℕ) (On : Hub → Type 0) (Holds : Hub → List RawRecord → Type 0) where
  pub record Keeps : Type 0 where
    -- only its registration makes a pad what is asked
    pub pad : (h : Hub) → On h → p < h.pads
    pub back : (h g : Hub) → Same h g → On g → On h
    pub before : (h : Hub) (rs : List RawRecord) → Played h rs → (s : List ℕ) → register_refusal true h.pads s ≡ 0 → p < h.pads → On (grown h s) → On h
    -- each call
    pub newer : (h : Hub) (rs : List RawRecord) → Played h rs → (s : List ℕ) → register_refusal true h.pads s ≡ 0 → p ≡ h.pads → On (grown h s)
        → Holds (grown h s) rs
    pub older : (h : Hub) (rs : List RawRecord) → Played h rs → (s : List ℕ) → register_refusal true h.pads s ≡ 0 → p < h.pads → On h → Holds h rs
        → Holds (grown h s) rs
    pub takes : (h : Hub) (rs : List RawRecord) → Played h rs → (r : RawRecord) → h.waiting ≡ 0 → Good h r → On h → Holds h rs
        → Holds (step_hub h (look_at r)) (r ∷ rs)
    pub serves : (h : Hub) (rs : List RawRecord) → Played h rs → 0 < h.waiting → On h → Holds h rs → Holds (step_hub h look) rs
    pub counts : (h : Hub) (rs : List RawRecord) (m : ℕ) → Holds h rs → Holds (counted_at h m) rs
    pub repeats : (h : Hub) (rs : List RawRecord) → Played h rs → (pad time n c : ℕ) → pressed_at h (place_of h.codes pad c) ≡ true → On h → Holds h rs
        → Holds (updated_of true h (ev pad time (Repeated n c))) rs

  module _ (keeps : Keeps) where
    register-by : (number : ℕ) (h : Hub) (rs : List RawRecord) → Played h rs → (archived : Bool) (s : List ℕ) → register_refusal archived h.pads s ≡ number
        → (On h → Holds h rs) → On (register_by number h s).hub → Holds (register_by number h s).hub rs
    register-by zero h rs w archived s taken held on = by (ltb p h.pads) refl
      where
        ok : register_refusal true h.pads s ≡ 0
        ok = either-taken archived h.pads s taken

        by : (old : Bool) → ltb p h.pads ≡ old → Holds (grown h s) rs
        by true l =
            let old = ltb-true p h.pads l in
            let before = keeps.before h rs w s ok old on in
            keeps.older h rs w s ok old before (held before)
        by false l =
            let past = ltb-false p h.pads l in
            let inside = keeps.pad (grown h s) on in
            keeps.newer h rs w s ok (omega (arith, pads-are h s (reached-desk (reached w)) ok)) on
    register-by (suc number) h rs w archived s taken held on = held on

    form-by : (number : ℕ) (h : Hub) (rs : List RawRecord) → Played h rs → (f : EventForm) (n c : ℕ) → (form_event f).event ≡ Repeated n c
        → pressed_at h (place_of h.codes (form_event f).pad c) ≡ true → On h → Holds h rs → Holds (update_form_by number h f).hub rs
    form-by zero h rs w f n c is down on held =
        subst (λ (t : EventType). Holds (updated_of true h (ev (form_event f).pad (form_event f).time t)) rs) (sym is)
        (keeps.repeats h rs w (form_event f).pad (form_event f).time n c down on held)
    form-by (suc number) h rs w f n c is down on held = held

    pub kept : {h : Hub} {rs : List RawRecord} → Played h rs → On h → Holds h rs
    unfolding new_of register_as inc_of reset_of
    kept (fresh pressed released reversed ok) on =
        absurd (fresh-empty (thresholds_refusal pressed released) pressed released reversed p ok (keeps.pad _ on))
    kept (register {h} {rs} archived sheet w) on = register-by (register_refusal archived h.pads sheet) h rs w archived sheet refl (λ before. kept w before) on
    kept (take {h} {rs} r none ok w) on =
        let before = keeps.back h (step_hub h (look_at r)) (step_same h (look_at r)) on in
        keeps.takes h rs w r none (good h r ok) before (kept w before)
    kept (serve {h} {rs} some w) on =
        let before = keeps.back h (step_hub h look) (step_same h look) on in
        keeps.serves h rs w some before (kept w before)
    kept (inc {h} {rs} w) on =
        let m = next_counter h.counter in
        keeps.counts h rs m (kept w (keeps.back h (counted_at h m) (counted_same h m) on))
    kept (reset {h} {rs} w) on = keeps.counts h rs 0 (kept w (keeps.back h (counted_at h 0) (counted_same h 0) on))
    kept (repeat {h} {rs} bytes fed w) on =
        let number = refusal h bytes fed in
        subst (λ (g : Hub). On g → Holds g rs) (sym (update-is h bytes fed))
        (λ after.
        let before = keeps.back h (update_form_by number h fed.form).hub (form-same number h fed.form) after in
        form-by number h rs w fed.form fed.name fed.code fed.is fed.held before (kept w before))
        on

-- ---- before a pad is registered none of its records is taken

register-more : (number : ℕ) (h : Hub) (s : List ℕ) → h.pads ≤ (register_by number h s).hub.pads
unfolding registered_at
register-more zero h s = omega arith
register-more (suc number) h s = omega arith

module _ {A : Type 0} (p : ℕ) (told : List RawRecord → A)
    (foreign : (r : RawRecord) (rs : List RawRecord) → (r.pad ≡ p → ⊥) → told (r ∷ rs) ≡ told rs) where
  pub unseen : {h : Hub} {rs : List RawRecord} → Played h rs → h.pads ≤ p → told rs ≡ told []
  unfolding register_as inc_of reset_of counted_at
  unseen (fresh pressed released reversed ok) past = refl
  unseen (register {h} archived sheet w) past =
      let more = register-more (register_refusal archived h.pads sheet) h sheet in
      unseen w (omega arith)
  unseen (take {h} {rs} r none ok w) past =
      let pads = (step_same h (look_at r)).pads in
      let old = (good h r ok).pad in
      foreign r rs (λ e. omega arith) ∙ unseen w (omega arith)
  unseen (serve {h} some w) past =
      let pads = (step_same h look).pads in
      unseen w (omega arith)
  unseen (inc w) past = unseen w past
  unseen (reset w) past = unseen w past
  unseen (repeat {h} bytes is w) past =
      let pads = ap (λ (g : Hub). g.pads) (update-is h bytes is) ∙ (form-same (refusal h bytes is) h is.form).pads in
      unseen w (omega arith)
