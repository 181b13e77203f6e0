-- What repeat comes to, by what its parts answer: refused, quiet, or an event. By putting equals for equals.
use Rattle.std.specs.Prelude.{ℕ, zero, suc, ◌≤◌, ◌<◌, ◌/◌, ◌≡◌, refl, Bool, get_or, ltb, Err, None, Ok, Some}
use borrow.Author.Tests.{lt-ltb, le-ltb}
use Rattle.rules.specs.declared.Hub.{Hub}
use Rattle.rules.specs.declared.Event.{Event}
use Rattle.rules.specs.declared.Refusal.{Refusal}
use Rattle.rules.specs.Names.{places_per_pad, nowhere}
use Rattle.rules.specs.Refusals.{repeat_refusal, numbered, judged}
use Rattle.rules.specs.Hub.{name_in, button_at}
use Rattle.rules.specs.Repeat.{due_place, repeated_of, repeated_at, repeat_by, repeat_of}
use Rattle.refusals.specs.Judged.{served, stopped}

repeat-stops : (n : ℕ) (found : Bool) (e : Event) → (n ≡ 0 → ⊥) → Err (numbered n) ≡ repeat_by n found e
repeat-stops zero found e some = absurd (some refl)
repeat-stops (suc n) found e some = refl

module _ (h : Hub) (after every clock : ℕ) where
  pub repeat-refused : {refusal : Refusal} → Err refusal ≡ judged (repeat_refusal after every clock) → Err refusal ≡ repeat_of h after every clock
  unfolding repeat_of
  repeat-refused e =
      stopped (λ (n : ℕ). repeat_by n (ltb (due_place h after every clock) nowhere) (repeated_at h (due_place h after every clock) after every)) Err
      (λ (n : ℕ). refl) (repeat_refusal after every clock) e

  module _ (taken : Ok tt ≡ judged (repeat_refusal after every clock)) {place : ℕ} (found : place ≡ due_place h after every clock) where
    pub repeat-quiet : nowhere ≤ place → Ok None ≡ repeat_of h after every clock
    unfolding repeat_of
    repeat-quiet past = rw (served (repeat_refusal after every clock) taken, ← found, le-ltb _ _ past)

    pub repeat-due :
        {name code : ℕ} {e : Event} →
        place < nowhere →
        name ≡ name_in h (place / places_per_pad) place →
        code ≡ get_or h.codes place 0 →
        e ≡ repeated_of (place / places_per_pad) name code (button_at h place) after every →
        Ok (Some e) ≡ repeat_of h after every clock
    unfolding repeat_of repeated_at
    repeat-due stands named coded gives =
        rw (served (repeat_refusal after every clock) taken, ← found, lt-ltb _ _ stands, gives, named, coded)
