-- A repeat that is fed back while its button is held changes no reading.
use Rattle.std.specs.Prelude.{ℕ, ◌<◌, Bool, true, false, cond, ◌&&◌, ◌||◌, List, ◌≡◌, eqb, Float}
use Rattle.std.proofs.Math.Path.{refl}
use Rattle.std.proofs.Common.{sym, ◌∙◌, ap, subst, eqb-true}
use Rattle.std.specs.Float.Ieee.{eq}
use Rattle.rules.specs.declared.Hub.{Hub}
use Rattle.rules.specs.declared.Event.{Event}
use Rattle.rules.specs.declared.EventType.TheVariants.{Repeated}
use Rattle.rules.specs.Names.{nowhere}
use Rattle.rules.specs.Places.{place_of}
use Rattle.rules.specs.Events.{code_of}
use Rattle.rules.specs.State.{read_pressed}
use Rattle.rules.specs.Hub.{pressed_at, has_axis_at}
use Rattle.rules.specs.Step.{updated_of, updated_at}
use Rattle.theory_calls.specs.Waiting.{waiting_list}
use Rattle.theory_history.specs.Lemmas.Cells.{Cell, cell_at, cell_pressed, cell_value, cell_type, hits, cell-after, hasaxis-after}
use Rattle.theory_history.specs.Lemmas.Turns.{ev}
use Rattle.theory_history.specs.Lemmas.Steps.{Ready}
use Rattle.theory_history.specs.Lemmas.Waits.{Sheet, sheet_of}
use Rattle.theory_history.specs.Lemmas.Served.{due}
use Rattle.theory_history.specs.Lemmas.Serve.{Tells}
use Rattle.theory_history.specs.Lemmas.Truth.{false-true}

-- a pressed button's record is there already
kept-pressed : (n c : ℕ) (known down : Bool) (v : Float) → (known && down) ≡ true
    → cell_type (Repeated n c) (record { known = known; pressed = down; value = v }) ≡ record { known = known; pressed = down; value = v }
kept-pressed n c true down v e = refl
kept-pressed n c false down v e = false-true e

module _ (h : Hub) (w : Ready h) (pad time n c : ℕ) (held : pressed_at h (place_of h.codes pad c) ≡ true) (k : ℕ) (inside : k < nowhere) where
  abbrev e : Event
  e = ev pad time (Repeated n c)

  on-place : place_of h.codes pad c ≡ k → cell_type (Repeated n c) (cell_at h k) ≡ cell_at h k
  unfolding cell_at pressed_at read_pressed
  on-place at = kept-pressed n c _ _ _ (ap (λ (j : ℕ). pressed_at h j) (sym at) ∙ held)

  same_by : (hit : Bool) → eqb (place_of h.codes pad c) k ≡ hit → cond hit (cell_type (Repeated n c) (cell_at h k)) (cell_at h k) ≡ cell_at h k
  same_by true at = on-place (eqb-true (place_of h.codes pad c) k at)
  same_by false at = refl

  pub repeat-cell : cell_at (updated_of true h e) k ≡ cell_at h k
  unfolding hits code_of
  repeat-cell = cell-after h e k w.long inside ∙ same_by (eqb (place_of h.codes pad c) k) refl

  pub repeat-hasaxis : has_axis_at h k ≡ false → has_axis_at (updated_of true h e) k ≡ false
  repeat-hasaxis still = hasaxis-after h e k w.long inside ∙ by (hits h.codes k e) (has_axis_at h k) still
    where
      by : (hit hasaxis : Bool) → hasaxis ≡ false → cond hit (hasaxis || false) hasaxis ≡ false
      by true true s = s
      by true false s = refl
      by false hasaxis s = s

pub update-sheet : (h : Hub) (e : Event) → sheet_of h ≡ sheet_of (updated_of true h e)
unfolding updated_of updated_at
update-sheet h e = refl

pub update-queue : (h : Hub) (e : Event) → waiting_list h ≡ waiting_list (updated_of true h e)
unfolding updated_of updated_at waiting_list
update-queue h e = refl

-- what a place tells stays
module _ (P : Float → Type 0) (alike : (a b : Float) → P a → P b → eq a b ≡ true → a ≡ b) (h : Hub) (w : Ready h) (k : ℕ) (inside : k < nowhere) (b : Bool) (v : Float) where
  abbrev Told : Hub → Type 0
  Told g = Tells P alike (sheet_of g) g k (waiting_list g) b v

  pub repeat-told : (pad time n c : ℕ) → pressed_at h (place_of h.codes pad c) ≡ true → Told h → Told (updated_of true h (ev pad time (Repeated n c)))
  repeat-told pad time n c held t =
      let cell = repeat-cell h w pad time n c held k inside in
      let hasaxis = repeat-hasaxis h w pad time n c held k inside t.still in
      subst (λ (s : Sheet). Tells P alike s (updated_of true h (ev pad time (Repeated n c))) k (waiting_list (updated_of true h (ev pad time (Repeated n c)))) b v)
      (update-sheet h (ev pad time (Repeated n c)))
      (subst (λ (q : List Event). Tells P alike (sheet_of h) (updated_of true h (ev pad time (Repeated n c))) k q b v) (update-queue h (ev pad time (Repeated n c)))
      (record {
        pressed = ap cell_pressed cell ∙ t.pressed;
        value = ap (λ (x : Cell). due (sheet_of h) k (waiting_list h) (cell_value x)) cell ∙ t.value;
        proper = subst P (sym (ap cell_value cell)) t.proper;
        still = hasaxis;
        waits = t.waits;
      }))
