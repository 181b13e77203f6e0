-- A place without a deadzone, such as an unlisted direction's: what it holds once all that waits is written, one event after the other as they are. A step
-- from the queue does not change it, since what it serves goes out as it waited.
use Rattle.std.specs.Prelude.{ℕ, Bool, true, cond, ◌&&◌, List, [], ◌∷◌, ◌++◌, ◌≡◌, refl, get_or}
use Rattle.std.proofs.Math.Bool.{false}
use Rattle.std.proofs.Common.{◌∙◌, ap}
use Rattle.std.proofs.Math.Dec.{eqb}
use borrow.Author.Tests.{eqb-true}
use Rattle.rules.specs.declared.Event.{Event}
use Rattle.rules.specs.declared.EventType.TheVariants.{Pressed, Released, Changed, Axis}
use Rattle.rules.specs.declared.View.{View}
use Rattle.rules.specs.Sheets.{element_axis}
use Rattle.rules.specs.Places.{place_of}
use Rattle.rules.specs.Events.{code_of}
use Rattle.theory_history.specs.Lemmas.Cells.{Cell, cell_pressed, cell_type, hits}
use Rattle.theory_history.specs.Lemmas.Turns.{ev, out_of, plain_out, unzoned-out}
use Rattle.theory_history.specs.Lemmas.Waits.{Sheet, axial_at, All, empty, more, Fit, press, release, change, stick, stick-apart}
use Rattle.theory_history.specs.Lemmas.Exact.{Sees, put_at, moves_at, Apart, down-either, stays}
use Rattle.theory_history.specs.Lemmas.Views.{sees}

-- ---- events written one after the other

unfoldable pub writes : Sheet → ℕ → List Event → Cell → Cell
writes s k [] x = x
writes s k (e ∷ es) x = writes s k es (put_at s k e x)

-- two places, such as opposite directions', that are never pressed together while the events are written
unfoldable pub Never : Sheet → ℕ → ℕ → List Event → Cell → Cell → Type 0
Never s j k [] x y = (cell_pressed x && cell_pressed y) ≡ false
Never s j k (e ∷ es) x y = ((cell_pressed x && cell_pressed y) ≡ false) × Never s j k es (put_at s j e x) (put_at s k e y)

pub writes_more : (s : Sheet) (k : ℕ) (xs : List Event) {ys : List Event} (x : Cell) → All (Apart s k) ys → writes s k (xs ++ ys) x ≡ writes s k xs x
unfolding writes
writes_more s k [] x empty = refl
writes_more s k [] x (more {e} {es} a rest) =
    ap (λ (hit : Bool). writes s k es (cond hit (cell_type e.event x) x)) a.apart ∙ writes_more s k [] x rest
writes_more s k (e ∷ xs) x apart = writes_more s k xs (put_at s k e x) apart

pub never-now : (s : Sheet) (j k : ℕ) (q : List Event) (x y : Cell) → Never s j k q x y → (cell_pressed x && cell_pressed y) ≡ false
unfolding Never
never-now s j k [] x y n = n
never-now s j k (e ∷ q) x y n = n.0

pub never-more : (s : Sheet) (j k : ℕ) (xs : List Event) {ys : List Event} (x y : Cell) → All (Apart s j) ys → All (Apart s k) ys → Never s j k xs x y
    → Never s j k (xs ++ ys) x y
unfolding Never
never-more s j k [] x y empty empty n = n
never-more s j k [] x y (more a as') (more b bs) n = (n, rw (a.apart, b.apart) (never-more s j k [] x y as' bs n))
never-more s j k (e ∷ xs) x y a b n = (n.0, never-more s j k xs (put_at s j e x) (put_at s k e y) a b n.1)

-- ---- an event that waits goes out as it is, for a place without a deadzone

module _ (s : Sheet) (k : ℕ) (bare : axial_at s k ≡ false) (whole : eqb (get_or s.kinds k 0) element_axis ≡ false) (v : View) where
  -- what goes out does to the place what the event would
  pub record Exactly (e : Event) : Type 0 where
    pub cell : (x : Cell) → put_at s k (out_of v e) x ≡ put_at s k e x
    pub still : moves_at s k (out_of v e) ≡ false

  -- of another place
  away-exactly : (e : Event) → Fit s e → Sees s e v → hits s.codes k e ≡ false → Exactly e
  away-exactly e fit sees apart =
      let a = stays s k bare v fit apart sees in
      record { cell = λ x. a.0 x ∙ rw apart; still = a.1 }

  pub exactly : (e : Event) → Fit s e → Sees s e v → Exactly e
  exactly e (press {pad} {time} {n} {c} i) seen =
      let o = plain_out v pad time (Pressed n c) refl in
      record { cell = λ x. rw o; still = rw o (down-either (hits s.codes k (ev pad time (Pressed n c)))) }
  exactly e (release {pad} {time} {n} {c} i) seen =
      let o = plain_out v pad time (Released n c) refl in
      record { cell = λ x. rw o; still = rw o (down-either (hits s.codes k (ev pad time (Released n c)))) }
  exactly e (change {pad} {time} {n} {c} {z} i) seen = by (hits s.codes k (ev pad time (Changed n c z))) refl
    where
      undead : place_of s.codes pad c ≡ k → v.dead ≡ false
      undead here =
          let dead : v.dead ≡ eqb (get_or s.kinds (place_of s.codes pad c) 0) element_axis = unfold code_of in seen.dead in
          dead ∙ (ap (λ (j : ℕ). eqb (get_or s.kinds j 0) element_axis) here ∙ whole)

      by : (hit : Bool) → hits s.codes k (ev pad time (Changed n c z)) ≡ hit → Exactly (ev pad time (Changed n c z))
      by true hit =
          let here : place_of s.codes pad c ≡ k = unfold hits code_of in eqb-true (place_of s.codes pad c) k hit in
          let o = unzoned-out v pad time n c z (undead here) in
          record { cell = λ x. rw o; still = rw o (down-either (hits s.codes k (ev pad time (Changed n c z)))) }
      by false apart = away-exactly (ev pad time (Changed n c z)) (change i) seen apart
  exactly e (stick {pad} {time} {n} {c} {z} i axial free) seen =
      away-exactly (ev pad time (Axis n c z)) (stick i axial free) seen (stick-apart s k pad time n c z bare axial)
