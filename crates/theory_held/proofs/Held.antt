-- What a list of events tells of a record (`Told` of `specs/Held`) holds after any list: of no event there is no record, and each event more makes one step of the
-- law book's rule. By cases of the event.
use Rattle.std.specs.Prelude.{ℕ, ◌≡◌, Bool, true, false, cond, not, ◌&&◌, ◌||◌, List, [], ◌∷◌}
use Rattle.std.proofs.Math.Path.{refl, sym}
use Rattle.std.proofs.Common.{◌∙◌}
use Rattle.std.proofs.Math.Bool.{or-true, or-false}
use Rattle.rules.specs.declared.Event.{Event}
use Rattle.rules.specs.declared.EventType.{EventType}
use Rattle.rules.specs.declared.EventType.TheVariants.{Pressed, Released, Repeated, Changed, Axis, Connected, Disconnected, Dropped}
use Rattle.rules.specs.declared.ButtonData.{ButtonData}
use Rattle.rules.specs.State.{read_pressed, writes_button_type, writes_button, since_after, button_type, button_after}
use Rattle.theory_held.specs.Held.{Told, begun, held_since, pressed_by}

-- ---- the record

-- of no event there is no record, whatever stands in its place
pub told_none : (b : ButtonData) → Told [] false b
unfolding begun pressed_by held_since read_pressed
told_none b = record { begun-is = refl; pressed-is = refl; since-is = refl }

never_both : (x : Bool) → (x && not x) ≡ false
never_both true = refl
never_both false = refl

where-known : (known mark read : Bool) → (known && mark) ≡ read → cond known mark true ≡ cond known read true
where-known true mark read same = same
where-known false mark read same = refl

-- one event more
module _ (es : List Event) (known : Bool) (b : ButtonData) (w : Told es known b) where
  was : (known && b.pressed) ≡ pressed_by es
  was = unfold read_pressed in w.pressed-is

  -- a repeat reads pressed as before, or where it creates the record
  repeats : cond known b.pressed true ≡ cond (begun es) (pressed_by es) true
  repeats = rw (← w.begun-is) (where-known known b.pressed (pressed_by es) was)

  -- one that writes the record
  written : (e : Event) (after : ButtonData) → writes_button_type e.event ≡ true → after.pressed ≡ pressed_by (e ∷ es)
      → after.since ≡ since_after known b after.pressed e.time
      → Told (e ∷ es) true after
  unfolding begun pressed_by held_since read_pressed since_after
  written e after writes pressed since =
      record { begun-is = rw (writes, or-true); pressed-is = pressed; since-is = rw (since, w.since-is, pressed, was) }

  -- one that does not leaves it
  left : (e : Event) → writes_button_type e.event ≡ false → pressed_by (e ∷ es) ≡ pressed_by es → Told (e ∷ es) known b
  unfolding begun held_since
  left e none same =
      record { begun-is = rw (none, or-false) w.begun-is; pressed-is = w.pressed-is ∙ sym same; since-is = rw (same, never_both) w.since-is }

  more : (t : EventType) (pad time counter : ℕ)
      → Told (record { pad = pad; time = time; event = t } ∷ es) (known || writes_button_type t) (button_type t known b time counter)
  unfolding pressed_by begun
  more (Pressed n c) pad time counter = rw or-true (written _ _ refl refl refl)
  more (Released n c) pad time counter = rw or-true (written _ _ refl refl refl)
  more (Repeated n c) pad time counter = rw or-true (written _ _ refl repeats refl)
  more (Changed n c v) pad time counter = rw or-true (written _ _ refl was refl)
  more (Axis n c v) pad time counter = rw or-false (left _ refl refl)
  more Connected pad time counter = rw or-false (left _ refl refl)
  more Disconnected pad time counter = rw or-false (left _ refl refl)
  more Dropped pad time counter = rw or-false (left _ refl refl)

  pub told_more : (e : Event) (counter : ℕ) → Told (e ∷ es) (known || writes_button e) (button_after e known b counter)
  unfolding writes_button button_after
  told_more e counter = more e.event e.pad e.time counter
