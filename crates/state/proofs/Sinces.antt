-- Since when a button is held, by the kind of event: what the law book's one rule comes to where the record reads pressed with the event as that kind leaves it.
use Rattle.std.specs.Prelude.{◌≡◌, refl, Bool, true, false, cond, not, ◌&&◌, ℕ}
use Rattle.rules.specs.declared.ButtonData.{ButtonData}
use Rattle.rules.specs.State.{read_pressed, since_after}

-- the rule over a mark and a time
by-press : (known mark : Bool) (since time : ℕ) → cond (known && mark) since time ≡ cond (not (known && mark)) time (cond known since 0)
by-press true true since time = refl
by-press true false since time = refl
by-press false mark since time = refl

by-repeat : (known mark : Bool) (since time : ℕ) → cond known since time ≡ cond (cond known mark true && not (known && mark)) time (cond known since 0)
by-repeat true true since time = refl
by-repeat true false since time = refl
by-repeat false mark since time = refl

by_value : (known mark : Bool) (since time : ℕ) → cond known since 0 ≡ cond ((known && mark) && not (known && mark)) time (cond known since 0)
by_value true true since time = refl
by_value true false since time = refl
by_value false mark since time = refl

module _ (known : Bool) (b : ButtonData) (time : ℕ) where
  -- a press sets it where the record does not read pressed
  pub press-since : cond (read_pressed known b) b.since time ≡ since_after known b true time
  unfolding since_after read_pressed
  press-since = by-press known b.pressed b.since time

  -- a repeat sets it where it creates the record
  pub repeat-since : cond known b.since time ≡ since_after known b (cond known b.pressed true) time
  unfolding since_after read_pressed
  repeat-since = by-repeat known b.pressed b.since time

  -- a release and a value keep it, and a new record has 0
  pub release-since : cond known b.since 0 ≡ since_after known b false time
  unfolding since_after
  release-since = refl

  pub value-since : cond known b.since 0 ≡ since_after known b (known && b.pressed) time
  unfolding since_after read_pressed
  value-since = by_value known b.pressed b.since time
