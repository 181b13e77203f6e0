-- The table of `oracle/README.md` by its numbers, row by row: what `asked_of` answers where the payload is as long as the row says.
use Rattle.std.specs.Prelude.{ℕ, ◌≡◌, false, List, length, get_or}
use Rattle.std.proofs.Math.Path.{refl}
use Rattle.std.specs.Float.Ieee.{is_nan}
use Rattle.numbers.specs.Tilt.{tilted_of}
use Rattle.rules.specs.declared.Hub.{Hub}
use Rattle.rules.specs.Forms.{field_of}
use Rattle.rules.specs.Repeat.{repeat_of}
use Rattle.rules.specs.Queries.{pressed_by_code, pressed_by_name, connected_of, value_by_code, value_by_name, threshold_by_code}
use Rattle.rules.specs.Queries.{button_by_code, button_by_name, axis_by_code, axis_by_name, name_by_code, code_by_name, down_of, lowest_pressed, old_of}
use Rattle.replay_answers.specs.declared.Asked.TheVariants as asked
use Rattle.replay_queries.specs.Asked.{repeated, stands, of_head, down, lowest, old, by_pad, state_by_code, by_code, by_name}
use Rattle.replay_queries.specs.Asked.{calculated, float_at, pair, since, queried, asked_of}

module _ (h : Hub) (s : List ℕ) where
  pub row-7 : length s ≡ 24 → asked_of h 7 s ≡ asked.Repeat (repeat_of h (field_of s 0 8) (field_of s 8 8) (field_of s 16 8))
  unfolding asked_of repeated
  row-7 long = rw long

  pub row-9 : asked_of h 9 s ≡ asked.Counter h.counter
  unfolding asked_of by_pad of_head
  row-9 = refl

  pub row-22 : length s ≡ 1 → asked_of h 22 s ≡ asked.Stands (connected_of h (get_or s 0 0))
  unfolding asked_of by_pad of_head stands
  row-22 long = rw long

  pub row-23 : asked_of h 23 s ≡ asked.Waiting h.waiting
  unfolding asked_of by_pad of_head
  row-23 = refl

  pub row-38 : length s ≡ 1 → asked_of h 38 s ≡ asked.Down (down_of h (get_or s 0 0))
  unfolding asked_of by_pad down
  row-38 long = rw long

  pub row-39 : length s ≡ 1 → asked_of h 39 s ≡ asked.Code (lowest_pressed h (get_or s 0 0))
  unfolding asked_of by_pad lowest
  row-39 long = rw long

  pub row-44 : length s ≡ 1 → asked_of h 44 s ≡ asked.Truth (old_of h (get_or s 0 0))
  unfolding asked_of by_pad old
  row-44 long = rw long

  -- pad 1, code 4
  module _ (long : length s ≡ 5) where
    pub row-11 : asked_of h 11 s ≡ asked.Truth (pressed_by_code h (get_or s 0 0) (field_of s 1 4))
    unfolding asked_of queried by_code state_by_code
    row-11 = rw long

    pub row-12 : asked_of h 12 s ≡ asked.Value (value_by_code h (get_or s 0 0) (field_of s 1 4))
    unfolding asked_of queried by_code state_by_code
    row-12 = rw long

    pub row-15 : asked_of h 15 s ≡ asked.Button (button_by_code h (get_or s 0 0) (field_of s 1 4))
    unfolding asked_of queried by_code state_by_code
    row-15 = rw long

    pub row-16 : asked_of h 16 s ≡ asked.Axis (axis_by_code h (get_or s 0 0) (field_of s 1 4))
    unfolding asked_of queried by_code state_by_code
    row-16 = rw long

    pub row-19 : asked_of h 19 s ≡ asked.Name (name_by_code h (get_or s 0 0) (field_of s 1 4))
    unfolding asked_of queried by_code state_by_code
    row-19 = rw long

    pub row-21 : asked_of h 21 s ≡ asked.Threshold (threshold_by_code h (get_or s 0 0) (field_of s 1 4))
    unfolding asked_of queried by_code state_by_code
    row-21 = rw long

    pub row-42 : asked_of h 42 s ≡ asked.Since (button_by_code h (get_or s 0 0) (field_of s 1 4))
    unfolding asked_of since
    row-42 = rw long

  -- pad 1, name 1
  module _ (long : length s ≡ 2) where
    pub row-13 : asked_of h 13 s ≡ asked.Truth (pressed_by_name h (get_or s 0 0) (get_or s 1 0))
    unfolding asked_of queried by_name
    row-13 = rw long

    pub row-14 : asked_of h 14 s ≡ asked.Value (value_by_name h (get_or s 0 0) (get_or s 1 0))
    unfolding asked_of queried by_name
    row-14 = rw long

    pub row-17 : asked_of h 17 s ≡ asked.Button (button_by_name h (get_or s 0 0) (get_or s 1 0))
    unfolding asked_of queried by_name
    row-17 = rw long

    pub row-18 : asked_of h 18 s ≡ asked.Axis (axis_by_name h (get_or s 0 0) (get_or s 1 0))
    unfolding asked_of queried by_name
    row-18 = rw long

    pub row-20 : asked_of h 20 s ≡ asked.Code (code_by_name h (get_or s 0 0) (get_or s 1 0))
    unfolding asked_of queried by_name
    row-20 = rw long

  -- x 4, y 4, threshold 4: three numbers
  module _ (long : length s ≡ 12) where
    pub row-41 : is_nan (float_at s 0) ≡ false → is_nan (float_at s 4) ≡ false → is_nan (float_at s 8) ≡ false
        → asked_of h 41 s ≡ asked.Pair (tilted_of (float_at s 0) (float_at s 4) (float_at s 8))
    unfolding asked_of pair calculated
    row-41 x y threshold = rw (long, x, y, threshold)
