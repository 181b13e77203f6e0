-- Hats by their names and the codes of their directions: different hats have different directions.
use Rattle.std.specs.Prelude.{ℕ, Bool, true, false, cond, ◌&&◌, ◌||◌, ◌≡◌, refl, eqb, get_or}
use Rattle.std.proofs.Common.{sym, ◌∙◌, arith, eqb-true}
use Rattle.rules.specs.Names.{is_axis, is_button, is_hat, dpad_x, dpad_y, code_up, code_down, code_left, code_right, unknown_axis, positive_code, negative_code}
use Rattle.rules.specs.Dispatch.{axis_name}
use Rattle.theory_history.specs.Rule.{direction_code}
use Rattle.theory_history.specs.Lemmas.Waits.{Sheet, takes}
use Rattle.theory_history.specs.Lemmas.Truth.{false-true}

pub hat-axis : (n : ℕ) → is_hat n ≡ true → is_axis n ≡ true
unfolding is_hat is_axis
hat-axis n e = by (eqb n dpad_x) (eqb n dpad_y) refl refl e
  where
    by : (x y : Bool) → eqb n dpad_x ≡ x → eqb n dpad_y ≡ y → (x || y) ≡ true → is_axis n ≡ true
    by true y ex ey e = rw (eqb-true n dpad_x ex)
    by false true ex ey e = rw (eqb-true n dpad_y ey)
    by false false ex ey e = false-true e

pub hat-button : (n : ℕ) → is_hat n ≡ true → is_button n ≡ false
unfolding is_hat is_button
hat-button n e = by (eqb n dpad_x) (eqb n dpad_y) refl refl e
  where
    by : (x y : Bool) → eqb n dpad_x ≡ x → eqb n dpad_y ≡ y → (x || y) ≡ true → is_button n ≡ false
    by true y ex ey e = rw (eqb-true n dpad_x ex)
    by false true ex ey e = rw (eqb-true n dpad_y ey)
    by false false ex ey e = false-true e

pub takes-hat : (s : Sheet) (p n : ℕ) → takes s p n ≡ true → is_hat n ≡ true
unfolding takes
takes-hat s p n e = by (get_or s.converts p false) (is_hat n) e
  where
    by : (a b : Bool) → (a && b) ≡ true → b ≡ true
    by true b e = e
    by false b e = false-true e

-- two codes that differ tell which of the two hats they are of
same-hat : (a b : ℕ) → (a ≡ b → ⊥) → (m n : ℕ) → is_hat m ≡ true → is_hat n ≡ true → cond (eqb m dpad_x) a b ≡ cond (eqb n dpad_x) a b → m ≡ n
unfolding is_hat
same-hat a b differ m n em en same = by (eqb m dpad_x) (eqb m dpad_y) (eqb n dpad_x) (eqb n dpad_y) refl refl refl refl em en same
  where
    by : (mx my nx ny : Bool) → eqb m dpad_x ≡ mx → eqb m dpad_y ≡ my → eqb n dpad_x ≡ nx → eqb n dpad_y ≡ ny → (mx || my) ≡ true → (nx || ny) ≡ true
        → cond mx a b ≡ cond nx a b → m ≡ n
    by true my true ny emx emy enx eny em en s = eqb-true m dpad_x emx ∙ sym (eqb-true n dpad_x enx)
    by true my false ny emx emy enx eny em en s = absurd (differ s)
    by false true true ny emx emy enx eny em en s = absurd (differ (sym s))
    by false true false true emx emy enx eny em en s = eqb-true m dpad_y emy ∙ sym (eqb-true n dpad_y eny)
    by false true false false emx emy enx eny em en s = false-true en
    by false false nx ny emx emy enx eny em en s = false-true em

-- no hat's positive direction is a negative one
pub cross : (m n : ℕ) → positive_code m ≡ negative_code n → ⊥
unfolding positive_code negative_code
cross m n same = by (eqb m dpad_x) (eqb n dpad_x) same
  where
    by : (a b : Bool) → ◌≡◌ {A = ℕ} (cond a code_right code_up) (cond b code_left code_down) → ⊥
    by true true s = omega arith
    by true false s = omega arith
    by false true s = omega arith
    by false false s = omega arith

-- a direction's code tells the hat that it is of
pub code-hat : (a b : Bool) (m n : ℕ) → is_hat m ≡ true → is_hat n ≡ true → direction_code a m ≡ direction_code b n → m ≡ n
unfolding positive_code negative_code
code-hat true true m n em en same = same-hat code_right code_up (λ e. omega arith) m n em en same
code-hat true false m n em en same = absurd (cross m n same)
code-hat false true m n em en same = absurd (cross n m (sym same))
code-hat false false m n em en same = same-hat code_left code_down (λ e. omega arith) m n em en same

-- an element's axis name is a hat's only where its name is
pub axis-hat : (n : ℕ) → is_hat (axis_name n) ≡ true → axis_name n ≡ n
unfolding axis_name is_hat
axis-hat n e = by (is_axis n) e
  where
    by : (axis : Bool) → is_hat (cond axis n unknown_axis) ≡ true → cond axis n unknown_axis ≡ n
    by true e = refl
    by false e = false-true e
