-- A record of a place's own code: what the place tells after its step. A button tells its last press or release; a trigger folds the two thresholds and tells
-- its value, cut by the deadzone.
use Rattle.std.specs.Prelude.{ℕ, ◌<◌, Bool, true, false, cond, not, ◌&&◌, [], ◌∷◌, ◌≡◌, Float, get_or}
use Rattle.std.proofs.Math.Path.{refl, ap}
use Rattle.std.proofs.Common.{sym, ◌∙◌, subst}
use Rattle.std.proofs.Math.Dec.{eqb}
use Rattle.std.specs.Float.Ieee.{eq, le}
use Rattle.numbers.specs.Constants.{zero32, one32}
use Rattle.rules.specs.declared.Event.{Event}
use Rattle.rules.specs.declared.EventType.{EventType}
use Rattle.rules.specs.declared.EventType.TheVariants.{Pressed, Released, Changed}
use Rattle.rules.specs.declared.RawRecord.{RawRecord}
use Rattle.rules.specs.declared.View.{View}
use Rattle.rules.specs.declared.Dispatched.{Dispatched}
use Rattle.rules.specs.Sheets.{element_axis}
use Rattle.rules.specs.Places.{place_of}
use Rattle.rules.specs.Dispatch.{press_type, amount, from, single, double, trigger_by, trigger_gives}
use Rattle.rules.specs.Events.{code_type, code_of}
use Rattle.theory_history.specs.Lemmas.Cells.{Cell, cell_pressed, cell_value, hits}
use Rattle.theory_history.specs.Lemmas.Turns.{ev, plain_out, plain_more}
use Rattle.theory_history.specs.Lemmas.Waits.{Sheet, axial_at, zoned_at, empty, more}
use Rattle.theory_history.specs.Lemmas.Exact.{Sees}
use Rattle.theory_history.specs.Lemmas.Served.{due, due_by, due_type, value, serves}
use Rattle.theory_history.specs.Lemmas.Take.{Fine}

-- the fold of a trigger's two thresholds
abbrev pub folded : Bool → Bool → Bool → Bool
folded was down up = cond was (not up) down

module _ (P : Float → Type 0) (alike : (a b : Float) → P a → P b → eq a b ≡ true → a ≡ b) (zero-fits : P zero32) (one-fits : P one32) (s : Sheet) (k : ℕ)
    (bare : axial_at s k ≡ false) (r : RawRecord) (old : r.pad < s.pads) (own : eqb (place_of s.codes r.pad r.code) k ≡ true) (x : Cell) (p : P (cell_value x)) where
  on-place : (t : EventType) → code_type t ≡ r.code → hits s.codes k (ev r.pad r.time t) ≡ true
  unfolding hits code_of
  on-place t same = ap (λ (c : ℕ). eqb (place_of s.codes r.pad c) k) same ∙ own

  -- a value that is kept, or the one that a first press or release sets
  kept : (y : Cell) (first : Float) → P (cell_value y) → P first → P (cond y.known y.value first)
  kept y first q f = by y.known q
    where
      by : (known : Bool) → P (cond known y.value zero32) → P (cond known y.value first)
      by true q = q
      by false q = f

  module _ (v : View) (n : ℕ) (z : Float) (zoned : P (zoned_at s k z)) where
    abbrev later : Event
    later = ev r.pad r.time (Changed n r.code z)

    last : (y : Float) → due s k (later ∷ []) y ≡ zoned_at s k z
    unfolding due due_by due_type
    last y = rw (on-place (Changed n r.code z) refl)

    brought : (y : Float) → due_by s k later y ≡ zoned_at s k z
    unfolding due_by due_type
    brought y = rw (on-place (Changed n r.code z) refl)

    pub pressed-fine : Fine P alike s k (double (ev r.pad r.time (Pressed n r.code)) later) v x true (zoned_at s k z)
    pressed-fine =
        let hit = on-place (Pressed n r.code) refl in
        let o = plain_out v r.pad r.time (Pressed n r.code) refl in
        let m = plain_more v r.pad r.time (Pressed n r.code) refl in
        record {
          pressed = rw (o, hit);
          value = rw m (last _);
          proper = rw (o, hit) (kept x one32 p one-fits);
          still = rw (o, hit);
          waits = rw m (more (value old (on-place (Changed n r.code z) refl) zoned) empty);
        }

    pub released-fine : Fine P alike s k (double (ev r.pad r.time (Released n r.code)) later) v x false (zoned_at s k z)
    released-fine =
        let hit = on-place (Released n r.code) refl in
        let o = plain_out v r.pad r.time (Released n r.code) refl in
        let m = plain_more v r.pad r.time (Released n r.code) refl in
        record {
          pressed = rw (o, hit);
          value = rw m (last _);
          proper = rw (o, hit) (kept x zero32 p zero-fits);
          still = rw (o, hit);
          waits = rw m (more (value old (on-place (Changed n r.code z) refl) zoned) empty);
        }

    -- a value alone
    pub value-fine : Sees s later v → v.own ≡ cell_value x → Fine P alike s k (single later) v x (cell_pressed x) (zoned_at s k z)
    value-fine sees same =
        let hit = on-place (Changed n r.code z) refl in
        let w = serves P alike s k later (value old hit zoned) v x p bare sees (λ h. same) in
        record {
          pressed = w.pressed;
          value = w.later _ ∙ (w.value ∙ brought (cell_value x));
          proper = w.proper;
          still = w.still;
          waits = w.waits;
        }

  -- ---- a button

  button-value : eqb (get_or s.kinds k 0) element_axis ≡ false → (z : Float) → zoned_at s k z ≡ z
  unfolding zoned_at
  button-value kind z = rw kind

  pub press-fine : (v : View) (n : ℕ) (on : Bool) → eqb (get_or s.kinds k 0) element_axis ≡ false
      → Fine P alike s k (double (from r (press_type on n r.code)) (from r (Changed n r.code (amount on)))) v x on (amount on)
  press-fine v n true kind =
      subst (λ (f : Float). Fine P alike s k (double (from r (Pressed n r.code)) (from r (Changed n r.code one32))) v x true f) (button-value kind one32)
      (pressed-fine v n one32 (subst P (sym (button-value kind one32)) one-fits))
  press-fine v n false kind =
      subst (λ (f : Float). Fine P alike s k (double (from r (Released n r.code)) (from r (Changed n r.code zero32))) v x false f) (button-value kind zero32)
      (released-fine v n zero32 (subst P (sym (button-value kind zero32)) zero-fits))

  -- ---- a trigger

  module _ (see : Event → View) (sees : (e : Event) → Sees s e (see e)) (n : ℕ) (z : Float) (zoned : P (zoned_at s k z))
      (same : (see (from r (Changed n r.code z))).own ≡ cell_value x) where
    abbrev Done : Dispatched → Bool → Type 0
    Done d b = Fine P alike s k d (see d.event) x b (zoned_at s k z)

    trigger-by : (was down up : Bool) → cell_pressed x ≡ was → Done (trigger_by (down && not was) (up && was) r n z) (folded was down up)
    trigger-by true true true e = released-fine (see _) n z zoned
    trigger-by true false true e = released-fine (see _) n z zoned
    trigger-by true true false e = subst (Done (single (from r (Changed n r.code z)))) e (value-fine (see _) n z zoned (sees _) same)
    trigger-by true false false e = subst (Done (single (from r (Changed n r.code z)))) e (value-fine (see _) n z zoned (sees _) same)
    trigger-by false true true e = pressed-fine (see _) n z zoned
    trigger-by false true false e = pressed-fine (see _) n z zoned
    trigger-by false false true e = subst (Done (single (from r (Changed n r.code z)))) e (value-fine (see _) n z zoned (sees _) same)
    trigger-by false false false e = subst (Done (single (from r (Changed n r.code z)))) e (value-fine (see _) n z zoned (sees _) same)

    pub trigger-fine : (pressed released : Float) → Done (trigger_gives r n z (cell_pressed x) pressed released) (folded (cell_pressed x) (le pressed z) (le z released))
    unfolding trigger_gives
    trigger-fine pressed released = trigger-by (cell_pressed x) (le pressed z) (le z released) refl
