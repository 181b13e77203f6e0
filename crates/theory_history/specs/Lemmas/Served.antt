-- One event that waited, served: what it does to a place that no axis event is of. Its code's place reads pressed as before, and the value that the event
-- brings; any other place stays; what is queued behind it is an axis event of another place.
use Rattle.std.specs.Prelude.{ℕ, ◌<◌, Bool, cond, ◌||◌, List, [], ◌∷◌, ◌++◌, ◌≡◌, Float, get_or}
use Rattle.std.proofs.Math.Bool.{true, false}
use Rattle.std.proofs.Math.Path.{refl, sym, ap, subst}
use Rattle.std.proofs.Common.{◌∙◌}
use Rattle.std.proofs.Math.Dec.{eqb}
use Rattle.std.specs.Float.Ieee.{eq}
use Rattle.numbers.specs.Constants.{zero32}
use Rattle.numbers.specs.Deadzone.{deadzone_of}
use Rattle.rules.specs.declared.Event.{Event}
use Rattle.rules.specs.declared.EventType.{EventType}
use Rattle.rules.specs.declared.EventType.TheVariants.{Pressed, Released, Repeated, Changed, Axis, Connected, Disconnected, Dropped}
use Rattle.rules.specs.declared.View.{View}
use Rattle.rules.specs.Sheets.{element_axis}
use Rattle.rules.specs.Places.{place_of}
use Rattle.rules.specs.Events.{code_of}
use Rattle.rules.specs.State.{writes_axis_type}
use Rattle.rules.specs.Hub.{past_element}
use Rattle.theory_history.specs.Lemmas.Cells.{Cell, cell_pressed, cell_value, hits}
use borrow.Author.Tests.{eqb-true}
use Rattle.theory_history.specs.Lemmas.Turns.{ev, out_of, more_of, zoned-out, unzoned-out, changed-more}
use Rattle.theory_history.specs.Lemmas.Waits.{Sheet, axial_at, zoned_at, All, empty, more, Fit}
use Rattle.theory_history.specs.Lemmas.Exact.{Sees, put_at, Apart, same-either, down-either, stays, queues}

-- a value that waits for a place's code is the one that the place will read
unfoldable pub due_type : Sheet → ℕ → EventType → Float → Float
unfolding zoned_at
due_type s k (Changed n c x) v = zoned_at s k x
due_type s k (Pressed n c) v = v
due_type s k (Released n c) v = v
due_type s k (Repeated n c) v = v
due_type s k (Axis n c x) v = v
due_type s k Connected v = v
due_type s k Disconnected v = v
due_type s k Dropped v = v

unfoldable pub due_by : Sheet → ℕ → Event → Float → Float
unfolding hits due_type
due_by s k e v = cond (hits s.codes k e) (due_type s k e.event v) v

unfoldable pub due : Sheet → ℕ → List Event → Float → Float
unfolding due_by
due s k [] v = v
due s k (e ∷ es) v = due s k es (due_by s k e v)

pub due-append : (s : Sheet) (k : ℕ) (xs ys : List Event) (v : Float) → due s k (xs ++ ys) v ≡ due s k ys (due s k xs v)
unfolding due
due-append s k [] ys v = refl
due-append s k (e ∷ xs) ys v = due-append s k xs ys (due_by s k e v)

module _ (P : Float → Type 0) (alike : (a b : Float) → P a → P b → eq a b ≡ true → a ≡ b) (s : Sheet) (k : ℕ) where
  -- an event that may wait: of another place, or a value of this one
  pub data Waiting : Event → Type 0 where
    away : {e : Event} → Fit s e → hits s.codes k e ≡ false → Waiting e
    value : {pad time n c : ℕ} {z : Float} → pad < s.pads → hits s.codes k (ev pad time (Changed n c z)) ≡ true → P (zoned_at s k z)
        → Waiting (ev pad time (Changed n c z))

  abbrev pub put : Event → Cell → Cell
  put e x = put_at s k e x

  pub record Serves (e : Event) (v : View) (x : Cell) : Type 0 where
    pub pressed : cell_pressed (put (out_of v e) x) ≡ cell_pressed x
    pub value : cell_value (put (out_of v e) x) ≡ due_by s k e (cell_value x)
    pub proper : P (cell_value (put (out_of v e) x))
    pub still : (cond (hits s.codes k (out_of v e)) (false || writes_axis_type (out_of v e).event) false) ≡ false
    pub waits : All Waiting (more_of v e)
    pub later : (y : Float) → due s k (more_of v e) y ≡ y

  pub apart-waits : {q : List Event} → All (Apart s k) q → All Waiting q
  apart-waits empty = empty
  apart-waits (more a rest) = more (away a.fit a.apart) (apart-waits rest)

  pub apart-later : {q : List Event} → All (Apart s k) q → (y : Float) → due s k q y ≡ y
  unfolding due due_by
  apart-later empty y = refl
  apart-later (more a rest) y = rw a.apart (apart-later rest y)

  away-serves : (e : Event) (v : View) (x : Cell) → P (cell_value x) → axial_at s k ≡ false → Fit s e → hits s.codes k e ≡ false → Sees s e v → Serves e v x
  unfolding due_by
  away-serves e v x p bare fit apart sees =
      let a = stays s k bare v fit apart sees in
      let q = queues s k bare v fit sees in
      let same = a.0 x in
      record {
        pressed = ap cell_pressed same;
        value = ap cell_value same ∙ rw apart;
        proper = subst P (sym (ap cell_value same)) p;
        still = a.1;
        waits = apart-waits q;
        later = apart-later q;
      }

  module _ (v : View) (x : Cell) (p : P (cell_value x)) (bare : axial_at s k ≡ false) (pad time : ℕ) where
    -- ---- values

    module _ (n c : ℕ) (z : Float) where
      abbrev own_value : Event
      own_value = ev pad time (Changed n c z)

      abbrev cut : Float
      cut = (deadzone_of z zero32 v.threshold).x

      -- the place's own value
      module _ (sees : Sees s own_value v) (hit : hits s.codes k own_value ≡ true) (own : v.own ≡ cell_value x) (q : P (zoned_at s k z)) where
        here : place_of s.codes pad c ≡ k
        unfolding hits
        here = eqb-true (place_of s.codes pad c) k hit

        cut-is : v.dead ≡ true → zoned_at s k z ≡ cut
        unfolding zoned_at code_of
        cut-is d =
            let axis : eqb (get_or s.kinds k 0) element_axis ≡ true = sym (ap (λ (j : ℕ). eqb (get_or s.kinds j 0) element_axis) here) ∙ (sym sees.dead ∙ d) in
            let limit : (get_or s.elements k past_element).threshold ≡ v.threshold = sym (ap (λ (j : ℕ). (get_or s.elements j past_element).threshold) here) ∙ sym sees.threshold in
            rw (axis, limit)

        whole_is : v.dead ≡ false → zoned_at s k z ≡ z
        unfolding zoned_at code_of
        whole_is d =
            let button : eqb (get_or s.kinds k 0) element_axis ≡ false = sym (ap (λ (j : ℕ). eqb (get_or s.kinds j 0) element_axis) here) ∙ (sym sees.dead ∙ d) in
            rw button

        -- where the state has the value already
        own-by : (same : Bool) → v.dead ≡ true → eq v.own cut ≡ same → Serves own_value v x
        unfolding due_by due_type hits
        own-by true d equal =
            let o = zoned-out v pad time n c z d in
            let m = changed-more v pad time n c z in
            let out : out_of v own_value ≡ ev pad time Dropped = rw (o, equal) in
            let is : cell_value x ≡ zoned_at s k z = alike (cell_value x) (zoned_at s k z) p q (ap (λ (a : Float). eq a (zoned_at s k z)) (sym own) ∙ (ap (λ (a : Float). eq v.own a) (cut-is d) ∙ equal)) in
            let put_is : put (out_of v own_value) x ≡ x = rw out (same-either (hits s.codes k (ev pad time Dropped)) x) in
            record {
              pressed = ap cell_pressed put_is;
              value = ap cell_value put_is ∙ (is ∙ rw hit);
              proper = subst P (sym (ap cell_value put_is)) p;
              still = rw out (down-either (hits s.codes k (ev pad time Dropped)));
              waits = rw m empty;
              later = λ y. unfold due in rw m;
            }
        own-by false d other =
            let o = zoned-out v pad time n c z d in
            let m = changed-more v pad time n c z in
            let out : out_of v own_value ≡ ev pad time (Changed n c cut) = rw (o, other) in
            record {
              pressed = rw (out, hit);
              value = rw (out, hit, cut-is d);
              proper = rw (out, hit) (subst P (cut-is d) q);
              still = rw (out, hit);
              waits = rw m empty;
              later = λ y. unfold due in rw m;
            }

        own-whole : v.dead ≡ false → Serves own_value v x
        unfolding due_by due_type hits
        own-whole d =
            let out = unzoned-out v pad time n c z d in
            let m = changed-more v pad time n c z in
            record {
              pressed = rw (out, hit);
              value = rw (out, hit, whole_is d);
              proper = rw (out, hit) (subst P (whole_is d) q);
              still = rw (out, hit);
              waits = rw m empty;
              later = λ y. unfold due in rw m;
            }

  -- an event that waited is served
  pub serves : (e : Event) → Waiting e → (v : View) (x : Cell) → P (cell_value x) → axial_at s k ≡ false → Sees s e v
      → (hits s.codes k e ≡ true → v.own ≡ cell_value x) → Serves e v x
  serves e (away fit apart) v x p bare sees own = away-serves e v x p bare fit apart sees
  serves e (value {pad} {time} {n} {c} {z} inside hit q) v x p bare sees own =
      by v.dead refl
    where
      by : (dead : Bool) → v.dead ≡ dead → Serves (ev pad time (Changed n c z)) v x
      by true d = own-by v x p bare pad time n c z sees hit (own hit) q (eq v.own (deadzone_of z zero32 v.threshold).x) d refl
      by false d = own-whole v x p bare pad time n c z sees hit (own hit) q d
