-- A record that is taken, and the directions of a hat on a pad that takes it for them: one that joins the pad clears them, a move of the hat presses what its
-- value says, and any other record leaves them. A direction's own code has to be unlisted (`specs/Lemmas/Hats`); the opposite one may be an element, even the hat itself.
use Rattle.std.specs.Prelude.{ℕ, ◌/◌, ◌<◌, Bool, cond, not, ◌&&◌, ◌⊎◌, ◌≡◌, refl, eqb, Float}
use Rattle.std.proofs.Math.Bool.{true, false}
use mathlib.Core.List.{List, []}
use Rattle.std.proofs.Common.{inl, inr, sym, ◌∙◌}
use Rattle.std.proofs.Math.Path.{ap, subst, subst₂}
use Rattle.std.specs.Float.Ieee.{eq}
use Rattle.std.proofs.Math.ListN.{get_or}
use borrow.Author.Tests.{eqb-true, eq-eqb, ne_eqb}
use Rattle.numbers.specs.Constants.{one32, minus_one32}
use Rattle.rules.specs.declared.Hub.{Hub}
use Rattle.rules.specs.declared.Event.{Event}
use Rattle.rules.specs.declared.EventType.TheVariants.{Axis}
use Rattle.rules.specs.declared.RawRecord.{RawRecord}
use Rattle.rules.specs.declared.View.{View}
use Rattle.rules.specs.declared.Dispatched.{Dispatched}
use Rattle.rules.specs.Names.{nowhere, places_per_pad, is_hat, positive_code, negative_code, positive_name, negative_name}
use Rattle.rules.specs.Forms.{kind_pressed, kind_axis}
use Rattle.rules.specs.Places.{place_of}
use Rattle.rules.specs.Events.{WithQueued, name_of}
use Rattle.rules.specs.State.{read_pressed}
use Rattle.rules.specs.Dispatch.{pressing, moving, joining, leaving, move_of, axis_name, from, single, press_gives, move_gives}
use Rattle.rules.specs.Filters.{hat_by, hat_gives}
use Rattle.rules.specs.Hub.{place_in, element_at, pressed_at, has_axis_at, hat_place_of, hat_place, view_at, view_of}
use Rattle.rules.specs.Step.{taken_of, marked_of, record_kind, step_hub}
use Rattle.theory_calls.specs.Waiting.{waiting_list}
use Rattle.theory_calls.specs.Queue.{Sound}
use Rattle.pad.specs.Lookup.{place-stands}
use Rattle.theory_registered.specs.Pads.{Desk}
use Rattle.theory_history.specs.Rule.{rejoins, speaks, dispatched_value, direction_code, pressing_value}
use Rattle.theory_history.specs.Lemmas.Cells.{Cell, cell_at, cell_pressed}
use Rattle.theory_history.specs.Lemmas.Turns.{out_of, hat-out, hat-more}
use Rattle.theory_history.specs.Lemmas.Steps.{Ready, look_at}
use Rattle.theory_history.specs.Lemmas.Waits.{Sheet, sheet_of, takes}
use Rattle.theory_history.specs.Lemmas.Exact.{put_at}
use Rattle.theory_history.specs.Lemmas.Views.{sees}
use Rattle.theory_history.specs.Lemmas.Accepted.{Good}
use Rattle.theory_history.specs.Lemmas.Take.{queue_of, Spares, taken_as}
use Rattle.theory_history.specs.Lemmas.Other.{Clear, move-aside, join-aside, leave-aside}
use Rattle.theory_history.specs.Lemmas.Records.{none-waits, silent-move, apart_by, axis-kind}
use Rattle.theory_history.proofs.Lemmas.Records.{cell_same, hasaxis-same, cell-off, hasaxis-off, joins-move}
use Rattle.theory_history.proofs.Lemmas.Concerned.{press-move, spoken-listed}
use Rattle.theory_history.specs.Lemmas.Written.{writes, Never, writes_more, never-now, never-more}
use Rattle.theory_history.specs.Lemmas.Sides.{Shows, Side, Opposed, Turn, view_by, out_by, queue_by, taken-side, taken-opposed}
use Rattle.theory_history.specs.Lemmas.Hat.{hat-turn, hat-never}
use Rattle.theory_history.specs.Lemmas.HatNames.{hat-axis, hat-button, takes-hat, code-hat, cross, axis-hat}
use Rattle.theory_history.specs.Lemmas.Presses.{presses}
use Rattle.theory_history.specs.Lemmas.Truth.{false-true, true-false}
use Rattle.theory_history.specs.Lemmas.Hats.{Unlisted, name_by, turns}

-- what it then is
pub record Moves (h : Hub) (p n : ℕ) (r : RawRecord) : Type 0 where
  pub pad : r.pad ≡ p
  pub spoken : speaks r.kind ≡ true
  pub is : name_by h r ≡ n

pub moves : (h : Hub) (p n : ℕ) (r : RawRecord) → turns h p n r ≡ true → Moves h p n r
moves h p n r t = by (eqb r.pad p) (speaks r.kind) (eqb (name_by h r) n) refl refl refl t
  where
    by : (a b c : Bool) → eqb r.pad p ≡ a → speaks r.kind ≡ b → eqb (name_by h r) n ≡ c → (a && (b && c)) ≡ true → Moves h p n r
    by true true true a b c e = record { pad = eqb-true r.pad p a; spoken = b; is = eqb-true (name_by h r) n c }
    by true true false a b c e = false-true e
    by true false same a b c e = false-true e
    by false spoken same a b c e = false-true e

module _ (h : Hub) (w : Ready h) (desk : Desk h) (sound : Sound h) (p n : ℕ) (r : RawRecord) (ok : Good h r) (none : h.waiting ≡ 0) where
  abbrev s : Sheet
  s = sheet_of h

  abbrev at : ℕ
  at = place_of h.codes r.pad r.code

  abbrev seen : Hub
  seen = marked_of h r

  abbrev see : Event → View
  see e = view_of seen e

  abbrev gives : Dispatched
  gives = taken_of h (look_at r)

  abbrev after : Hub
  after = step_hub h (look_at r)

  -- the place of a direction, and what it holds once the record has set its marks
  abbrev place : Bool → ℕ
  place positive = place_of h.codes p (direction_code positive n)

  abbrev cell : Bool → Cell
  cell positive = cell_at seen (place positive)

  -- ---- a move of the hat

  module _ (hat : takes s p n ≡ true) (m : Moves h p n r) where
    is-hat : is_hat n ≡ true
    is-hat = takes-hat s p n hat

    abbrev to : Float
    to = dispatched_value h.reversed n (element_at h at) r

    abbrev e : Event
    e = from r (Axis n r.code to)

    given_by : (value : Bool) → eqb r.kind kind_axis ≡ value → gives ≡ single e
    unfolding move_gives press_gives axis_name move_of
    given_by true is-value =
        taken_as h r w none moving (rw (eqb-true r.kind kind_axis is-value)) ∙ rw (m.is, hat-button n is-hat, hat-axis n is-hat, is-value)
    given_by false is-press =
        taken_as h r w none (pressing (eqb r.kind kind_pressed)) (unfold move_of in press-move r.kind m.spoken is-press)
        ∙ rw (m.is, hat-axis n is-hat, is-press)

    converts : ((see e).converts && is_hat n) ≡ true
    unfolding takes
    converts =
        ap (λ (c : Bool). c && is_hat n) (sees h r w desk e).converts ∙ (ap (λ (q : ℕ). get_or h.converts q false && is_hat n) m.pad ∙ hat)

    -- the conversion, by what the two directions read
    abbrev made : WithQueued
    made =
        hat_by (eq to one32) (eq to minus_one32) (see e).positive (see e).negative e (record { name = positive_name n; code = positive_code n })
        (record { name = negative_name n; code = negative_code n })

    -- its events are what goes out and what is queued
    made_as : (P : Event → List Event → Type 0) → P made.event made.queued → P (out_by h r) (queue_by h r)
    unfolding hat_gives
    made_as P t =
        subst (λ (d : Dispatched). P (out_of (see d.event) d.event) (queue_of d (see d.event))) (sym (given_by (eqb r.kind kind_axis) refl))
        (subst₂ P (sym (hat-out (see e) r.pad r.time n r.code to converts)) (sym (hat-more (see e) r.pad r.time n r.code to converts)) t)

    read : (c : ℕ) → pressed_at seen (hat_place seen r.pad n c) ≡ cell_pressed (cell_at seen (place_of h.codes p c))
    unfolding hat_place_of pressed_at read_pressed cell_at
    read c =
        ap (λ (is-hat : Bool). pressed_at seen (cond is-hat (place_in seen r.pad c) nowhere)) is-hat
        ∙ (ap (λ (q : ℕ). pressed_at seen (place_in seen q c)) m.pad ∙ (unfold marked_of in refl))

    reads : (positive : Bool) → cond positive (see e).positive (see e).negative ≡ cell_pressed (cell positive)
    unfolding view_of view_at name_of
    reads true = read (positive_code n)
    reads false = read (negative_code n)

    -- of which direction an event of either code is
    on-own : (c : ℕ) → eqb (place_of h.codes r.pad c) (place_of h.codes p c) ≡ true
    on-own c = eq-eqb (place_of h.codes r.pad c) (place_of h.codes p c) (ap (λ (q : ℕ). place_of h.codes q c) m.pad)

    on-other : (c d : ℕ) → place_of h.codes p d < nowhere → (c ≡ d → ⊥) → eqb (place_of h.codes r.pad c) (place_of h.codes p d) ≡ false
    on-other c d found differ =
        apart_by h.codes p d r.pad c (eqb (place_of h.codes r.pad c) (place_of h.codes p d)) found refl (λ q same. differ same)

    on-plus : (positive : Bool) → place positive < nowhere → eqb (place_of h.codes r.pad (positive_code n)) (place positive) ≡ positive
    on-plus true found = on-own (positive_code n)
    on-plus false found = on-other (positive_code n) (negative_code n) found (cross n n)

    on-minus : (positive : Bool) → place positive < nowhere → eqb (place_of h.codes r.pad (negative_code n)) (place positive) ≡ not positive
    on-minus true found = on-other (negative_code n) (positive_code n) found (λ same. cross n n (sym same))
    on-minus false found = on-own (negative_code n)

    move-turn : (positive : Bool) → place positive < nowhere → (b : Bool) → Shows (cell positive) b
        → Turn s (place positive) (out_by h r) (queue_by h r) (cell positive) (eq to (pressing_value positive))
    move-turn positive found b shows =
        made_as (λ (out : Event) (q : List Event). Turn s (place positive) out q (cell positive) (eq to (pressing_value positive)))
        (subst (Turn s (place positive) made.event made.queued (cell positive)) (presses positive to)
        (hat-turn s r.pad r.time n r.code to (positive_name n) (positive_code n) (negative_name n) (negative_code n) (place positive) positive
        (on-plus positive found) (on-minus positive found) (eq to one32) (eq to minus_one32) (see e).positive (see e).negative (cell positive)
        (subst (Shows (cell positive)) (sym shows.pressed ∙ sym (reads positive)) shows)))

    move-never : place true < nowhere → place false < nowhere
        → Never s (place true) (place false) (queue_by h r) (put_at s (place true) (out_by h r) (cell true)) (put_at s (place false) (out_by h r) (cell false))
    move-never plus minus =
        made_as
        (λ (out : Event) (q : List Event).
        Never s (place true) (place false) q (put_at s (place true) out (cell true)) (put_at s (place false) out (cell false)))
        (hat-never s r.pad r.time n r.code to (positive_name n) (positive_code n) (negative_name n) (negative_code n) (place true) (place false)
        (on-plus true plus) (on-minus true plus) (on-plus false minus) (on-minus false minus) (eq to one32) (eq to minus_one32) (see e).positive (see e).negative
        (cell true) (cell false) (sym (reads true)) (sym (reads false)))

  -- ---- one direction

  module _ (positive : Bool) (u : Unlisted s p n positive) where
    abbrev k : ℕ
    k = place positive

    own : k / places_per_pad ≡ p
    own = (place-stands h.codes p (direction_code positive n) u.plain.inside).own

    abbrev Aside : Type 0
    Aside = Spares s k gives (view_by h r)

    aside-as : {d : Dispatched} → gives ≡ d → Spares s k d (see d.event) → Aside
    aside-as taken t = subst (λ (d : Dispatched). Spares s k d (see d.event)) (sym taken) t

    -- Connected and Disconnected leave it alone
    silent-aside : (move_of r.kind ≡ joining) ⊎ (move_of r.kind ≡ leaving) → Aside
    silent-aside (inl m) = aside-as (taken_as h r w none joining m) (join-aside s k u.plain.bare r ok.pad see (λ e. sees h r w desk e))
    silent-aside (inr m) = aside-as (taken_as h r w none leaving m) (leave-aside s k u.plain.bare r ok.pad see (λ e. sees h r w desk e))

    -- and so does a press, a release or a value of an element that is not the hat
    module _ (spoken : speaks r.kind ≡ true) (other : turns h p n r ≡ false) where
      -- its place is listed, and the direction's is not
      elsewhere : eqb at k ≡ false
      unfolding record_kind
      elsewhere = ne_eqb at k (λ same. spoken-listed h r ok spoken (ap (λ (i : ℕ). get_or h.kinds i 0) same ∙ u.none))

      differs : r.pad ≡ p → name_by h r ≡ n → ⊥
      differs pad is = true-false (sym (rw (eq-eqb r.pad p pad, spoken, eq-eqb (name_by h r) n is)) ∙ other)

      -- a hat that the record's pad takes under the element's name is another one
      clear_of : (m : ℕ) → (takes s r.pad m ≡ true → m ≡ name_by h r) → (sign : Bool) → takes s r.pad m ≡ true
          → eqb (place_of h.codes r.pad (direction_code sign m)) k ≡ false
      clear_of m is sign t =
          apart_by h.codes p (direction_code positive n) r.pad (direction_code sign m) (eqb (place_of h.codes r.pad (direction_code sign m)) k)
          u.plain.inside refl
          (λ pad same. differs pad (sym (is t) ∙ code-hat sign positive m n (takes-hat s r.pad m t) (takes-hat s p n u.takes) same))

      clear : (m : ℕ) → (takes s r.pad m ≡ true → m ≡ name_by h r) → Clear s k r.pad m
      clear m is = record { plus = clear_of m is true; minus = clear_of m is false }

      spoken-aside : Aside
      spoken-aside =
          let name = name_by h r in
          aside-as (taken_as h r w none (move_of r.kind) refl)
          (move-aside s k u.plain.bare r ok.pad see (λ e. sees h r w desk e) elsewhere name (clear name (λ t. refl))
          (clear (axis_name name) (λ t. axis-hat name (takes-hat s r.pad (axis_name name) t))) refl (element_at h at) (pressed_at h at) h.pressed h.released
          h.reversed (move_of r.kind) (axis-kind h r ok))

    other-aside : turns h p n r ≡ false → Aside
    other-aside other = by (speaks r.kind) refl
      where
        by : (spoken : Bool) → speaks r.kind ≡ spoken → Aside
        by true spoken = spoken-aside spoken other
        by false silent = silent-aside (silent-move r.kind silent)

    spared-side : (b : Bool) → Shows (cell positive) b → has_axis_at seen k ≡ false → Aside → Side after k b
    unfolding writes
    spared-side b shows still a =
        taken-side h w sound r none k u.plain.inside b still
        (record { shows = rw (a.cell (cell positive), writes_more s k [] (cell positive) a.queue) shows; still = a.still })

    -- a record that joins the pad
    joined-shows : rejoins p r ≡ true → Shows (cell positive) false
    unfolding cell_at
    joined-shows e =
        let off = cell-off h r w p k own u.plain.inside e in
        record { pressed = rw off; value = rw off }

    joined-aside : rejoins p r ≡ true → Aside
    joined-aside e = silent-aside (inl (joins-move p r e))

    pub joined-side : rejoins p r ≡ true → Side after k false
    joined-side e = spared-side false (joined-shows e) (hasaxis-off h r w p k own u.plain.inside e) (joined-aside e)

    -- any other
    module _ (away : rejoins p r ≡ false) where
      same : cell positive ≡ cell_at h k
      same = cell_same h r w p k own u.plain.inside away

      module _ (b : Bool) (t : Side h k b) where
        shows : Shows (cell positive) b
        unfolding writes
        shows = subst₂ (λ (q : List Event) (x : Cell). Shows (writes s k q x) b) (none-waits h none) (sym same) t.shows

        still : has_axis_at seen k ≡ false
        still = hasaxis-same h r w p k own u.plain.inside away ∙ t.still

        pub other-side : turns h p n r ≡ false → Side after k b
        other-side other = spared-side b shows still (other-aside other)

        pub turned-side : turns h p n r ≡ true → Side after k (eq (dispatched_value h.reversed n (element_at h at) r) (pressing_value positive))
        turned-side t = taken-side h w sound r none k u.plain.inside _ still (move-turn u.takes (moves h p n r t) positive u.plain.inside b shows)

  -- ---- both

  module _ (u : Unlisted s p n true) (v : Unlisted s p n false) where
    spared-opposed : Aside true u → Aside false v → (cell_pressed (cell true) && cell_pressed (cell false)) ≡ false → Opposed after (place true) (place false)
    unfolding Never
    spared-opposed a b apart =
        taken-opposed h w sound r none (place true) (place false) u.plain.inside v.plain.inside
        (rw (a.cell (cell true), b.cell (cell false)) (never-more s (place true) (place false) [] (cell true) (cell false) a.queue b.queue apart))

    pub record-opposed : Opposed h (place true) (place false) → Opposed after (place true) (place false)
    record-opposed t = by (rejoins p r) (turns h p n r) refl refl
      where
        by : (joins moves : Bool) → rejoins p r ≡ joins → turns h p n r ≡ moves → Opposed after (place true) (place false)
        by true moves j m = spared-opposed (joined-aside true u j) (joined-aside false v j) (rw (joined-shows true u j).pressed)
        by false true j m =
            taken-opposed h w sound r none (place true) (place false) u.plain.inside v.plain.inside
            (move-never u.takes (moves h p n r m) u.plain.inside v.plain.inside)
        by false false j m =
            spared-opposed (other-aside true u m) (other-aside false v m)
            (rw (same true u j, same false v j) (never-now s (place true) (place false) (waiting_list h) (cell_at h (place true)) (cell_at h (place false)) t))
