-- What places tell after a registration: those of the pads before it what they told, and those of the new pad nothing.
use Rattle.std.specs.Prelude.{ℕ, ◌/◌, ◌<◌, Bool, true, ◌≡◌, Float}
use Rattle.std.proofs.Math.Bool.{false}
use mathlib.Core.List.{List}
use Rattle.std.proofs.Math.Path.{refl, subst}
use Rattle.std.proofs.Common.{sym, ◌∙◌, ap, arith}
use Rattle.std.specs.Float.Ieee.{eq}
use Rattle.numbers.specs.Constants.{zero32}
use Rattle.rules.specs.declared.Hub.{Hub}
use Rattle.rules.specs.declared.Event.{Event}
use Rattle.rules.specs.declared.EventType.{EventType}
use Rattle.rules.specs.declared.EventType.TheVariants.{Pressed, Released, Repeated, Changed, Axis, Connected, Disconnected, Dropped}
use Rattle.rules.specs.Names.{nowhere, places_per_pad}
use Rattle.rules.specs.Places.{place_of}
use Rattle.rules.specs.Calls.{register_refusal}
use Rattle.theory_calls.specs.Waiting.{waiting_list}
use Rattle.pad.specs.Lookup.{place-stands}
use Rattle.theory_registered.specs.Pads.{Desk}
use Rattle.theory_history.specs.Lemmas.Cells.{Cell, cell_at, cell_pressed, cell_value, hits, Long}
use Rattle.theory_history.specs.Lemmas.Turns.{ev}
use Rattle.theory_history.specs.Lemmas.Waits.{sheet_of, All, empty, more, Fit, fit-pad}
use Rattle.theory_history.specs.Lemmas.Served.{due, due_by, due_type, Waiting, away, value}
use Rattle.theory_history.specs.Lemmas.Serve.{Tells}
use Rattle.theory_history.specs.Lemmas.Register.{next, same_queue, same-hits, still-fits, more-pads, old-place, old-zoned, old-cell, old-hasaxis, new-hasbutton, new-hasaxis, new_apart}

module _ (P : Float → Type 0) (alike : (a b : Float) → P a → P b → eq a b ≡ true → a ≡ b) (zero-fits : P zero32) (h : Hub) (s : List ℕ) (desk : Desk h)
    (ok : register_refusal true h.pads s ≡ 0) where
  abbrev then : Hub
  then = next h s desk ok

  -- ---- a pad before it

  module _ (p code : ℕ) (old : p < h.pads) (found : place_of h.codes p code < nowhere) where
    abbrev k : ℕ
    k = place_of h.codes p code

    own : k / places_per_pad ≡ p
    own = (place-stands h.codes p code found).own

    wait-pad : {e : Event} → Waiting P alike (sheet_of h) k e → e.pad < h.pads
    wait-pad (away fit apart) = fit-pad fit
    wait-pad (value i hit q) = i

    old-wait : {e : Event} → Waiting P alike (sheet_of h) k e → Waiting P alike (sheet_of then) k e
    old-wait {e} (away fit apart) = away (still-fits h s desk ok fit) (same-hits h s desk ok k e (fit-pad fit) ∙ apart)
    old-wait (value {pad} {time} {n} {c} {z} i hit q) =
        value (more-pads h s desk ok pad i) (same-hits h s desk ok k (ev pad time (Changed n c z)) i ∙ hit)
        (subst P (sym (old-zoned h s desk ok p old k own z)) q)

    old-waits : {q : List Event} → All (Waiting P alike (sheet_of h) k) q → All (Waiting P alike (sheet_of then) k) q
    old-waits empty = empty
    old-waits (more w rest) = more (old-wait w) (old-waits rest)

    old-type : (t : EventType) (v : Float) → due_type (sheet_of then) k t v ≡ due_type (sheet_of h) k t v
    unfolding due_type
    old-type (Changed n d x) v = old-zoned h s desk ok p old k own x
    old-type (Pressed n d) v = refl
    old-type (Released n d) v = refl
    old-type (Repeated n d) v = refl
    old-type (Axis n d x) v = refl
    old-type Connected v = refl
    old-type Disconnected v = refl
    old-type Dropped v = refl

    old-by : (e : Event) (v : Float) → e.pad < h.pads → due_by (sheet_of then) k e v ≡ due_by (sheet_of h) k e v
    unfolding due_by
    old-by e v i = rw (same-hits h s desk ok k e i, old-type e.event v)

    old-due : {q : List Event} (v : Float) → All (Waiting P alike (sheet_of h) k) q → due (sheet_of then) k q v ≡ due (sheet_of h) k q v
    unfolding due
    old-due v empty = refl
    old-due v (more {e} {es} w rest) = rw (old-by e v (wait-pad w)) (old-due (due_by (sheet_of h) k e v) rest)

    pub old-tells : (b : Bool) (v : Float) → Tells P alike (sheet_of h) h k (waiting_list h) b v
        → Tells P alike (sheet_of then) then (place_of then.codes p code) (waiting_list then) b v
    old-tells b v t =
        let cell = old-cell h s desk ok p old k own in
        subst (λ (j : ℕ). Tells P alike (sheet_of then) then j (waiting_list then) b v) (sym (old-place h s desk ok p old code))
        (subst (λ (q : List Event). Tells P alike (sheet_of then) then k q b v) (sym (same_queue h s desk ok))
        (record {
          pressed = ap cell_pressed cell ∙ t.pressed;
          value = old-due (cell_value (cell_at then k)) t.waits ∙ (ap (λ (x : Cell). due (sheet_of h) k (waiting_list h) (cell_value x)) cell ∙ t.value);
          proper = subst P (sym (ap cell_value cell)) t.proper;
          still = old-hasaxis h s desk ok p old k own ∙ t.still;
          waits = old-waits t.waits;
        }))

  -- ---- the new pad

  module _ (c : ℕ) (found : place_of then.codes h.pads c < nowhere) (long : Long h) where
    abbrev j : ℕ
    j = place_of then.codes h.pads c

    new-own : j / places_per_pad ≡ h.pads
    new-own = (place-stands then.codes h.pads c found).own

    apart : (e : Event) → e.pad < h.pads → hits then.codes j e ≡ false
    apart e old = new_apart h s desk ok h.pads c (omega arith) found e old

    new-waits : {q : List Event} → All (Fit (sheet_of h)) q → All (Waiting P alike (sheet_of then) j) q
    new-waits empty = empty
    new-waits (more {e} fit rest) = more (away (still-fits h s desk ok fit) (apart e (fit-pad fit))) (new-waits rest)

    new-due : {q : List Event} (v : Float) → All (Fit (sheet_of h)) q → due (sheet_of then) j q v ≡ v
    unfolding due due_by
    new-due v empty = refl
    new-due v (more {e} fit rest) = rw (apart e (fit-pad fit)) (new-due v rest)

    pub new-tells : All (Fit (sheet_of h)) (waiting_list h) → Tells P alike (sheet_of then) then j (waiting_list then) false zero32
    new-tells fits =
        let off = new-hasbutton h s desk ok j new-own long in
        let pressed : cell_pressed (cell_at then j) ≡ false = unfold cell_at in rw off in
        let value : cell_value (cell_at then j) ≡ zero32 = unfold cell_at in rw off in
        subst (λ (q : List Event). Tells P alike (sheet_of then) then j q false zero32) (sym (same_queue h s desk ok))
        (record {
          pressed = pressed;
          value = new-due (cell_value (cell_at then j)) fits ∙ value;
          proper = subst P (sym value) zero-fits;
          still = new-hasaxis h s desk ok j new-own long;
          waits = new-waits fits;
        })
