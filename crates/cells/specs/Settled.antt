-- What a kept event leaves of the state: the record that it writes, the mark that it stands, and how the place's button record reads with it, which tells what is
-- down. What is not written is as the law book has it too, since a list with an element set to what stands there is the same list.
use Rattle.std.specs.Prelude.{ℕ, ◌≡◌, refl, Bool, cond, ◌&&◌, ◌||◌, List, get_or, set, Float, eqb}
use Rattle.std.proofs.Math.Path.{sym}
use Rattle.std.proofs.Common.{◌∙◌, ap}
use Rattle.std.proofs.Math.Bool.{true, false, or-false, or-true}
use Rattle.std.proofs.lemmas.List.{set-get_or}
use Rattle.rules.specs.declared.Event.{Event}
use Rattle.rules.specs.declared.EventType.{EventType}
use Rattle.rules.specs.declared.EventType.TheVariants.{Pressed, Released, Repeated, Changed, Axis, Connected, Disconnected, Dropped}
use Rattle.rules.specs.declared.ButtonData.{ButtonData}
use Rattle.rules.specs.declared.AxisData.{AxisData}
use Rattle.rules.specs.Sheets.{element_axis}
use Rattle.rules.specs.Places.{place_of}
use Rattle.rules.specs.Events.{code_of}
use Rattle.rules.specs.State.{button_type, axis_type, writes_button_type, writes_axis_type, button_after, axis_after, writes_button, writes_axis, read_pressed}
use Rattle.rules.specs.Down.{changes}
use Rattle.rules.specs.Hub.{past_button, past_axis, pressed_at}
use Rattle.rules.specs.Step.{followed_at, updated_at, updated_of}
use Rattle.columns.specs.Columns.{elements_of, buttons_of, axes_of, slots_of}
use Rattle.columns.specs.Stores.{ButtonPut, AxisPut}
use Rattle.down.specs.Down.{still, change_of, was_of, is_of, Followed, Alike, unmoved, alike-still, alike-change, followed-alike}
use Rattle.hub.specs.declared.Head.{Head}
use Rattle.hub.specs.Heads.{head_down}
use Rattle.hub.specs.Lent.{Listed, columns, hub_of}

-- ---- an event writes a button record, an axis record, or none

button-same :
    (t : EventType) (known : Bool) (b : ButtonData) (time counter : ℕ) → writes_button_type t ≡ false → button_type t known b time counter ≡ b
button-same (Pressed n c) known b time counter e = cc
button-same (Released n c) known b time counter e = cc
button-same (Repeated n c) known b time counter e = cc
button-same (Changed n c v) known b time counter e = cc
button-same (Axis n c v) known b time counter e = refl
button-same Connected known b time counter e = refl
button-same Disconnected known b time counter e = refl
button-same Dropped known b time counter e = refl

axis-same : (t : EventType) (a : AxisData) (time counter : ℕ) → writes_axis_type t ≡ false → axis_type t a time counter ≡ a
axis-same (Axis n c v) a time counter e = cc
axis-same (Pressed n c) a time counter e = refl
axis-same (Released n c) a time counter e = refl
axis-same (Repeated n c) a time counter e = refl
axis-same (Changed n c v) a time counter e = refl
axis-same Connected a time counter e = refl
axis-same Disconnected a time counter e = refl
axis-same Dropped a time counter e = refl

one-record : (t : EventType) → writes_button_type t ≡ true → writes_axis_type t ≡ false
one-record (Axis n c v) e = cc
one-record (Pressed n c) e = refl
one-record (Released n c) e = refl
one-record (Repeated n c) e = refl
one-record (Changed n c v) e = refl
one-record Connected e = refl
one-record Disconnected e = refl
one-record Dropped e = refl

-- a record as an event leaves it, where updates are on
abbrev pub button_left : Bool → Event → Bool → ButtonData → ℕ → ButtonData
button_left on e known b counter = cond on (button_after e known b counter) b

abbrev pub axis_left : Bool → Event → AxisData → ℕ → AxisData
axis_left on e a counter = cond on (axis_after e a counter) a

button-stays :
    (on : Bool) (e : Event) (known : Bool) (b : ButtonData) (counter : ℕ) → (on && writes_button e) ≡ false → button_left on e known b counter ≡ b
unfolding button_after writes_button
button-stays true e known b counter none = button-same e.event known b e.time counter none
button-stays false e known b counter none = refl

axis-stays : (on : Bool) (e : Event) (a : AxisData) (counter : ℕ) → (on && writes_axis e) ≡ false → axis_left on e a counter ≡ a
unfolding axis_after writes_axis
axis-stays true e a counter none = axis-same e.event a e.time counter none
axis-stays false e a counter none = refl

button-alone : (on : Bool) (e : Event) → writes_button e ≡ true → (on && writes_axis e) ≡ false
unfolding writes_button writes_axis
button-alone true e h = one-record e.event h
button-alone false e h = refl

-- ---- the state after an event whose code stands at k

-- whether the button record of a place is pressed, and whether it is after the event
abbrev pub was_pressed : List Bool → List ButtonData → ℕ → Bool
was_pressed hasbutton buttons k = read_pressed (get_or hasbutton k false) (get_or buttons k past_button)

abbrev pub is_pressed : Bool → Event → ℕ → List Bool → List ButtonData → ℕ → Bool
is_pressed on e counter hasbutton buttons k =
    read_pressed (get_or hasbutton k false || (on && writes_button e)) (button_left on e (get_or hasbutton k false) (get_or buttons k past_button) counter)

pub record Settled
    (hasbutton hasaxis : List Bool) (vs : List Float) (ts : List ℕ) (ms : List Bool) (k : ℕ) (on : Bool) (e : Event) (counter change : ℕ)
    (hasbutton' hasaxis' : List Bool) (vs' : List Float) (ts' : List ℕ) (ms' : List Bool) :
    Type 0 where
  pub hasbutton-is : hasbutton' ≡ set hasbutton k (get_or hasbutton k false || (on && writes_button e))
  pub hasaxis-is : hasaxis' ≡ set hasaxis k (get_or hasaxis k false || (on && writes_axis e))
  pub buttons : buttons_of vs' ts' ms' ≡ set (buttons_of vs ts ms) k (button_left on e (get_or hasbutton k false) (get_or (buttons_of vs ts ms) k past_button) counter)
  pub axes : axes_of vs' ts' ≡ set (axes_of vs ts) k (axis_left on e (get_or (axes_of vs ts) k past_axis) counter)
  pub elements : elements_of vs' ms' ≡ elements_of vs ms
  pub slots : (bs cs : List ℕ) → slots_of vs' ts' bs cs ≡ slots_of vs ts bs cs
  pub alike : Alike k (was_pressed hasbutton (buttons_of vs ts ms) k) (is_pressed on e counter hasbutton (buttons_of vs ts ms) k) change

-- a mark that is not set, and one that is
mark-same : (l : List Bool) (k : ℕ) (on writes : Bool) → (on && writes) ≡ false → l ≡ set l k (get_or l k false || (on && writes))
mark-same l k on writes none = rw (none, or-false) (sym (set-get_or l k false))

mark_set : (l : List Bool) (k : ℕ) {on writes : Bool} → on ≡ true → writes ≡ true → set l k true ≡ set l k (get_or l k false || (on && writes))
mark_set l k eon ew = rw (eon, ew, or-true)

-- a record that is not written
buttons-same :
    (bs : List ButtonData) (k : ℕ) (on : Bool) (e : Event) (known : Bool) (counter : ℕ) →
    (on && writes_button e) ≡ false →
    bs ≡ set bs k (button_left on e known (get_or bs k past_button) counter)
buttons-same bs k on e known counter none =
    sym (ap (set bs k) (button-stays on e known (get_or bs k past_button) counter none) ∙ set-get_or bs k past_button)

axes-same :
    (axes : List AxisData) (k : ℕ) (on : Bool) (e : Event) (counter : ℕ) →
    (on && writes_axis e) ≡ false →
    axes ≡ set axes k (axis_left on e (get_or axes k past_axis) counter)
axes-same axes k on e counter none =
    sym (ap (set axes k) (axis-stays on e (get_or axes k past_axis) counter none) ∙ set-get_or axes k past_axis)

-- and reads as it did
reads_same :
    (hasbutton : List Bool) (bs : List ButtonData) (k : ℕ) (on : Bool) (e : Event) (counter : ℕ) →
    (on && writes_button e) ≡ false →
    changes (was_pressed hasbutton bs k) (is_pressed on e counter hasbutton bs k) ≡ false
reads_same hasbutton bs k on e counter none =
    rw (none, or-false, button-stays on e (get_or hasbutton k false) (get_or bs k past_button) counter none) (unmoved (was_pressed hasbutton bs k))

-- ---- what the code leaves: nothing written, a button record, an axis record

module _ {hasbutton hasaxis : List Bool} {vs : List Float} {ts : List ℕ} {ms : List Bool} {k : ℕ} {on : Bool} {e : Event} {counter : ℕ} where
  pub settled-none :
      (on && writes_button e) ≡ false → (on && writes_axis e) ≡ false → Settled hasbutton hasaxis vs ts ms k on e counter still hasbutton hasaxis vs ts ms
  settled-none no-button no-axis =
      record {
        hasbutton-is = mark-same hasbutton k on (writes_button e) no-button;
        hasaxis-is = mark-same hasaxis k on (writes_axis e) no-axis;
        buttons = buttons-same (buttons_of vs ts ms) k on e (get_or hasbutton k false) counter no-button;
        axes = axes-same (axes_of vs ts) k on e counter no-axis;
        elements = refl;
        slots = λ bs cs. refl;
        alike = alike-still k _ _ (reads_same hasbutton (buttons_of vs ts ms) k on e counter no-button);
      }

  pub settled-button :
      {hasbutton' : List Bool} {vs' : List Float} {ts' : List ℕ} {ms' : List Bool} {known writes was : Bool} {b nb : ButtonData} {change : ℕ} →
      on ≡ true →
      writes ≡ writes_button e →
      writes ≡ true →
      known ≡ get_or hasbutton k false →
      b ≡ get_or (buttons_of vs ts ms) k past_button →
      was ≡ read_pressed known b →
      nb ≡ button_after e known b counter →
      ButtonPut vs ts ms k nb vs' ts' ms' →
      hasbutton' ≡ set hasbutton k true →
      change ≡ change_of was nb.pressed →
      Settled hasbutton hasaxis vs ts ms k on e counter change hasbutton' hasaxis vs' ts' ms'
  unfolding read_pressed
  settled-button {was = was} {nb = nb} eon ew does ek eb es enb p et ec =
      let writes-it : writes_button e ≡ true = sym ew ∙ does in
      let no-axis : (on && writes_axis e) ≡ false = button-alone on e writes-it in
      let was-is : was ≡ was_pressed hasbutton (buttons_of vs ts ms) k = es ∙ rw (ek, eb) in
      let is-now : nb.pressed ≡ is_pressed on e counter hasbutton (buttons_of vs ts ms) k = rw (eon, writes-it, or-true, enb, ek, eb) in
      record {
        hasbutton-is = et ∙ mark_set hasbutton k eon writes-it;
        hasaxis-is = mark-same hasaxis k on (writes_axis e) no-axis;
        buttons = p.buttons ∙ rw (eon, enb, eb, ek);
        axes = p.axes ∙ axes-same (axes_of vs ts) k on e counter no-axis;
        elements = p.elements;
        slots = p.slots;
        alike = rw (ec, ← was-is, ← is-now) (alike-change k was nb.pressed);
      }

  pub settled-axis :
      {hasaxis' : List Bool} {vs' : List Float} {ts' : List ℕ} {writes moves : Bool} {a na : AxisData} →
      on ≡ true →
      writes ≡ writes_button e →
      writes ≡ false →
      moves ≡ writes_axis e →
      moves ≡ true →
      a ≡ get_or (axes_of vs ts) k past_axis →
      na ≡ axis_after e a counter →
      AxisPut vs ts k na vs' ts' →
      hasaxis' ≡ set hasaxis k true →
      Settled hasbutton hasaxis vs ts ms k on e counter still hasbutton hasaxis' vs' ts' ms
  settled-axis eon ew none em does ea ena p et =
      let no-button : (on && writes_button e) ≡ false = rw (eon, ← ew) none in
      record {
        hasbutton-is = mark-same hasbutton k on (writes_button e) no-button;
        hasaxis-is = et ∙ mark_set hasaxis k eon (sym em ∙ does);
        buttons = p.buttons ms ∙ buttons-same (buttons_of vs ts ms) k on e (get_or hasbutton k false) counter no-button;
        axes = p.axes ∙ rw (eon, ena, ea);
        elements = p.elements ms;
        slots = p.slots;
        alike = alike-still k _ _ (reads_same hasbutton (buttons_of vs ts ms) k on e counter no-button);
      }

-- ---- the hub: the law book's after the event

pub settled-hub :
    (d : Head) (s : Listed) (bytes codes : List ℕ) (on : Bool) (e : Event) {k : ℕ} {hasbutton hasaxis hasbutton' hasaxis' : List Bool} {vs vs' : List Float}
    {ts ts' : List ℕ} {ms ms' : List Bool} {change : ℕ} {down held heldaxes : List ℕ} →
    k ≡ place_of s.codes e.pad (code_of e) →
    Settled hasbutton hasaxis vs ts ms k on e d.counter change hasbutton' hasaxis' vs' ts' ms' →
    Followed d.down d.held d.heldaxes k (was_of change) (is_of change) (eqb (get_or s.kinds k 0) element_axis) down held heldaxes →
    hub_of (head_down d down held heldaxes) s (columns hasbutton' hasaxis' vs' ts' ms' bytes codes)
    ≡ updated_of on (hub_of d s (columns hasbutton hasaxis vs ts ms bytes codes)) e
unfolding updated_of updated_at followed_at pressed_at
settled-hub d s bytes codes on e ek p follows =
    let f = followed-alike p.alike follows in
    rw (
      ← ek,
      p.hasbutton-is,
      p.hasaxis-is,
      p.buttons,
      p.axes,
      p.elements,
      p.slots bytes codes,
      f.down_is,
      f.held-is,
      f.heldaxes-is,
    )
