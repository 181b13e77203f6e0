-- A record that does not concern a place leaves what it tells: of another code, or one that joins or leaves another pad, or a hat's move where the place is
-- none of its directions.
use Rattle.std.specs.Prelude.{ℕ, ◌<◌, Bool, ◌&&◌, [], ◌≡◌, Float, get_or}
use Rattle.std.proofs.Math.Bool.{true, false, not}
use Rattle.std.proofs.Math.Path.{refl, ap}
use Rattle.std.proofs.Common.{◌∙◌}
use Rattle.std.proofs.Math.Dec.{eqb}
use Rattle.std.specs.Float.Ieee.{le}
use Rattle.numbers.specs.Constants.{zero32, one32}
use Rattle.numbers.specs.Scale.{axis_scaled_of, button_scaled_of}
use Rattle.rules.specs.declared.Event.{Event}
use Rattle.rules.specs.declared.EventType.{EventType}
use Rattle.rules.specs.declared.EventType.TheVariants.{Pressed, Released, Changed, Axis, Connected, Disconnected}
use Rattle.rules.specs.declared.RawRecord.{RawRecord}
use Rattle.rules.specs.declared.Element.{Element}
use Rattle.rules.specs.declared.View.{View}
use Rattle.rules.specs.declared.Dispatched.{Dispatched}
use Rattle.rules.specs.Names.{no_name, is_button, is_axis, is_y, positive_code, negative_code}
use Rattle.rules.specs.Sheets.{element_axis}
use Rattle.rules.specs.Places.{place_of}
use Rattle.rules.specs.Dispatch.{Move, pressing, moving, joining, leaving, button_name, axis_name, press_type, amount, from, single, double, press_gives, trigger_by, trigger_gives, move_gives, dispatch_by}
use Rattle.rules.specs.Events.{code_type, code_of}
use Rattle.theory_history.specs.Lemmas.Cells.{hits}
use Rattle.theory_history.specs.Lemmas.Turns.{ev, plain_out, plain_more}
use Rattle.theory_history.specs.Lemmas.Waits.{Sheet, axial_at, takes, empty, change, stick, stick-apart}
use Rattle.theory_history.specs.Lemmas.Exact.{Sees}
use Rattle.theory_history.specs.Lemmas.Take.{Spares, pair-spares, single-spares, events-spare, hat-spares, joins, leaves}

-- where the pad takes an axis for its directions, they are other places
pub record Clear (s : Sheet) (k p n : ℕ) : Type 0 where
  pub plus : takes s p n ≡ true → eqb (place_of s.codes p (positive_code n)) k ≡ false
  pub minus : takes s p n ≡ true → eqb (place_of s.codes p (negative_code n)) k ≡ false

module _ (s : Sheet) (k : ℕ) (bare : axial_at s k ≡ false) (r : RawRecord) (old : r.pad < s.pads) (see : (e : Event) → View)
    (sees : (e : Event) → Sees s e (see e)) where
  abbrev place : ℕ
  place = place_of s.codes r.pad r.code

  abbrev Aside : Dispatched → Type 0
  Aside d = Spares s k d (see d.event)

  -- an axis event that the record gives
  axis-by : (n : ℕ) → Clear s k r.pad n → (z : Float) → axial_at s place ≡ true → (taken : Bool) → takes s r.pad n ≡ taken → Aside (single (from r (Axis n r.code z)))
  axis-by n clear z axial true t =
      let e = ev r.pad r.time (Axis n r.code z) in
      hat-spares s k (see e) bare r.pad r.time n r.code z old (unfold takes in rw (sees e).converts t) (clear.plus t) (clear.minus t)
  axis-by n clear z axial false t =
      let e = ev r.pad r.time (Axis n r.code z) in
      single-spares s k (see e) bare e (stick old axial t) (stick-apart s k r.pad r.time n r.code z bare axial) (sees e)

  pub axis-aside : (n : ℕ) → Clear s k r.pad n → (z : Float) → axial_at s place ≡ true → Aside (single (from r (Axis n r.code z)))
  axis-aside n clear z axial = axis-by n clear z axial (takes s r.pad n) refl

  -- Connected and Disconnected write nothing
  pub join-aside : Aside (single (from r Connected))
  join-aside =
      let e = from r Connected in
      events-spare s k (see e) bare e e [] r.pad r.time (plain_out (see e) r.pad r.time Connected refl) (plain_more (see e) r.pad r.time Connected refl) joins empty

  pub leave-aside : Aside (single (from r Disconnected))
  leave-aside =
      let e = from r Disconnected in
      events-spare s k (see e) bare e e [] r.pad r.time (plain_out (see e) r.pad r.time Disconnected refl) (plain_more (see e) r.pad r.time Disconnected refl) leaves empty

  -- ---- events of the record's own code, which is another place's

  module _ (apart : eqb place k ≡ false) where
    off : (t : EventType) → code_type t ≡ r.code → hits s.codes k (ev r.pad r.time t) ≡ false
    unfolding hits code_of
    off t same = ap (λ (c : ℕ). eqb (place_of s.codes r.pad c) k) same ∙ apart

    press-aside : (on : Bool) (n : ℕ) → Aside (double (from r (press_type on n r.code)) (from r (Changed n r.code (amount on))))
    press-aside true n =
        pair-spares s k _ bare r.pad r.time old (Pressed n r.code) n r.code one32 refl (off (Pressed n r.code) refl) (off (Changed n r.code one32) refl)
    press-aside false n =
        pair-spares s k _ bare r.pad r.time old (Released n r.code) n r.code zero32 refl (off (Released n r.code) refl) (off (Changed n r.code zero32) refl)

    trigger-aside : (down up : Bool) (n : ℕ) (z : Float) → Aside (trigger_by down up r n z)
    trigger-aside true up n z =
        pair-spares s k _ bare r.pad r.time old (Pressed n r.code) n r.code z refl (off (Pressed n r.code) refl) (off (Changed n r.code z) refl)
    trigger-aside false true n z =
        pair-spares s k _ bare r.pad r.time old (Released n r.code) n r.code z refl (off (Released n r.code) refl) (off (Changed n r.code z) refl)
    trigger-aside false false n z =
        single-spares s k _ bare (ev r.pad r.time (Changed n r.code z)) (change old) (off (Changed n r.code z) refl) (sees _)

    module _ (n : ℕ) (clear : Clear s k r.pad n) (clear-axis : Clear s k r.pad (axis_name n)) (name : get_or s.names place no_name ≡ n) (el : Element) (held : Bool) (pressed released : Float) (reversed : Bool) where
      pressing-by : (on axis : Bool) → is_axis n ≡ axis → Aside (press_gives r n on)
      unfolding press_gives
      pressing-by on true e = rw e (axis-aside n clear (amount on) (unfold axial_at in rw (name, e)))
      pressing-by on false e = rw e (press-aside on (button_name n))

      axial : (axis : Bool) → is_axis n ≡ axis → is_button n ≡ false → get_or s.kinds place 0 ≡ element_axis → axial_at s place ≡ true
      unfolding axial_at
      axial true a e kind = rw (name, a)
      axial false a e kind = rw (name, a, kind, e)

      moving-by : (button : Bool) → is_button n ≡ button → get_or s.kinds place 0 ≡ element_axis → Aside (move_gives r n el held pressed released reversed)
      unfolding move_gives trigger_gives
      moving-by true e kind =
          rw e
          (trigger-aside (le pressed (button_scaled_of el.low el.range r.value) && not held) (le (button_scaled_of el.low el.range r.value) released && held)
          n (button_scaled_of el.low el.range r.value))
      moving-by false e kind =
          rw e
          (axis-aside (axis_name n) clear-axis (axis_scaled_of el.low el.range el.odd (reversed && is_y (axis_name n)) r.value) (axial (is_axis n) refl e kind))

      pub move-aside : (m : Move) → (m ≡ moving → get_or s.kinds place 0 ≡ element_axis) → Aside (dispatch_by m r n el held pressed released reversed)
      move-aside (pressing on) kind = pressing-by on (is_axis n) refl
      move-aside moving kind = moving-by (is_button n) refl (kind refl)
      move-aside joining kind = join-aside
      move-aside leaving kind = leave-aside
