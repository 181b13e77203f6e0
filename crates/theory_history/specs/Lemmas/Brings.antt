-- A record's step leaves at most three events to be handed out behind the one that goes out. By the cases of dispatch and of the conversion.
use Rattle.std.specs.Prelude.{ℕ, ◌≤◌, Bool, ◌&&◌, List, [], ◌≡◌, refl, Float}
use Rattle.std.proofs.Math.Bool.{true, false, not}
use Rattle.std.specs.Float.Ieee.{eq, le}
use native.Mathlib.Omega.{arith}
use Rattle.numbers.specs.Constants.{zero32, one32, minus_one32}
use Rattle.numbers.specs.Scale.{axis_scaled_of, button_scaled_of}
use Rattle.rules.specs.declared.Event.{Event}
use Rattle.rules.specs.declared.EventType.{EventType}
use Rattle.rules.specs.declared.EventType.TheVariants.{Pressed, Released, Changed, Axis, Connected, Disconnected}
use Rattle.rules.specs.declared.Element.{Element}
use Rattle.rules.specs.declared.RawRecord.{RawRecord}
use Rattle.rules.specs.declared.View.{View}
use Rattle.rules.specs.declared.Dispatched.{Dispatched}
use Rattle.rules.specs.Names.{is_axis, is_button, is_hat, is_y, partner_of, positive_name, negative_name, positive_code, negative_code}
use Rattle.rules.specs.Events.{name_of}
use Rattle.rules.specs.Hub.{flag_place}
use Rattle.rules.specs.Step.{flags_set}
use Rattle.rules.specs.Filters.{Direction, hat_by, hat_gives, filtered_of}
use Rattle.rules.specs.Dispatch.{Move, pressing, moving, joining, leaving, button_name, axis_name, amount, from, single, double, press_gives, trigger_by, trigger_gives, move_gives, dispatch_by}
use Rattle.theory_history.specs.Lemmas.Turns.{ev, plain_type, plain_more, changed-more, hat-more}
use Rattle.theory_history.specs.Lemmas.Waits.{empty, more}
use Rattle.theory_history.specs.Lemmas.Take.{queue_of}
use Rattle.theory_history.specs.Lemmas.Flags.{up_small}
use Rattle.theory_history.specs.Lemmas.Tails.{pressed, released, changed, Tail, buttons, Flagged, leaves}

pub record Few (after : List Bool) (q : List Event) : Type 0 where
  pub bound : ℕ
  pub tail : Tail after q bound
  pub few : bound ≤ 3

none_left : (after : List Bool) → Few after []
none_left after = record { bound = 0; tail = buttons empty; few = omega arith }

-- ---- a hat's events

hat-few : (after : List Bool) (o m a b : Bool) (pad time n c : ℕ) (z : Float) (plus minus : Direction) → Few after (hat_by o m a b (ev pad time (Axis n c z)) plus minus).queued
unfolding hat_by
hat-few after true m a false pad time n c z plus minus = record { bound = 1; tail = buttons (more changed empty); few = omega arith }
hat-few after true m a true pad time n c z plus minus =
    record { bound = 3; tail = buttons (more changed (more pressed (more changed empty))); few = omega arith }
hat-few after false true false b pad time n c z plus minus = record { bound = 1; tail = buttons (more changed empty); few = omega arith }
hat-few after false true true b pad time n c z plus minus =
    record { bound = 3; tail = buttons (more changed (more pressed (more changed empty))); few = omega arith }
hat-few after false false false false pad time n c z plus minus = none_left after
hat-few after false false true false pad time n c z plus minus = record { bound = 1; tail = buttons (more changed empty); few = omega arith }
hat-few after false false false true pad time n c z plus minus = record { bound = 1; tail = buttons (more changed empty); few = omega arith }
hat-few after false false true true pad time n c z plus minus =
    record { bound = 3; tail = buttons (more changed (more released (more changed empty))); few = omega arith }

-- ---- by the record's kind

module _ (flags : List Bool) (r : RawRecord) (see : Event → View) (flagged : (e : Event) → Flagged flags e (see e)) where
  abbrev after : Dispatched → List Bool
  after d = flags_set flags d.event.pad (name_of d.event) (filtered_of true (see d.event) d.event).flags

  abbrev Brings : Dispatched → Type 0
  Brings d = Few (after d) (queue_of d (see d.event))

  axis-by : (n : ℕ) (z : Float) (taken : Bool) → ((see (from r (Axis n r.code z))).converts && is_hat n) ≡ taken → Brings (single (from r (Axis n r.code z)))
  unfolding hat_gives name_of
  axis-by n z true t =
      let e = ev r.pad r.time (Axis n r.code z) in
      rw (hat-more (see e) r.pad r.time n r.code z t)
      (hat-few (flags_set flags r.pad n (filtered_of true (see e) e).flags) (eq z one32) (eq z minus_one32) (see e).positive (see e).negative r.pad r.time n r.code z (record { name = positive_name n; code = positive_code n })
      (record { name = negative_name n; code = negative_code n }))
  axis-by n z false t =
      let e = ev r.pad r.time (Axis n r.code z) in
      let l = leaves flags r.pad r.time n r.code z (see e) (flagged e).seen (flagged e).real t in
      let small = l.small in
      let two = up_small flags (flag_place r.pad n) (flag_place r.pad (partner_of n)) in
      record { bound = l.bound; tail = l.tail; few = omega arith }

  axis-brings : (n : ℕ) (z : Float) → Brings (single (from r (Axis n r.code z)))
  axis-brings n z = axis-by n z ((see (from r (Axis n r.code z))).converts && is_hat n) refl

  pair-brings : (t : EventType) (n c : ℕ) (z : Float) → plain_type t ≡ true → Brings (double (from r t) (from r (Changed n c z)))
  pair-brings t n c z plain =
      rw (plain_more (see (from r t)) r.pad r.time t plain) (record { bound = 1; tail = buttons (more changed empty); few = omega arith })

  press-by : (on axis : Bool) (n : ℕ) → is_axis n ≡ axis → Brings (press_gives r n on)
  unfolding press_gives
  press-by on true n e = rw e (axis-brings n (amount on))
  press-by true false n e = rw e (pair-brings (Pressed (button_name n) r.code) (button_name n) r.code one32 refl)
  press-by false false n e = rw e (pair-brings (Released (button_name n) r.code) (button_name n) r.code zero32 refl)

  trigger-brings : (down up : Bool) (n : ℕ) (z : Float) → Brings (trigger_by down up r n z)
  trigger-brings true up n z = pair-brings (Pressed n r.code) n r.code z refl
  trigger-brings false true n z = pair-brings (Released n r.code) n r.code z refl
  trigger-brings false false n z = rw (changed-more (see (from r (Changed n r.code z))) r.pad r.time n r.code z) (none_left _)

  move-by : (button : Bool) (n : ℕ) (el : Element) (held : Bool) (on off : Float) (reversed : Bool) → is_button n ≡ button → Brings (move_gives r n el held on off reversed)
  unfolding move_gives trigger_gives
  move-by true n el held on off reversed e =
      rw e
      (trigger-brings (le on (button_scaled_of el.low el.range r.value) && not held) (le (button_scaled_of el.low el.range r.value) off && held) n
      (button_scaled_of el.low el.range r.value))
  move-by false n el held on off reversed e =
      rw e (axis-brings (axis_name n) (axis_scaled_of el.low el.range el.odd (reversed && is_y (axis_name n)) r.value))

  pub brings : (m : Move) (n : ℕ) (el : Element) (held : Bool) (on off : Float) (reversed : Bool) → Brings (dispatch_by m r n el held on off reversed)
  brings (pressing on) n el held a b reversed = press-by on (is_axis n) n refl
  brings moving n el held a b reversed = move-by (is_button n) n el held a b reversed refl
  brings joining n el held a b reversed = rw (plain_more (see (from r Connected)) r.pad r.time Connected refl) (none_left _)
  brings leaving n el held a b reversed = rw (plain_more (see (from r Disconnected)) r.pad r.time Disconnected refl) (none_left _)
