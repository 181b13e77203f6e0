-- 01's weighted sum: "count a waiting DPadX or DPadY axis event as 4, any other as 1". What a record's event and the one behind it bring weighs at most 4. By the
-- event's cases. (That what the filters queue behind an event weighs at most what the event weighed: `proofs/Weight.antt`.)
use Rattle.std.specs.Prelude.{ℕ, ◌+◌, ◌*◌, ◌≤◌, Bool, not, ◌&&◌, List, [], ◌∷◌, ◌++◌, ◌≡◌, refl, eqb, Float, length}
use Rattle.std.proofs.Math.Bool.{true, false, cond}
use Rattle.std.specs.Float.Ieee.{le}
use native.Mathlib.Omega.{arith}
use Rattle.std.proofs.Common.{eqb-true}
use Rattle.numbers.specs.Scale.{button_scaled_of}
use Rattle.rules.specs.declared.Event.{Event}
use Rattle.rules.specs.declared.EventType.{EventType}
use Rattle.rules.specs.declared.EventType.TheVariants.{Pressed, Released, Repeated, Changed, Axis, Connected, Disconnected, Dropped}
use Rattle.rules.specs.declared.RawRecord.{RawRecord}
use Rattle.rules.specs.declared.Element.{Element}
use Rattle.rules.specs.declared.Dispatched.{Dispatched}
use Rattle.rules.specs.Names.{is_hat, is_axis, is_button, partner_of, left_stick_x, left_stick_y, right_stick_x, right_stick_y, dpad_x, dpad_y}
use Rattle.rules.specs.Dispatch.{Move, pressing, moving, joining, leaving, move_of, axis_name, press_gives, trigger_by, trigger_gives, move_gives, dispatch_by, dispatch_of}

-- ---- the weighted sum

abbrev pub hat_weight : ℕ
hat_weight = 4

abbrev pub weight_type : EventType → ℕ
weight_type (Axis n c v) = cond (is_hat n) hat_weight 1
weight_type (Pressed n c) = 1
weight_type (Released n c) = 1
weight_type (Repeated n c) = 1
weight_type (Changed n c v) = 1
weight_type Connected = 1
weight_type Disconnected = 1
weight_type Dropped = 1

unfoldable pub weight_of : Event → ℕ
weight_of e = weight_type e.event

unfoldable pub weigh : List Event → ℕ
unfolding weight_of
weigh [] = 0
weigh (e ∷ es) = weight_of e + weigh es

-- an event weighs 1 to 4
axis-weight : (hat : Bool) → (1 ≤ cond hat hat_weight 1) × (cond hat hat_weight 1 ≤ hat_weight)
axis-weight true = (omega arith, omega arith)
axis-weight false = (omega arith, omega arith)

type-weight : (t : EventType) → (1 ≤ weight_type t) × (weight_type t ≤ hat_weight)
type-weight (Axis n c v) = axis-weight (is_hat n)
type-weight (Pressed n c) = (omega arith, omega arith)
type-weight (Released n c) = (omega arith, omega arith)
type-weight (Repeated n c) = (omega arith, omega arith)
type-weight (Changed n c v) = (omega arith, omega arith)
type-weight Connected = (omega arith, omega arith)
type-weight Disconnected = (omega arith, omega arith)
type-weight Dropped = (omega arith, omega arith)

pub event-weight : (e : Event) → (1 ≤ weight_of e) × (weight_of e ≤ hat_weight)
unfolding weight_of
event-weight e = type-weight e.event

-- a list weighs at least its length, and at most four times as much
pub weigh-bounds : (es : List Event) → (length es ≤ weigh es) × (weigh es ≤ hat_weight * length es)
unfolding weigh
weigh-bounds [] = (omega arith, omega arith)
weigh-bounds (e ∷ es) =
    let one = event-weight e in
    let rest = weigh-bounds es in
    (omega arith, omega arith)

pub weigh-append : (front back : List Event) → weigh (front ++ back) ≡ weigh front + weigh back
unfolding weigh
weigh-append [] back = omega arith
weigh-append (e ∷ front) back =
    let rest = weigh-append front back in
    omega arith

-- ---- a hat's partner

-- a hat's partner is a hat, and no other axis's is: a clearing event weighs what its cause weighs
pub partner-hat : (n : ℕ) → is_hat (partner_of n) ≡ is_hat n
unfolding is_hat partner_of
partner-hat n =
    by (eqb n left_stick_x) (eqb n left_stick_y) (eqb n right_stick_x) (eqb n right_stick_y) (eqb n dpad_x) (eqb n dpad_y) refl refl refl refl refl refl
  where
    by : (a b c d x y : Bool) → eqb n left_stick_x ≡ a → eqb n left_stick_y ≡ b → eqb n right_stick_x ≡ c → eqb n right_stick_y ≡ d → eqb n dpad_x ≡ x
        → eqb n dpad_y ≡ y → is_hat (partner_of n) ≡ is_hat n
    by true b c d x y ea eb ec ed ex ey = rw (eqb-true n left_stick_x ea)
    by false true c d x y ea eb ec ed ex ey = rw (eqb-true n left_stick_y eb)
    by false false true d x y ea eb ec ed ex ey = rw (eqb-true n right_stick_x ec)
    by false false false true x y ea eb ec ed ex ey = rw (eqb-true n right_stick_y ed)
    by false false false false true y ea eb ec ed ex ey = rw (eqb-true n dpad_x ex)
    by false false false false false true ea eb ec ed ex ey = rw (eqb-true n dpad_y ey)
    by false false false false false false ea eb ec ed ex ey = rw (ea, eb, ec, ed, ex, ey)

-- ---- what a record brings: its event, and the one behind it

unfoldable pub brought : Dispatched → ℕ
unfolding weight_of
brought d = weight_of d.event + cond d.follows (weight_of d.next) 0

hat-most : (hat : Bool) → cond hat hat_weight 1 + 0 ≤ hat_weight
hat-most true = omega arith
hat-most false = omega arith

press-brings : (r : RawRecord) (n : ℕ) (on axis : Bool) → is_axis n ≡ axis → brought (press_gives r n on) ≤ hat_weight
unfolding press_gives brought weight_of
press-brings r n on true e = rw e (hat-most (is_hat n))
press-brings r n true false e = rw e (omega arith)
press-brings r n false false e = rw e (omega arith)

trigger-brings : (presses releases : Bool) (r : RawRecord) (n : ℕ) (x : Float) → brought (trigger_by presses releases r n x) ≤ hat_weight
unfolding brought weight_of
trigger-brings true releases r n x = omega arith
trigger-brings false true r n x = omega arith
trigger-brings false false r n x = omega arith

move-brings : (r : RawRecord) (n : ℕ) (e : Element) (held : Bool) (pressed released : Float) (reversed button : Bool) → is_button n ≡ button
    → brought (move_gives r n e held pressed released reversed) ≤ hat_weight
unfolding move_gives trigger_gives brought weight_of
move-brings r n e held pressed released reversed true is =
    rw is (trigger-brings (le pressed (button_scaled_of e.low e.range r.value) && not held) (le (button_scaled_of e.low e.range r.value) released && held) r n _)
move-brings r n e held pressed released reversed false is = rw is (hat-most (is_hat (axis_name n)))

kind-brings : (m : Move) (r : RawRecord) (n : ℕ) (e : Element) (held : Bool) (pressed released : Float) (reversed : Bool)
    → brought (dispatch_by m r n e held pressed released reversed) ≤ hat_weight
kind-brings (pressing on) r n e held pressed released reversed = press-brings r n on (is_axis n) refl
kind-brings moving r n e held pressed released reversed = move-brings r n e held pressed released reversed (is_button n) refl
kind-brings joining r n e held pressed released reversed = unfold brought weight_of in omega arith
kind-brings leaving r n e held pressed released reversed = unfold brought weight_of in omega arith

-- a record brings at most 4
pub record-brings : (r : RawRecord) (n : ℕ) (e : Element) (held : Bool) (pressed released : Float) (reversed : Bool)
    → brought (dispatch_of r n e held pressed released reversed) ≤ hat_weight
unfolding dispatch_of
record-brings r n e held pressed released reversed = kind-brings (move_of r.kind) r n e held pressed released reversed
