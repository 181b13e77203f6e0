-- A step that takes a record, on an empty queue: what a place tells after it, from what the filters make of the event that the record gives.
use Rattle.std.specs.Prelude.{ℕ, ◌<◌, Bool, cond, ◌&&◌, ◌||◌, List, ◌++◌, ◌≡◌, eqb, Float, get_or}
use Rattle.std.proofs.Math.Bool.{true, false}
use Rattle.std.proofs.Math.Path.{refl}
use Rattle.std.proofs.Common.{sym, ◌∙◌, ap, subst}
use Rattle.std.specs.Float.Ieee.{eq}
use Rattle.numbers.specs.Constants.{one32, minus_one32}
use Rattle.rules.specs.declared.Hub.{Hub}
use Rattle.rules.specs.declared.Event.{Event}
use Rattle.rules.specs.declared.EventType.{EventType}
use Rattle.rules.specs.declared.EventType.TheVariants.{Pressed, Released, Changed, Axis, Connected, Disconnected, Dropped}
use Rattle.rules.specs.declared.RawRecord.{RawRecord}
use Rattle.rules.specs.declared.View.{View}
use Rattle.rules.specs.declared.Dispatched.{Dispatched}
use Rattle.rules.specs.Names.{nowhere, no_name, is_hat, positive_name, negative_name, positive_code, negative_code}
use Rattle.rules.specs.Places.{place_of, present_names}
use Rattle.rules.specs.Events.{code_type, code_of, event_if}
use Rattle.rules.specs.State.{writes_axis_type}
use Rattle.rules.specs.Filters.{Direction, hat_by, hat_gives}
use Rattle.rules.specs.Dispatch.{Move, move_of, dispatch_by, dispatch_of, single, double}
use Rattle.rules.specs.Hub.{place_in, element_at, pressed_at, has_axis_at, view_of}
use Rattle.rules.specs.Step.{record_gives, taken_of, marked_of, step_hub}
use Rattle.theory_calls.specs.Waiting.{waiting_list, empty-rest}
use Rattle.theory_calls.specs.Queue.{Sound, pushes_in}
use Rattle.theory_calls.proofs.Queue.{nothing-lost}
use Rattle.theory_history.specs.Lemmas.Cells.{Cell, cell_at, cell_pressed, cell_value, hits}
use Rattle.theory_history.specs.Lemmas.Turns.{ev, out_of, more_of, plain_type, plain_out, plain_more, hat-out, hat-more}
use Rattle.theory_history.specs.Lemmas.Steps.{Ready, look_at, record-taken, pushes-of, cell-of, hasaxis-of}
use Rattle.theory_history.specs.Lemmas.Waits.{Sheet, sheet_of, axial_at, All, empty, more, Fit, press, release, change}
use Rattle.theory_history.specs.Lemmas.Exact.{Sees, put_at, moves_at, Apart, same-either, down-either, stays, queues}
use Rattle.theory_history.specs.Lemmas.Served.{due, Waiting, put, apart-waits, apart-later}
use Rattle.theory_history.specs.Lemmas.Serve.{Tells, same-sheet}

-- the record's element, by the sheet: no pad is renamed
pub gives-is : (h : Hub) (r : RawRecord) → Ready h
    → record_gives h r (place_in h r.pad r.code)
    ≡ dispatch_of r (get_or h.names (place_in h r.pad r.code) no_name) (element_at h (place_in h r.pad r.code))
    (pressed_at h (place_in h r.pad r.code)) h.pressed h.released h.reversed
unfolding record_gives present_names
gives-is h r w =
    ap
    (λ (renamed : Bool).
    dispatch_of r (get_or (cond renamed h.renames h.names) (place_in h r.pad r.code) no_name) (element_at h (place_in h r.pad r.code))
    (pressed_at h (place_in h r.pad r.code)) h.pressed h.released h.reversed)
    (w.named r.pad)

-- what is taken, by the record's kind
pub taken_as : (h : Hub) (r : RawRecord) → Ready h → h.waiting ≡ 0 → (m : Move) → move_of r.kind ≡ m
    → taken_of h (look_at r)
    ≡ dispatch_by m r (get_or h.names (place_of h.codes r.pad r.code) no_name) (element_at h (place_of h.codes r.pad r.code))
    (pressed_at h (place_of h.codes r.pad r.code)) h.pressed h.released h.reversed
unfolding dispatch_of
taken_as h r w none m e =
    record-taken h r none
    ∙ (gives-is h r w
    ∙ ap
    (λ (t : Move).
    dispatch_by t r (get_or h.names (place_of h.codes r.pad r.code) no_name) (element_at h (place_of h.codes r.pad r.code))
    (pressed_at h (place_of h.codes r.pad r.code)) h.pressed h.released h.reversed)
    e)

-- what a step queues
abbrev pub queue_of : Dispatched → View → List Event
queue_of d v = event_if d.follows d.next ++ more_of v d.event

module _ (P : Float → Type 0) (alike : (a b : Float) → P a → P b → eq a b ≡ true → a ≡ b) where
  -- what the place holds and what waits for it after the step tell b and f
  pub record Fine (s : Sheet) (k : ℕ) (d : Dispatched) (v : View) (x : Cell) (b : Bool) (f : Float) : Type 0 where
    pub pressed : cell_pressed (put P alike s k (out_of v d.event) x) ≡ b
    pub value : due s k (queue_of d v) (cell_value (put P alike s k (out_of v d.event) x)) ≡ f
    pub proper : P (cell_value (put P alike s k (out_of v d.event) x))
    pub still : (cond (hits s.codes k (out_of v d.event)) (false || writes_axis_type (out_of v d.event).event) false) ≡ false
    pub waits : All (Waiting P alike s k) (queue_of d v)

  module _ (h : Hub) (w : Ready h) (sound : Sound h) (r : RawRecord) (none : h.waiting ≡ 0) (k : ℕ) (inside : k < nowhere)
      (still : has_axis_at (marked_of h r) k ≡ false) (d : Dispatched) (taken : taken_of h (look_at r) ≡ d) (b : Bool) (f : Float) where
    pub take-tells : Fine (sheet_of h) k d (view_of (marked_of h r) d.event) (cell_at (marked_of h r) k) b f
        → Tells P alike (sheet_of (step_hub h (look_at r))) (step_hub h (look_at r)) k (waiting_list (step_hub h (look_at r))) b f
    take-tells z =
        let s = sheet_of h in
        let v = view_of (marked_of h r) d.event in
        let queue : waiting_list (step_hub h (look_at r)) ≡ queue_of d v =
        nothing-lost h (look_at r) sound ∙ (ap (λ (es : List Event). es ++ pushes_in h (look_at r)) (empty-rest h none) ∙ pushes-of h (look_at r) w d taken) in
        let cell = cell-of h (look_at r) w d taken k inside in
        subst (λ (g : Sheet). Tells P alike g (step_hub h (look_at r)) k (waiting_list (step_hub h (look_at r))) b f) (sym (same-sheet h (look_at r)))
        (record {
          pressed = ap cell_pressed cell ∙ z.pressed;
          value =
              ap (λ (es : List Event). due s k es (cell_value (cell_at (step_hub h (look_at r)) k))) queue
              ∙ (ap (λ (y : Float). due s k (queue_of d v) y) (ap cell_value cell) ∙ z.value);
          proper = subst P (sym (ap cell_value cell)) z.proper;
          still =
              hasaxis-of h (look_at r) w d taken k inside
              ∙ (ap (λ (m : Bool). cond (hits h.codes k (out_of v d.event)) (m || writes_axis_type (out_of v d.event).event) m) still ∙ z.still);
          waits = subst (All (Waiting P alike s k)) (sym queue) z.waits;
        })

-- ---- records that leave a place alone

pub record Spares (s : Sheet) (k : ℕ) (d : Dispatched) (v : View) : Type 0 where
  pub cell : (x : Cell) → put_at s k (out_of v d.event) x ≡ x
  pub still : moves_at s k (out_of v d.event) ≡ false
  pub queue : All (Apart s k) (queue_of d v)

-- so what it tells stays
pub spared : (P : Float → Type 0) (alike : (a b : Float) → P a → P b → eq a b ≡ true → a ≡ b) (s : Sheet) (k : ℕ) (d : Dispatched) (v : View) (x : Cell) → P (cell_value x)
    → Spares s k d v → Fine P alike s k d v x (cell_pressed x) (cell_value x)
spared P alike s k d v x p a =
    let same = a.cell x in
    record {
      pressed = ap cell_pressed same;
      value = ap (λ (y : Float). due s k (queue_of d v) y) (ap cell_value same) ∙ apart-later P alike s k a.queue (cell_value x);
      proper = subst P (sym (ap cell_value same)) p;
      still = a.still;
      waits = apart-waits P alike s k a.queue;
    }

module _ (s : Sheet) (k : ℕ) (v : View) (bare : axial_at s k ≡ false) where
  -- a press or a release of another place, and the value behind it
  pub pair-spares : (pad time : ℕ) → pad < s.pads → (t : EventType) (n c : ℕ) (z : Float) → plain_type t ≡ true → hits s.codes k (ev pad time t) ≡ false
      → hits s.codes k (ev pad time (Changed n c z)) ≡ false → Spares s k (double (ev pad time t) (ev pad time (Changed n c z))) v
  pair-spares pad time inside t n c z plain apart after =
      let o = plain_out v pad time t plain in
      let m = plain_more v pad time t plain in
      record { cell = λ x. rw (o, apart); still = rw (o, apart); queue = rw m (more (record { fit = change inside; apart = after }) empty) }

  -- an event that may wait, alone
  pub single-spares : (e : Event) → Fit s e → hits s.codes k e ≡ false → Sees s e v → Spares s k (single e) v
  single-spares e fit apart sees =
      let a = stays s k bare v fit apart sees in
      record { cell = a.0; still = a.1; queue = queues s k bare v fit sees }

  -- what goes out writes nothing
  pub data Idle (pad time : ℕ) : Event → Type 0 where
    passes : {t : EventType} → plain_type t ≡ true → hits s.codes k (ev pad time t) ≡ false → Idle pad time (ev pad time t)
    drops : Idle pad time (ev pad time Dropped)
    joins : Idle pad time (ev pad time Connected)
    leaves : Idle pad time (ev pad time Disconnected)

  idle-cell : {pad time : ℕ} {o : Event} → Idle pad time o → (x : Cell) → put_at s k o x ≡ x
  idle-cell (passes plain apart) x = rw apart
  idle-cell {pad} {time} drops x = same-either (hits s.codes k (ev pad time Dropped)) x
  idle-cell {pad} {time} joins x = same-either (hits s.codes k (ev pad time Connected)) x
  idle-cell {pad} {time} leaves x = same-either (hits s.codes k (ev pad time Disconnected)) x

  idle-still : {pad time : ℕ} {o : Event} → Idle pad time o → moves_at s k o ≡ false
  idle-still (passes plain apart) = rw apart
  idle-still {pad} {time} drops = down-either (hits s.codes k (ev pad time Dropped))
  idle-still {pad} {time} joins = down-either (hits s.codes k (ev pad time Connected))
  idle-still {pad} {time} leaves = down-either (hits s.codes k (ev pad time Disconnected))

  pub events-spare : (e o : Event) (q : List Event) (pad time : ℕ) → out_of v e ≡ o → more_of v e ≡ q → Idle pad time o → All (Apart s k) q → Spares s k (single e) v
  events-spare e o q pad time out queue idle apart =
      record { cell = λ x. rw out (idle-cell idle x); still = rw out (idle-still idle); queue = rw queue apart }

  -- ---- the events of a hat

  module _ (pad time n c : ℕ) (z : Float) (inside : pad < s.pads) (pn pc mn mc : ℕ) (pa : eqb (place_of s.codes pad pc) k ≡ false) (ma : eqb (place_of s.codes pad mc) k ≡ false) where
    abbrev e : Event
    e = ev pad time (Axis n c z)

    abbrev plus : Direction
    plus = record { name = pn; code = pc }

    abbrev minus : Direction
    minus = record { name = mn; code = mc }

    off : (t : EventType) → eqb (place_of s.codes pad (code_type t)) k ≡ false → hits s.codes k (ev pad time t) ≡ false
    unfolding hits code_of
    off t apart = apart

    value-plus : {y : Float} → Apart s k (ev pad time (Changed pn pc y))
    value-plus {y} = record { fit = change inside; apart = off (Changed pn pc y) pa }

    value-minus : {y : Float} → Apart s k (ev pad time (Changed mn mc y))
    value-minus {y} = record { fit = change inside; apart = off (Changed mn mc y) ma }

    hat-by : (o m l r : Bool) → out_of v e ≡ (hat_by o m l r e plus minus).event → more_of v e ≡ (hat_by o m l r e plus minus).queued → Spares s k (single e) v
    unfolding hat_by
    hat-by true m l false out queue = events-spare e _ _ pad time out queue (passes refl (off (Pressed pn pc) pa)) (more value-plus empty)
    hat-by true m l true out queue =
        events-spare e _ _ pad time out queue (passes refl (off (Released mn mc) ma))
        (more value-plus (more (record { fit = press inside; apart = off (Pressed pn pc) pa }) (more value-minus empty)))
    hat-by false true false r out queue = events-spare e _ _ pad time out queue (passes refl (off (Pressed mn mc) ma)) (more value-minus empty)
    hat-by false true true r out queue =
        events-spare e _ _ pad time out queue (passes refl (off (Released pn pc) pa))
        (more value-minus (more (record { fit = press inside; apart = off (Pressed mn mc) ma }) (more value-plus empty)))
    hat-by false false false false out queue = events-spare e _ _ pad time out queue drops empty
    hat-by false false true false out queue = events-spare e _ _ pad time out queue (passes refl (off (Released pn pc) pa)) (more value-plus empty)
    hat-by false false false true out queue = events-spare e _ _ pad time out queue (passes refl (off (Released mn mc) ma)) (more value-minus empty)
    hat-by false false true true out queue =
        events-spare e _ _ pad time out queue (passes refl (off (Released mn mc) ma))
        (more value-plus (more (record { fit = release inside; apart = off (Released pn pc) pa }) (more value-minus empty)))

  -- a hat's move on a converting pad, whose directions are other places
  pub hat-spares : (pad time n c : ℕ) (z : Float) → pad < s.pads → (v.converts && is_hat n) ≡ true → eqb (place_of s.codes pad (positive_code n)) k ≡ false
      → eqb (place_of s.codes pad (negative_code n)) k ≡ false → Spares s k (single (ev pad time (Axis n c z))) v
  hat-spares pad time n c z inside taken plus minus =
      hat-by pad time n c z inside (positive_name n) (positive_code n) (negative_name n) (negative_code n) plus minus (eq z one32) (eq z minus_one32) v.positive v.negative
      (hat-out v pad time n c z taken ∙ (unfold hat_gives in refl)) (hat-more v pad time n c z taken ∙ (unfold hat_gives in refl))
