-- What was written reads back: a field of any width, and an event inside the limits. The field law is one, over the width: bytes are split off at
-- the front, where the number is written, and at the back, where it is read.
use Rattle.std.specs.Prelude.{◌≡◌, true, ℕ, zero, suc, ◌+◌, ◌*◌, ◌/◌, ◌%◌, ◌^◌, ◌≤◌, ◌<◌, length, drop, get_or, T, Float, Some}
use Rattle.std.proofs.Math.Path.{refl}
use Rattle.std.proofs.Common.{sym, ◌∙◌, ap, zero-add, mul_assoc, mul_comm, add-mul, pow-suc, mod-lt, mod-eq_of_lt, div-add-mod', mul-le-mul_right, arith, get_or-drop, lit<}
use mathlib.Core.List.{List, [], ◌∷◌, ◌++◌}
use Rattle.std.proofs.Math.Nat.{one-le-pow, mod-one, add-mul-mod_self_right}
use Rattle.std.specs.Float.{binary32}
use Rattle.std.specs.Float.Ieee.{fits, of_bits, to_bits}
use Rattle.std.specs.Float.Ieee.Bits.{of_bits-to_bits, to_bits-lt}
use Rattle.rules.specs.declared.Event.{Event}
use Rattle.rules.specs.declared.EventType.{EventType}
use Rattle.rules.specs.declared.EventType.TheVariants.{Pressed, Released, Repeated, Changed, Axis, Connected, Disconnected, Dropped}
use Rattle.rules.specs.declared.EventForm.{EventForm}
use Rattle.rules.specs.Forms.{field_of, bytes_of, opens, name_fits, has_value, event_kind_fits, read_event, form_bytes}
use Rattle.rules.specs.Events.{kind_type, name_type, code_type, value_type, kind_of, name_of, code_of, value_of, type_of, form_of, form_event, event_bytes}
use Rattle.wire.specs.Whole.{event-good}

-- ---- fields

-- the first byte counts 256 ^ w
first_byte : (b : ℕ) (s : List ℕ) (w : ℕ) → field_of (b ∷ s) 0 (suc w) ≡ b * 256 ^ w + field_of s 0 w
unfolding field_of
first_byte b s zero = omega arith
first_byte b s (suc w) =
    let h = first_byte b s w in
    let p : b * 256 ^ suc w ≡ b * 256 ^ w * 256 = ap (λ (n : ℕ). b * n) (pow-suc 256 w) ∙ sym (mul_assoc b (256 ^ w) 256) in
    let g : get_or (b ∷ s) (0 + suc w) 0 ≡ get_or s w 0 = ap (λ (n : ℕ). get_or (b ∷ s) n 0) (zero-add (suc w)) in
    let k : get_or s (0 + w) 0 ≡ get_or s w 0 = ap (λ (n : ℕ). get_or s n 0) (zero-add w) in
    omega arith

-- a number below a * 256 is its digit above a and what is below a
split : (x a : ℕ) → 0 < a → x / a % 256 * a + x % a ≡ x % (a * 256)
split x a h =
    let q = x / a / 256 in
    let r = x / a % 256 in
    let digits : x / a * a ≡ q * (a * 256) + r * a =
    ap (λ (k : ℕ). k * a) (sym (div-add-mod' (x / a) 256)) ∙ add-mul (q * 256) r a
    ∙ ap (λ (k : ℕ). k + r * a) (mul_assoc q 256 a ∙ ap (λ (k : ℕ). q * k) (mul_comm 256 a)) in
    let whole : x ≡ r * a + x % a + q * (a * 256) = let e = div-add-mod' x a in omega arith in
    let digit : r ≤ 255 = let l : r < 256 = mod-lt (x / a) (lit< tt) in omega arith in
    let most : r * a ≤ 255 * a = mul-le-mul_right a digit in
    let below : x % a < a = mod-lt x h in
    let small : r * a + x % a < a * 256 = omega arith in
    sym (ap (λ (k : ℕ). k % (a * 256)) whole ∙ add-mul-mod_self_right (r * a + x % a) q (a * 256) ∙ mod-eq_of_lt small)

-- the field law: what was written in w bytes reads as what w bytes hold of the number, whatever stands behind them
pub field_back : (w x : ℕ) (after : List ℕ) → field_of (bytes_of w x ++ after) 0 w ≡ x % 256 ^ w
unfolding field_of bytes_of
field_back zero x after = sym (mod-one x)
field_back (suc w) x after =
    first_byte (x / 256 ^ w % 256) (bytes_of w x ++ after) w ∙ ap (λ (k : ℕ). x / 256 ^ w % 256 * 256 ^ w + k) (field_back w x after)
    ∙ split x (256 ^ w) (one-le-pow w 256 (lit< tt)) ∙ ap (λ (k : ℕ). x % k) (sym (pow-suc 256 w))

-- a field further on is the field of what is left there
field-drop : (s : List ℕ) (n w : ℕ) → field_of s n w ≡ field_of (drop n s) 0 w
unfolding field_of
field-drop s n zero = refl
field-drop s n (suc w) =
    let g : get_or (drop n s) (0 + w) 0 ≡ get_or s (n + w) 0 = ap (λ (k : ℕ). get_or (drop n s) k 0) (zero-add w) ∙ get_or-drop n s w 0 in
    let h = field-drop s n w in
    omega arith

-- a number that fits, written at a place, is read there
module _ (s : List ℕ) (n w x : ℕ) (after : List ℕ) (fits : x < 256 ^ w) where
  pub field_at : drop n s ≡ bytes_of w x ++ after → field_of s n w ≡ x
  field_at e = field-drop s n w ∙ ap (λ (l : List ℕ). field_of l 0 w) e ∙ field_back w x after ∙ mod-eq_of_lt fits

-- ---- events

-- a form's fields in their widths
pub record InWidth (f : EventForm) : Type 0 where
  pub code : f.code < 256 ^ 4
  pub bits : f.bits < 256 ^ 4
  pub time : f.time < 256 ^ 8

module _ (f : EventForm) where
  sized : length (form_bytes f) ≡ 22
  unfolding form_bytes bytes_of
  sized = refl

  opened : opens (form_bytes f) 0 22 ≡ true
  unfolding opens field_of form_bytes bytes_of
  opened = refl

  module _ (w : InWidth f) where
    code-back : field_of (form_bytes f) 6 4 ≡ f.code
    unfolding form_bytes bytes_of
    code-back = field_at (form_bytes f) 6 4 f.code (bytes_of 4 f.bits ++ bytes_of 8 f.time) w.code refl

    bits_back : field_of (form_bytes f) 10 4 ≡ f.bits
    unfolding form_bytes bytes_of
    bits_back = field_at (form_bytes f) 10 4 f.bits (bytes_of 8 f.time) w.bits refl

    time-back : field_of (form_bytes f) 14 8 ≡ f.time
    unfolding form_bytes bytes_of
    time-back = field_at (form_bytes f) 14 8 f.time [] w.time refl

-- a form that was written is read
pub form-back : (f : EventForm) → InWidth f → event_kind_fits f.kind f.name f.code f.bits ≡ true
    → read_event (form_bytes f) ≡ Some f
unfolding form_bytes bytes_of
form-back f w h =
    sym
    (event-good (form_bytes f) (sized f) (opened f) f.code f.bits (sym (code-back f w)) (sym (bits_back f w)) f.time h (sym (time-back f w)))

-- an event whose name is of its kind's sort has the form of its kind: where it holds no value, the bits are 0
kind_fits : (t : EventType) → name_fits (kind_type t) (name_type t) (code_type t) ≡ true
    → event_kind_fits (kind_type t) (name_type t) (code_type t) (to_bits binary32 (value_type t)) ≡ true
unfolding event_kind_fits has_value to_bits of_bits
kind_fits (Pressed n c) h = rw h
kind_fits (Released n c) h = rw h
kind_fits (Repeated n c) h = rw h
kind_fits (Changed n c v) h = rw h
kind_fits (Axis n c v) h = rw h
kind_fits Connected h = rw h
kind_fits Disconnected h = rw h
kind_fits Dropped h = rw h

-- the event of an event's form is that event
type-back : (t : EventType) → T (fits binary32 (value_type t))
    → type_of (kind_type t) (name_type t) (code_type t) (of_bits binary32 (to_bits binary32 (value_type t))) ≡ t
unfolding type_of
type-back (Pressed n c) h = refl
type-back (Released n c) h = refl
type-back (Repeated n c) h = refl
type-back (Changed n c v) h = ap (λ (x : Float). Changed n c x) (of_bits-to_bits binary32 v h)
type-back (Axis n c v) h = ap (λ (x : Float). Axis n c x) (of_bits-to_bits binary32 v h)
type-back Connected h = refl
type-back Disconnected h = refl
type-back Dropped h = refl

-- an event inside the limits: its name is of its kind's sort, its code and time fit their widths, its value is a binary32
pub record InLimits (e : Event) : Type 0 where
  pub named : name_fits (kind_of e) (name_of e) (code_of e) ≡ true
  pub code : code_of e < 256 ^ 4
  pub time : e.time < 256 ^ 8
  pub value : T (fits binary32 (value_of e))

-- "reading an event that was written gives it back": its form is read, and the form's event is the event
pub event-read-back : (e : Event) → InLimits e → read_event (event_bytes e) ≡ Some (form_of e)
unfolding event_bytes form_of kind_of name_of code_of value_of
event-read-back e l =
    form-back (form_of e) (record { code = l.code; bits = to_bits-lt binary32 (value_of e) l.value; time = l.time }) (kind_fits e.event l.named)

pub event-of-form : (e : Event) → InLimits e → form_event (form_of e) ≡ e
unfolding form_event form_of kind_of name_of code_of value_of
event-of-form e l = ap (λ (t : EventType). record { pad = e.pad; time = e.time; event = t }) (type-back e.event l.value)
