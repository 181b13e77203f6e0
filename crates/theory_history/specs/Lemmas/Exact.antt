-- What an event that may wait does to a place, exactly: one of another code leaves it alone, and what the filters queue behind it is of another place too;
-- one of a place that has no deadzone is written as it is.
use Rattle.std.specs.Prelude.{ℕ, ◌<◌, Bool, true, false, cond, ◌&&◌, ◌||◌, List, ◌≡◌, eqb, Float, get_or}
use Rattle.std.proofs.Math.Path.{refl}
use Rattle.std.proofs.Common.{◌∙◌}
use Rattle.std.specs.Float.Ieee.{eq}
use Rattle.numbers.specs.Constants.{zero32}
use Rattle.numbers.specs.Deadzone.{deadzone_of}
use Rattle.rules.specs.declared.Event.{Event}
use Rattle.rules.specs.declared.EventType.TheVariants.{Pressed, Released, Changed, Axis, Dropped}
use Rattle.rules.specs.declared.View.{View}
use Rattle.rules.specs.Names.{is_hat, partner_of}
use Rattle.rules.specs.Sheets.{element_axis}
use Rattle.rules.specs.Places.{place_of}
use Rattle.rules.specs.Events.{code_of}
use Rattle.rules.specs.State.{writes_axis_type}
use Rattle.rules.specs.Hub.{past_element}
use Rattle.rules.specs.Filters.{unless}
use Rattle.theory_calls.specs.Weight.{partner-hat}
use Rattle.theory_history.specs.Lemmas.Cells.{Cell, cell_type, hits}
use Rattle.theory_history.specs.Lemmas.Turns.{ev, out_of, more_of, plain_out, plain_more, zoned-out, unzoned-out, changed-more, Moves, sent, lost, Clears, none, one, stick-out, stick-more}
use Rattle.theory_history.specs.Lemmas.Waits.{Sheet, axial_at, takes, All, empty, more, Fit, press, release, change, stick, stick-apart}

-- what the filters see for an event, as far as it matters here
pub record Sees (s : Sheet) (e : Event) (v : View) : Type 0 where
  pub converts : v.converts ≡ get_or s.converts e.pad false
  pub dead : v.dead ≡ eqb (get_or s.kinds (place_of s.codes e.pad (code_of e)) 0) element_axis
  pub threshold : v.threshold ≡ (get_or s.elements (place_of s.codes e.pad (code_of e)) past_element).threshold
  pub partner : e.pad < s.pads → v.partner.stands ≡ true → axial_at s (place_of s.codes e.pad v.partner.code) ≡ true

-- the place after an event went out
abbrev pub put_at : Sheet → ℕ → Event → Cell → Cell
put_at s k e x = cond (hits s.codes k e) (cell_type e.event x) x

-- whether it then has an axis record
abbrev pub moves_at : Sheet → ℕ → Event → Bool
moves_at s k e = cond (hits s.codes k e) (false || writes_axis_type e.event) false

-- an event that may wait, of another place
pub record Apart (s : Sheet) (k : ℕ) (e : Event) : Type 0 where
  pub fit : Fit s e
  pub apart : hits s.codes k e ≡ false

-- ---- a dropped event writes nothing, wherever code 0 may stand

pub same-either : (b : Bool) (x : Cell) → cond b x x ≡ x
same-either true x = refl
same-either false x = refl

pub down-either : (b : Bool) → cond b false false ≡ false
down-either true = refl
down-either false = refl

module _ (s : Sheet) (k : ℕ) (bare : axial_at s k ≡ false) (v : View) (pad time : ℕ) where
  -- what is out leaves the place alone
  record Alone (o : Event) : Type 0 where
    pub cell : (x : Cell) → put_at s k o x ≡ x
    pub still : moves_at s k o ≡ false

  away-alone : (o : Event) → hits s.codes k o ≡ false → Alone o
  away-alone o apart = record { cell = λ x. rw apart; still = rw apart }

  dropped-alone : Alone (ev pad time Dropped)
  dropped-alone = record { cell = λ x. same-either (hits s.codes k (ev pad time Dropped)) x; still = down-either (hits s.codes k (ev pad time Dropped)) }

  -- a value's code is the place's, or not, whatever the deadzone makes of it
  value-hits : (n c : ℕ) (y z : Float) → hits s.codes k (ev pad time (Changed n c y)) ≡ hits s.codes k (ev pad time (Changed n c z))
  unfolding hits code_of
  value-hits n c y z = refl

  unless-alone : (n c : ℕ) (y z : Float) (same : Bool) → hits s.codes k (ev pad time (Changed n c z)) ≡ false
      → Alone (unless same (ev pad time (Changed n c z)) (Changed n c y))
  unless-alone n c y z true apart = dropped-alone
  unless-alone n c y z false apart = away-alone (ev pad time (Changed n c y)) (value-hits n c y z ∙ apart)

  value-alone : (n c : ℕ) (z : Float) (dead : Bool) → v.dead ≡ dead → hits s.codes k (ev pad time (Changed n c z)) ≡ false
      → Alone (out_of v (ev pad time (Changed n c z)))
  value-alone n c z true d apart =
      rw (zoned-out v pad time n c z d) (unless-alone n c (deadzone_of z zero32 v.threshold).x z (eq v.own (deadzone_of z zero32 v.threshold).x) apart)
  value-alone n c z false d apart = rw (unzoned-out v pad time n c z d) (away-alone (ev pad time (Changed n c z)) apart)

  moves-alone : (n c : ℕ) {o : Event} → axial_at s (place_of s.codes pad c) ≡ true → Moves pad time n c o → Alone o
  moves-alone n c axial (sent {y}) = away-alone (ev pad time (Axis n c y)) (stick-apart s k pad time n c y bare axial)
  moves-alone n c axial lost = dropped-alone

  clears-apart : (n : ℕ) {q : List Event} → pad < s.pads → takes s pad (partner_of n) ≡ false
      → (v.partner.stands ≡ true → axial_at s (place_of s.codes pad v.partner.code) ≡ true) → Clears v pad time n q → All (Apart s k) q
  clears-apart n old free axial none = empty
  clears-apart n old free axial (one stands) =
      more
      (record { fit = stick old (axial stands) free; apart = stick-apart s k pad time (partner_of n) v.partner.code zero32 bare (axial stands) })
      empty

  partner-free : (n : ℕ) → takes s pad n ≡ false → takes s pad (partner_of n) ≡ false
  unfolding takes
  partner-free n free = rw (partner-hat n) free

  untaken : (n c : ℕ) (z : Float) → Sees s (ev pad time (Axis n c z)) v → takes s pad n ≡ false → (v.converts && is_hat n) ≡ false
  unfolding takes
  untaken n c z sees free = rw sees.converts free

-- an event of another place: what goes out leaves this one alone
pub stays : (s : Sheet) (k : ℕ) → axial_at s k ≡ false → (v : View) {e : Event} → Fit s e → hits s.codes k e ≡ false → Sees s e v
    → ((x : Cell) → put_at s k (out_of v e) x ≡ x) × (moves_at s k (out_of v e) ≡ false)
stays s k bare v (press {pad} {time} {n} {c} i) apart sees =
    let a = away-alone s k bare v pad time (ev pad time (Pressed n c)) apart in
    rw (plain_out v pad time (Pressed n c) refl) (a.cell, a.still)
stays s k bare v (release {pad} {time} {n} {c} i) apart sees =
    let a = away-alone s k bare v pad time (ev pad time (Released n c)) apart in
    rw (plain_out v pad time (Released n c) refl) (a.cell, a.still)
stays s k bare v (change {pad} {time} {n} {c} {z} i) apart sees =
    let a = value-alone s k bare v pad time n c z v.dead refl apart in
    (a.cell, a.still)
stays s k bare v (stick {pad} {time} {n} {c} {z} i axial free) apart sees =
    let a = moves-alone s k bare v pad time n c axial (stick-out v pad time n c z (untaken s k bare v pad time n c z sees free)) in
    (a.cell, a.still)

-- what the filters queue behind an event that may wait is of another place
pub queues : (s : Sheet) (k : ℕ) → axial_at s k ≡ false → (v : View) {e : Event} → Fit s e → Sees s e v → All (Apart s k) (more_of v e)
queues s k bare v (press {pad} {time} {n} {c} i) sees = rw (plain_more v pad time (Pressed n c) refl) empty
queues s k bare v (release {pad} {time} {n} {c} i) sees = rw (plain_more v pad time (Released n c) refl) empty
queues s k bare v (change {pad} {time} {n} {c} {z} i) sees = rw (changed-more v pad time n c z) empty
queues s k bare v (stick {pad} {time} {n} {c} {z} i axial free) sees =
    clears-apart s k bare v pad time n i (partner-free s k bare v pad time n free) (sees.partner i)
    (stick-more v pad time n c z (untaken s k bare v pad time n c z sees free))
