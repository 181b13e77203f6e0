-- A clearing event costs a flag: where an axis event queues one for its partner, the partner's deadzone flag was up and comes down, and its own does not go up.
-- So one clearing event calls forth at most one other.
use Rattle.std.specs.Prelude.{ℕ, ◌+◌, ◌≤◌, Bool, cond, not, ◌&&◌, List, [], ◌∷◌, ◌≡◌, eqb, ltb, Float, length, get_or, set}
use Rattle.std.proofs.Math.Bool.{true, false}
use Rattle.std.proofs.Math.Path.{refl}
use Rattle.std.proofs.Common.{sym, ◌∙◌, ap, get_or-set_same, get_or-set_other, arith, eqb-true, ltb-true, ltb-false}
use Rattle.std.specs.Float.Ieee.{eq, ne}
use Rattle.std.proofs.Math.ListN.{get_or-eq_default}
use Rattle.std.proofs.Math.Seq.{set_out}
use Rattle.std.proofs.lemmas.Bool.{eqb-false}
use Rattle.numbers.specs.Constants.{zero32}
use Rattle.numbers.specs.Jitter.{jitter_of}
use Rattle.numbers.specs.declared.Pair.{Pair}
use Rattle.rules.specs.declared.Event.{Event}
use Rattle.rules.specs.declared.EventType.TheVariants.{Axis}
use Rattle.rules.specs.declared.Flags.{Flags}
use Rattle.rules.specs.declared.View.{View}
use Rattle.rules.specs.declared.Zoned.{Zoned}
use Rattle.rules.specs.Names.{is_hat, partner_of}
use Rattle.rules.specs.Places.{one_if}
use Rattle.rules.specs.Events.{event_if, dropped}
use Rattle.rules.specs.Filters.{dpad_of, jittered_of, deadzoned_of, stick_zoned, shrunk, clears_partner, flags_after, joined, filtered_of}
use Rattle.theory_history.specs.Lemmas.Truth.{false-true}
use Rattle.theory_history.specs.Lemmas.Turns.{ev, more_of}

-- ---- what the deadzone says of the flags, where it clears the partner

pub record Costs (before after : Flags) : Type 0 where
  pub partner-was : before.partner ≡ true
  pub partner-is : after.partner ≡ false
  pub own : after.own ≡ true → before.own ≡ true

pub and_parts : (a b : Bool) → (a && b) ≡ true → (a ≡ true) × (b ≡ true)
and_parts true b e = (refl, e)
and_parts false b e = false-true e

taken-down : (up clears : Bool) → clears ≡ true → (up && not clears) ≡ false
taken-down true true e = refl
taken-down true false e = false-true e
taken-down false clears e = refl

not-raised : (same own zero : Bool) → zero ≡ true → cond same own (not zero) ≡ true → own ≡ true
not-raised true own zero e up = up
not-raised false own true e up = false-true up
not-raised false own false e up = false-true e

pair-costs : (v : View) (pair : Pair) → clears_partner v pair ≡ true → Costs v.flags (flags_after v pair)
unfolding clears_partner flags_after ne
pair-costs v pair clears =
    let a = and_parts v.partner.stands _ clears in
    let b = and_parts (eq pair.x zero32) _ a.1 in
    let c = and_parts (eq pair.y zero32) _ b.1 in
    let d = and_parts v.flags.partner _ c.1 in
    record {
      partner-was = d.0;
      partner-is = taken-down v.flags.partner _ clears;
      own = λ up. not-raised (eq v.own pair.x) v.flags.own (eq pair.x zero32) b.0 up;
    }

pair-stands : (v : View) (pair : Pair) → clears_partner v pair ≡ true → v.partner.stands ≡ true
unfolding clears_partner
pair-stands v pair clears = (and_parts v.partner.stands _ clears).0

-- ---- the filters on an axis event that no conversion takes

module _ (v : View) (pad time n c : ℕ) (x : Float) where
  abbrev hasaxis : Event
  hasaxis = ev pad time (Axis n c x)

  -- nothing is queued, or a clearing event that costs a flag
  pub data Sweeps : List Event → Flags → Type 0 where
    nothing : {f : Flags} → Sweeps [] f
    clears : {f : Flags} → v.partner.stands ≡ true → Costs v.flags f → Sweeps (ev pad time (Axis (partner_of n) v.partner.code zero32) ∷ []) f

  abbrev zone : Bool → Zoned
  zone dead = cond dead (stick_zoned v hasaxis n c (shrunk v x)) (record { event = hasaxis; clears = false; clearing = hasaxis; flags = v.flags })

  sweeps-by : (cleared : Bool) → clears_partner v (shrunk v x) ≡ cleared
      → Sweeps (event_if cleared (ev pad time (Axis (partner_of n) v.partner.code zero32))) (flags_after v (shrunk v x))
  sweeps-by true e = clears (pair-stands v (shrunk v x) e) (pair-costs v (shrunk v x) e)
  sweeps-by false e = nothing

  zone-sweeps : (dead : Bool) → Sweeps (event_if (zone dead).clears (zone dead).clearing) (zone dead).flags
  unfolding stick_zoned
  zone-sweeps true = sweeps-by (clears_partner v (shrunk v x)) refl
  zone-sweeps false = nothing

  jitter-sweeps : (jitters : Bool)
      → Sweeps (event_if (deadzoned_of v (cond jitters (dropped hasaxis) hasaxis)).clears (deadzoned_of v (cond jitters (dropped hasaxis) hasaxis)).clearing)
      (deadzoned_of v (cond jitters (dropped hasaxis) hasaxis)).flags
  unfolding deadzoned_of
  jitter-sweeps true = nothing
  jitter-sweeps false = zone-sweeps v.dead

  pub stick-sweeps : (v.converts && is_hat n) ≡ false → Sweeps (more_of v hasaxis) (filtered_of true v hasaxis).flags
  unfolding more_of filtered_of joined dpad_of jittered_of
  stick-sweeps free = rw free (jitter-sweeps (v.stored && jitter_of x v.stick))

-- ---- the flags that are up of an axis and its partner, by their places

unfoldable pub up_at : List Bool → ℕ → ℕ → ℕ
up_at flags i j = one_if (get_or flags i false) + one_if (get_or flags j false)

one-or-none : (b : Bool) → one_if b ≤ 1
one-or-none true = omega arith
one-or-none false = omega arith

pub up_small : (flags : List Bool) (i j : ℕ) → up_at flags i j ≤ 2
unfolding up_at
up_small flags i j = omega (arith, one-or-none (get_or flags i false), one-or-none (get_or flags j false))

-- an inner place is set, an outer one reads down
put-at : (flags : List Bool) (i : ℕ) (b : Bool) (inside : Bool) → ltb i (length flags) ≡ inside → get_or (set flags i b) i false ≡ cond inside b false
put-at flags i b true l = get_or-set_same flags i b false (ltb-true i (length flags) l)
put-at flags i b false l =
    let past = ltb-false i (length flags) l in
    rw (set_out flags i b past) (get_or-eq_default flags false {n = i} past)

none-up : (inside b : Bool) → b ≡ false → cond inside b false ≡ false
none-up true b e = e
none-up false b e = refl

at_most : (b c : Bool) → (b ≡ true → c ≡ true) → one_if b ≤ one_if c
at_most true c up = rw (up refl) (omega arith)
at_most false c up = omega arith

inside-up : (inside b : Bool) → cond inside b false ≡ true → b ≡ true
inside-up true b e = e
inside-up false b e = false-true e

-- one flag comes down and the other does not go up: one fewer is up
module _ (flags : List Bool) (i j : ℕ) (after : Flags) (costs : Costs (record { own = get_or flags i false; partner = get_or flags j false }) after) where
  abbrev later : List Bool
  later = set (set flags i after.own) j after.partner

  down : get_or later j false ≡ false
  down =
      let l = set flags i after.own in
      put-at l j after.partner (ltb j (length l)) refl ∙ none-up (ltb j (length l)) after.partner costs.partner-is

  own-up : (same : Bool) → eqb i j ≡ same → get_or later i false ≡ true → get_or flags i false ≡ true
  own-up true e up = false-true (sym (ap (λ (k : ℕ). get_or later k false) (eqb-true i j e) ∙ down) ∙ up)
  own-up false e up =
      costs.own
      (inside-up (ltb i (length flags)) after.own
      (sym (put-at flags i after.own (ltb i (length flags)) refl)
      ∙ (sym (get_or-set_other (set flags i after.own) j i after.partner false (eqb-false i j e)) ∙ up)))

  pub fewer : up_at later j i + 1 ≤ up_at flags i j
  unfolding up_at
  fewer =
      let own = at_most (get_or later i false) (get_or flags i false) (own-up (eqb i j) refl) in
      let was = costs.partner-was in
      rw (down, was) (omega arith)
