-- Codes fit the four bytes that an event gives them: a fresh hub's do, registration lays codes that it reads from four bytes of a sheet and those of the
-- directions, and no other call changes a code.
use Prim.Native.Nat.{ℕ, zero, suc, ◌+◌, ◌*◌, ◌^◌, ◌<◌}
use Rattle.std.specs.Prelude.{Bool, ◌≡◌, Float, get_or, set}
use Rattle.std.proofs.Math.Bool.{true, false}
use mathlib.Core.List.{List, [], ◌∷◌, map}
use Rattle.std.proofs.Math.Path.{refl}
use Rattle.std.proofs.Common.{lit<, pow-suc}
use native.Mathlib.Omega.{arith}
use Rattle.rules.specs.declared.Hub.{Hub}
use Rattle.rules.specs.Names.{places_per_pad, nowhere}
use Rattle.rules.specs.Forms.{field_of, read_event}
use Rattle.rules.specs.Sheets.{sheet_opening, element_size, count_of, element_fields, element_of}
use Rattle.rules.specs.Places.{listed_row, element_next, direction_next, next_row, rows_from, rows_of}
use Rattle.rules.specs.Refusals.{thresholds_refusal}
use Rattle.rules.specs.Pump.{pump_of}
use Rattle.rules.specs.Calls.{row_code, laid, fresh_hub, idle_hub, new_by, new_of, registered_at, register_refusal, register_by, register_as, update_of, counted_at}
use Rattle.theory_calls.specs.Reach.{pump-keeps}
use Rattle.theory_registered.specs.Pads.{Alike, step-alike, update_alike, counted-alike}
use Rattle.theory_registered.specs.Rows.{direction-facts}
use Rattle.theory_history.specs.Rule.{byte_limit, Bytes}
use Rattle.theory_history.specs.Lemmas.Marks.{all_same}

-- "code 4"
abbrev pub code_limit : ℕ
code_limit = byte_limit ^ 4

pub record Small (h : Hub) : Type 0 where
  pub code : (k : ℕ) → get_or h.codes k 0 < code_limit

-- ---- the codes that a sheet lists

field-small : (s : List ℕ) → Bytes s → (at w : ℕ) → field_of s at w < byte_limit ^ w
unfolding field_of
field-small s bytes at zero = omega arith
field-small s bytes at (suc w) =
    let first = field-small s bytes at w in
    let last = bytes (at + w) in
    let more = pow-suc byte_limit w in
    omega arith

element-small : (s : List ℕ) → Bytes s → (i : ℕ) → (element_of s i).code < code_limit
unfolding element_of element_fields
element-small s bytes i = omega (arith, field-small s bytes (sheet_opening + element_size * i) 4)

module _ (s : List ℕ) (bytes : Bytes s) (n : ℕ) where
  next_small : (i d last : ℕ) (element direction : Bool) → element_next s n i d ≡ element → direction_next s n i d ≡ direction → last < code_limit
      → (next_row s n i d last).code < code_limit
  unfolding next_row listed_row
  next_small i d last true direction ee ed small = rw ee (element-small s bytes i)
  next_small i d last false true ee ed small =
      let few = (direction-facts s n i d ed).0 in
      rw (ee, ed) (omega arith)
  next_small i d last false false ee ed small = rw (ee, ed) small

  rows-small : (k i d last : ℕ) → last < code_limit → (j : ℕ) → get_or (map row_code (rows_from k s n i d last)) j 0 < code_limit
  unfolding rows_from
  rows-small zero i d last small j = omega arith
  rows-small (suc k) i d last small zero = next_small i d last (element_next s n i d) (direction_next s n i d) refl refl small
  rows-small (suc k) i d last small (suc j) =
      rows-small k _ _ _ (next_small i d last (element_next s n i d) (direction_next s n i d) refl refl small) j

-- ---- a column below a limit, with a run of it laid

module _ (limit : ℕ) where
  set-small : (xs : List ℕ) (i v : ℕ) → ((j : ℕ) → get_or xs j 0 < limit) → v < limit → (j : ℕ) → get_or (set xs i v) j 0 < limit
  set-small [] i v old new j = old j
  set-small (x ∷ xs) zero v old new zero = new
  set-small (x ∷ xs) zero v old new (suc j) = old (suc j)
  set-small (x ∷ xs) (suc i) v old new zero = old zero
  set-small (x ∷ xs) (suc i) v old new (suc j) = set-small xs i v (λ k. old (suc k)) new j

  laid-small : (vs xs : List ℕ) (i : ℕ) → ((j : ℕ) → get_or xs j 0 < limit) → ((j : ℕ) → get_or vs j 0 < limit)
      → (j : ℕ) → get_or (laid xs i vs) j 0 < limit
  unfolding laid
  laid-small [] xs i old new = old
  laid-small (v ∷ vs) xs i old new = laid-small vs (set xs i v) (i + 1) (set-small xs i v old (new zero)) (λ j. new (suc j))

-- ---- new and register

fresh-small : (pressed released : Float) (reversed filters updates : Bool) → Small (fresh_hub pressed released reversed filters updates)
unfolding fresh_hub
fresh-small pressed released reversed filters updates = record { code = λ k. rw (all_same {A = ℕ} nowhere k 0) (lit< tt) }

new-by-small : (number : ℕ) (h : Hub) → Small h → Small (new_by number h).hub
unfolding idle_hub
new-by-small zero h small = small
new-by-small (suc number) h small = fresh-small _ _ _ _ _

pub new-small : (pressed released : Float) (reversed filters updates : Bool) → Small (new_of pressed released reversed filters updates).hub
unfolding new_of
new-small pressed released reversed filters updates =
    new-by-small (thresholds_refusal pressed released) _ (fresh-small pressed released reversed filters updates)

register-by-small : (number : ℕ) (h : Hub) (s : List ℕ) → Bytes s → Small h → Small (register_by number h s).hub
unfolding registered_at rows_of
register-by-small zero h s bytes small =
    record {
      code =
          laid-small code_limit (map row_code (rows_of s (count_of s))) h.codes (places_per_pad * h.pads) small.code
          (rows-small s bytes (count_of s) places_per_pad 0 0 0 (lit< tt));
    }
register-by-small (suc number) h s bytes small = small

pub register-small : (archived : Bool) (h : Hub) (s : List ℕ) → Bytes s → Small h → Small (register_as archived h s).hub
unfolding register_as
register-small archived h s bytes small = register-by-small (register_refusal archived h.pads s) h s bytes small

-- ---- the calls that leave the codes alone

alike-small : (h g : Hub) → Alike h g → Small h → Small g
alike-small h g a small = record { code = rw a.codes small.code }

pub pump-small : (h : Hub) (s : List ℕ) (place : ℕ) (out : List ℕ) (allowance : ℕ) → Small h → Small (pump_of h s place out allowance).pumped.hub
pump-small h s place out allowance small = pump-keeps Small (λ g l w. alike-small g _ (step-alike g l) w) h s place out allowance small

pub update-small : (h : Hub) (event : List ℕ) → Small h → Small (update_of h event).hub
unfolding update_of
update-small h event small = alike-small h _ (update_alike (read_event event) h) small

pub counted-small : (h : Hub) (n : ℕ) → Small h → Small (counted_at h n)
counted-small h n small = alike-small h _ (counted-alike h n) small
