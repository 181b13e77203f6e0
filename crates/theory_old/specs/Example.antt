-- W-212's sentences on one pad, computed by the checker: an archived sheet with three directions mapped, a rename of its pad, and Connected; and statements
-- that are too strong, refuted.
use Rattle.std.specs.Prelude.{ℕ, ◌<◌, true, false, List, [], ◌∷◌, ◌≡◌, refl, pos, get_or, Err, Ok, Result}
use Rattle.std.proofs.Common.{true≢false, sym, ◌∙◌, ap, arith}
use Rattle.std.specs.Float.Ieee as Ieee
use Rattle.rules.specs.declared.Hub.{Hub}
use Rattle.rules.specs.declared.NextRecord.{NextRecord}
use Rattle.rules.specs.declared.SheetElement.{SheetElement}
use Rattle.rules.specs.declared.Refusal.{Refusal}
use Rattle.rules.specs.Forms.{record_bytes, kind_connected}
use Rattle.rules.specs.Sheets.{partial_of, sheet_bytes, element_button}
use Rattle.rules.specs.Hub.{hats_now}
use Rattle.rules.specs.Step.{next_record_of, step_hub}
use Rattle.rules.specs.Calls.{register_as, register_of, register_archived_of, rename_of}
use Rattle.rules.specs.Queries.{old_of}
use Rattle.rules.specs.Answers.{register_says}
use Rattle.rules.specs.Refusals.{numbered}
use Rattle.theory_calls.specs.Reach.{Reached, new, register, rename, step}
use Rattle.theory_calls.specs.Machines.{bare}
use Rattle.theory_old.specs.Account.{archived_in, old_in}

-- ---- a sheet of one button, South; three directions mapped

abbrev south : ℕ → SheetElement
south code = record { code = code; kind = element_button; name = 1; min = pos 0; max = pos 0; deadzone = 0 }

unfoldable partial_sheet : List ℕ
unfolding sheet_bytes
partial_sheet = sheet_bytes 7 (south 0x00010130 ∷ [])

plain-refuses : (register_of bare partial_sheet).answer ≡ Err (numbered 29)
unfolding bare partial_sheet register_as Ieee.of_bits Ieee.lt Ieee.le
plain-refuses = refl

archived-takes : (register_archived_of bare partial_sheet).answer ≡ Ok 0
unfolding bare partial_sheet register_as Ieee.of_bits Ieee.lt Ieee.le
archived-takes = refl

-- ---- "marks a partial pad as old; .. A rename clears it, Connected brings it back"

unfoldable kept : Hub
unfolding bare partial_sheet register_as
kept = (register_archived_of bare partial_sheet).hub

unfoldable renamed : Hub
unfolding kept rename_of
renamed = (rename_of kept 0 (1 ∷ [])).hub

unfoldable connected : NextRecord
unfolding next_record_of record_bytes
connected = next_record_of 0 (record_bytes (record { kind = kind_connected; pad = 0; code = 0; value = pos 0; time = 7 })) 0

unfoldable joined : Hub
unfolding renamed connected step_hub
joined = step_hub renamed connected

marked : (old_of kept 0 ≡ Ok true) × (old_of renamed 0 ≡ Ok false) × (old_of joined 0 ≡ Ok true)
unfolding joined old_of
marked = (refl, refl, refl)

-- the account says the same

kept-reached : Reached kept
unfolding kept bare
kept-reached = register true partial_sheet (new (Ieee.of_bits Ieee.binary32 0x3f400000) (Ieee.of_bits Ieee.binary32 0x3f000000) false true true)

renamed-reached : Reached renamed
unfolding renamed
renamed-reached = rename 0 (1 ∷ []) kept-reached

joined-reached : Reached joined
unfolding joined
joined-reached = step connected renamed-reached

told : (old_in 0 kept-reached ≡ true) × (old_in 0 renamed-reached ≡ false) × (old_in 0 joined-reached ≡ true)
unfolding joined-reached renamed-reached kept-reached joined old_in
told = (refl, refl, refl)

-- ---- too strong: that every pad of the archived call is old. One with whole hats is not

unfoldable whole : Hub
unfolding bare sheet_bytes register_as
whole = (register_archived_of bare (sheet_bytes 15 [])).hub

whole-reached : Reached whole
unfolding whole bare
whole-reached = register true (sheet_bytes 15 []) (new (Ieee.of_bits Ieee.binary32 0x3f400000) (Ieee.of_bits Ieee.binary32 0x3f000000) false true true)

whole-not-old : (archived_in 0 whole-reached ≡ true) × (old_in 0 whole-reached ≡ false) × (old_of whole 0 ≡ Ok false)
unfolding whole-reached whole archived_in old_in old_of
whole-not-old = (refl, refl, refl)

-- ---- too strong: that a pad is old wherever its sheet's hats are partial. One that is renamed is not

renamed-reads : (renamed.pads ≡ 1) × (partial_of (hats_now renamed 0) ≡ false) × (partial_of (get_or renamed.hats 0 0) ≡ true)
unfolding renamed hats_now partial_of
renamed-reads = (refl, refl, refl)

not-by-the-sheet : ((h : Hub) → Reached h → (p : ℕ) → p < h.pads → partial_of (hats_now h p) ≡ partial_of (get_or h.hats p 0)) → ⊥
not-by-the-sheet all =
    let one = renamed-reads.0 in
    true≢false (sym renamed-reads.2 ∙ (sym (all renamed renamed-reached 0 (omega arith)) ∙ renamed-reads.1))

-- ---- too strong: that 29 is answered only where the archived call takes the sheet. A name may stand twice

unfoldable twice : List ℕ
unfolding sheet_bytes
twice = sheet_bytes 7 (south 0x00010130 ∷ south 0x00010131 ∷ [])

twice-answers : ((register_as false bare twice).answer ≡ Err (numbered 29)) × ((register_as true bare twice).answer ≡ Err (numbered 5))
unfolding bare twice register_as Ieee.of_bits Ieee.lt Ieee.le
twice-answers = (refl, refl)

-- an answer's refusal, 0 for a pad
abbrev refusal : Result ℕ Refusal → ℕ
refusal a = (register_says a).refusal

not-only-taken :
    ((h : Hub) (s : List ℕ) → (register_as false h s).answer ≡ Err (numbered 29) → (register_as true h s).answer ≡ Ok h.pads) → ⊥
not-only-taken all =
    let none : refusal (register_as true bare twice).answer ≡ 0 = ap refusal (all bare twice twice-answers.0) in
    let names : refusal (register_as true bare twice).answer ≡ 5 = ap refusal twice-answers.1 in
    omega arith

-- ---- too strong: that a refusal of the archived call is the plain one's too. The same sheet: 5 and 29

not-the-same-number :
    ((h : Hub) (s : List ℕ) (number : ℕ) → (register_as true h s).answer ≡ Err (numbered number)
    → (register_as false h s).answer ≡ Err (numbered number)) → ⊥
not-the-same-number all =
    let names : refusal (register_as false bare twice).answer ≡ 5 = ap refusal (all bare twice 5 twice-answers.1) in
    let hats : refusal (register_as false bare twice).answer ≡ 29 = ap refusal twice-answers.0 in
    omega arith
