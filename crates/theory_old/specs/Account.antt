-- Whether a pad is old, told by what the public calls were given and answered; the hub's columns of hats are not looked at. Definitions, and that they say
-- W-212's sentence.
use Rattle.std.specs.Prelude.{ℕ, Bool, true, false, cond, not, ◌&&◌, List, ◌≡◌, refl, eqb, Err, Ok, Result}
use Rattle.std.proofs.Common.{true≢false}
use Rattle.rules.specs.declared.Hub.{Hub}
use Rattle.rules.specs.declared.Refusal.{Refusal}
use Rattle.rules.specs.Sheets.{hats_of, partial_of}
use Rattle.rules.specs.Calls.{register_as, rename_of}
use Rattle.theory_calls.specs.Reach.{Reached, new, register, rename, step, update, insert, inc, reset}
use Rattle.theory_held.specs.Applied.{joins, connects}

-- ---- what each call says of a pad; `joins`: a registration answered its number; `connects`: a step takes its Connected

-- an archived sheet with partial hats
unfoldable pub archived_partial : Bool → List ℕ → Bool
archived_partial archived sheet = archived && partial_of (hats_of sheet)

-- a rename of it is answered
abbrev pub done : Result (Unit {0}) Refusal → Bool
done (Ok tt) = true
done (Err e) = false

abbrev pub renames : Hub → ℕ → List ℕ → ℕ → Bool
renames h pad list p = done (rename_of h pad list).answer && eqb pad p

-- ---- the account of pad p

-- whether it came by the archived call
unfoldable pub archived_in : {h : Hub} → ℕ → Reached h → Bool
archived_in p (new pressed released reversed filters updates) = false
archived_in p (register {h} archived sheet w) = cond (joins (register_as archived h sheet).answer p) archived (archived_in p w)
archived_in p (rename pad list w) = archived_in p w
archived_in p (step l w) = archived_in p w
archived_in p (update event w) = archived_in p w
archived_in p (insert event w) = archived_in p w
archived_in p (inc w) = archived_in p w
archived_in p (reset w) = archived_in p w

-- whether it came by the archived call with partial hats
unfoldable pub came_old : {h : Hub} → ℕ → Reached h → Bool
unfolding archived_partial
came_old p (new pressed released reversed filters updates) = false
came_old p (register {h} archived sheet w) = cond (joins (register_as archived h sheet).answer p) (archived_partial archived sheet) (came_old p w)
came_old p (rename pad list w) = came_old p w
came_old p (step l w) = came_old p w
came_old p (update event w) = came_old p w
came_old p (insert event w) = came_old p w
came_old p (inc w) = came_old p w
came_old p (reset w) = came_old p w

-- whether it is old: "marks a partial pad as old"; "A rename clears it, Connected brings it back"
unfoldable pub old_in : {h : Hub} → ℕ → Reached h → Bool
unfolding archived_partial came_old
old_in p (new pressed released reversed filters updates) = false
old_in p (register {h} archived sheet w) = cond (joins (register_as archived h sheet).answer p) (archived_partial archived sheet) (old_in p w)
old_in p (rename {h} pad list w) = cond (renames h pad list p) false (old_in p w)
old_in p (step l w) = cond (connects l p) (came_old p w) (old_in p w)
old_in p (update event w) = old_in p w
old_in p (insert event w) = old_in p w
old_in p (inc w) = old_in p w
old_in p (reset w) = old_in p w

-- ---- the same in one sentence

-- whether a rename of it was answered since its registration, or its last Connected
unfoldable pub renamed_in : {h : Hub} → ℕ → Reached h → Bool
renamed_in p (new pressed released reversed filters updates) = false
renamed_in p (register {h} archived sheet w) = cond (joins (register_as archived h sheet).answer p) false (renamed_in p w)
renamed_in p (rename {h} pad list w) = cond (renames h pad list p) true (renamed_in p w)
renamed_in p (step l w) = cond (connects l p) false (renamed_in p w)
renamed_in p (update event w) = renamed_in p w
renamed_in p (insert event w) = renamed_in p w
renamed_in p (inc w) = renamed_in p w
renamed_in p (reset w) = renamed_in p w

-- what begins anew, what is cleared and what comes back
anew : (here came before after renamed : Bool) → before ≡ after && not renamed → cond here came before ≡ cond here came after && not (cond here false renamed)
anew true true before after renamed e = refl
anew true false before after renamed e = refl
anew false came before after renamed e = e

cleared : (here came before renamed : Bool) → before ≡ came && not renamed → cond here false before ≡ came && not (cond here true renamed)
cleared true true before renamed e = refl
cleared true false before renamed e = refl
cleared false came before renamed e = e

back : (here came before renamed : Bool) → before ≡ came && not renamed → cond here came before ≡ came && not (cond here false renamed)
back true true before renamed e = refl
back true false before renamed e = refl
back false came before renamed e = e

-- a pad is old where it came by the archived call with partial hats and no rename of it was answered since its registration, or its last Connected
pub old-sentence : {h : Hub} (p : ℕ) (w : Reached h) → old_in p w ≡ came_old p w && not (renamed_in p w)
unfolding old_in came_old renamed_in
old-sentence p (new pressed released reversed filters updates) = refl
old-sentence p (register {h} archived sheet w) =
    anew (joins (register_as archived h sheet).answer p) (archived_partial archived sheet) (old_in p w) (came_old p w) (renamed_in p w) (old-sentence p w)
old-sentence p (rename {h} pad list w) = cleared (renames h pad list p) (came_old p w) (old_in p w) (renamed_in p w) (old-sentence p w)
old-sentence p (step l w) = back (connects l p) (came_old p w) (old_in p w) (renamed_in p w) (old-sentence p w)
old-sentence p (update event w) = old-sentence p w
old-sentence p (insert event w) = old-sentence p w
old-sentence p (inc w) = old-sentence p w
old-sentence p (reset w) = old-sentence p w

-- ---- a pad of the plain call

not-archived : (here archived partial was came : Bool) → (was ≡ false → came ≡ false) → cond here archived was ≡ false
    → cond here (archived && partial) came ≡ false
not-archived true true partial was came before e = absurd (true≢false e)
not-archived true false partial was came before e = refl
not-archived false archived partial was came before e = before e

-- it did not come old
pub came-archived : {h : Hub} (p : ℕ) (w : Reached h) → archived_in p w ≡ false → came_old p w ≡ false
unfolding archived_in came_old archived_partial
came-archived p (new pressed released reversed filters updates) e = refl
came-archived p (register {h} archived sheet w) e =
    not-archived (joins (register_as archived h sheet).answer p) archived (partial_of (hats_of sheet)) (archived_in p w) (came_old p w) (λ plain. came-archived p w plain) e
came-archived p (rename pad list w) e = came-archived p w e
came-archived p (step l w) e = came-archived p w e
came-archived p (update event w) e = came-archived p w e
came-archived p (insert event w) e = came-archived p w e
came-archived p (inc w) e = came-archived p w e
came-archived p (reset w) e = came-archived p w e
