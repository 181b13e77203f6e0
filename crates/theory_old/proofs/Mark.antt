-- The old mark (W-212): on every hub that the public calls reach, a pad's present hats are partial exactly where the account of the calls says that it is old. So
-- `is_old` answers the account, wherever a pump stops too, and for a pad of the plain call always no. By induction on the calls: a registration writes the next
-- pad's hats, a rename and Connected a pad's mark that it is renamed, and no other call any of these. That no sheet with partial hats comes by the plain call is
-- the refusal 29.
use Prim.Native.Nat.{ℕ, zero, suc, ◌+◌, ◌<◌}
use Rattle.std.specs.Prelude.{Bool, cond, ◌&&◌, List, [], ◌∷◌, ◌≡◌, eqb, ltb, Float, length, set, None, Ok, Option, Some}
use Rattle.std.proofs.Math.Bool.{true, false}
use Rattle.std.proofs.Math.Path.{refl, ap}
use Rattle.std.proofs.Common.{sym, ◌∙◌}
use Rattle.std.proofs.Math.ListN.{get_or, length-set}
use Rattle.std.proofs.Math.Seq.{get_or-set_same, get_or-set_other}
use native.Mathlib.Omega.{arith}
use borrow.Author.Tests.{eqb-true, eqb-false, ltb-true, lt-ltb}
use Rattle.rules.specs.declared.Hub.{Hub}
use Rattle.rules.specs.declared.EventForm.{EventForm}
use Rattle.rules.specs.declared.NextRecord.{NextRecord}
use Rattle.rules.specs.Names.{pad_limit}
use Rattle.rules.specs.Forms.{read_event, kind_connected}
use Rattle.rules.specs.Sheets.{hats_of, partial_of}
use Rattle.rules.specs.Refusals.{thresholds_refusal, is_registered, form_refusal, insert_refusal, answer_by}
use Rattle.rules.specs.Hub.{hats_now}
use Rattle.rules.specs.Step.{renamed_after, marked_of, pushed_of, filtered_hub, updated_at, updated_of, step_hub}
use Rattle.rules.specs.Pump.{pump_of}
use Rattle.rules.specs.Calls.{fresh_hub, idle_hub, new_by, new_of, registered_at, register_refusal, register_by, register_as, renamed_at, rename_refusal, rename_by, rename_of, form_place, update_form_by, update_by, update_of, inserted_at, insert_form_by, insert_by, insert_of, counted_at, inc_of, reset_of}
use Rattle.rules.specs.Queries.{pad_refusal, old_of}
use Rattle.theory_calls.specs.Reach.{Reached, new, register, rename, step, update, insert, inc, reset, pump-reached}
use Rattle.theory_registered.specs.Columns.{accepted, either-taken}
use Rattle.theory_registered.specs.Pads.{Desk}
use Rattle.theory_registered.proofs.Pads.{reached-desk}
use Rattle.theory_held.specs.Applied.{joins, connects}
use Rattle.theory_old.proofs.Refused.{taken-partial}
use Rattle.theory_old.specs.Account.{archived_partial, done, archived_in, came_old, old_in}
use Rattle.theory_old.proofs.Account.{plain-not-old}

-- what a hub has of pad p: the sheet's hats are partial as `came` says, and the present ones as `old` says
record Told (h : Hub) (p : ℕ) (came old : Bool) : Type 0 where
  pub long : length h.renamed ≡ pad_limit
  pub sheet : p < h.pads → partial_of (get_or h.hats p 0) ≡ came
  pub now : p < h.pads → partial_of (hats_now h p) ≡ old

-- the present hats, by the columns
abbrev now_by : List Bool → List ℕ → List ℕ → ℕ → ℕ
now_by renamed newhats hats p = cond (get_or renamed p false) (get_or newhats p 0) (get_or hats p 0)

-- a call that leaves them
same-told : (h g : Hub) (p : ℕ) {came old : Bool} → g.pads ≡ h.pads → g.hats ≡ h.hats → g.newhats ≡ h.newhats → g.renamed ≡ h.renamed
    → Told h p came old → Told g p came old
unfolding hats_now
same-told h g p pads hats newhats renamed w =
    record {
      long = ap length renamed ∙ w.long;
      sheet = λ short. rw hats (w.sheet (rw pads at short));
      now = λ short. rw (hats, newhats, renamed) (w.now (rw pads at short));
    }

-- ---- new

new_told : (number : ℕ) (pressed released : Float) (reversed filters updates : Bool) (p : ℕ) {came old : Bool}
    → Told (new_by number (fresh_hub pressed released reversed filters updates)).hub p came old
unfolding fresh_hub idle_hub
new_told zero pressed released reversed filters updates p =
    record { long = refl; sheet = λ short. absurd (omega arith); now = λ short. absurd (omega arith) }
new_told (suc number) pressed released reversed filters updates p =
    record { long = refl; sheet = λ short. absurd (omega arith); now = λ short. absurd (omega arith) }

-- ---- registration: the next pad has its sheet's hats, and those before it stay

module _ (archived : Bool) (h : Hub) (s : List ℕ) (p : ℕ) (desk : Desk h) {came old : Bool} (w : Told h p came old) where
  register-by : register_refusal archived h.pads s ≡ 0 → (next : Bool) → eqb h.pads p ≡ next
      → Told (register_by 0 h s).hub p (cond next (archived_partial archived s) came) (cond next (archived_partial archived s) old)
  unfolding registered_at archived_partial hats_now
  register-by taken true e =
      let own = eqb-true h.pads p e in
      let few = (accepted h.pads s (either-taken archived h.pads s taken)).0 in
      let hats : get_or (set h.hats h.pads (hats_of s)) p 0 ≡ hats_of s =
      ap (λ (q : ℕ). get_or (set h.hats h.pads (hats_of s)) q 0) (sym own)
      ∙ get_or-set_same h.hats h.pads (hats_of s) 0 (omega (arith, desk.sized.hats)) in
      let fresh : get_or (set h.renamed h.pads false) p false ≡ false =
      ap (λ (q : ℕ). get_or (set h.renamed h.pads false) q false) (sym own)
      ∙ get_or-set_same h.renamed h.pads false false (omega (arith, w.long)) in
      let partial = taken-partial archived h.pads s taken in
      record {
        long = length-set h.renamed h.pads false ∙ w.long;
        sheet = λ short. ap partial_of hats ∙ partial;
        now = λ short. rw (fresh, hats) partial;
      }
  register-by taken false e =
      let other : p ≡ h.pads → ⊥ = λ same. eqb-false h.pads p e (sym same) in
      let before : p < h.pads + 1 → p < h.pads = λ short. omega arith in
      record {
        long = length-set h.renamed h.pads false ∙ w.long;
        sheet = λ short. rw (get_or-set_other h.hats h.pads p (hats_of s) 0 other) (w.sheet (before short));
        now =
            λ short.
            rw (get_or-set_other h.renamed h.pads p false false other, get_or-set_other h.hats h.pads p (hats_of s) 0 other)
            (w.now (before short));
      }

  register-told : (number : ℕ) → register_refusal archived h.pads s ≡ number
      → Told (register_by number h s).hub p (cond (joins (register_by number h s).answer p) (archived_partial archived s) came)
      (cond (joins (register_by number h s).answer p) (archived_partial archived s) old)
  register-told zero taken = register-by taken (eqb h.pads p) refl
  register-told (suc number) taken = w

-- ---- rename: the pad's hats are 0

blank-hats : (hats : List ℕ) (p : ℕ) → get_or (set hats p 0) p 0 ≡ 0
blank-hats [] p = refl
blank-hats (x ∷ hats) zero = refl
blank-hats (x ∷ hats) (suc p) = blank-hats hats p

module _ (h : Hub) (pad : ℕ) (list : List ℕ) (p : ℕ) (desk : Desk h) {came old : Bool} (w : Told h p came old) where
  rename-by : (mine : Bool) → eqb pad p ≡ mine → Told (rename_by 0 h pad list).hub p came (cond mine false old)
  unfolding renamed_at hats_now partial_of
  rename-by true e =
      let own = eqb-true pad p e in
      let few = desk.few in
      record {
        long = length-set h.renamed pad true ∙ w.long;
        sheet = w.sheet;
        now =
            λ short.
            let set_on : get_or (set h.renamed pad true) p false ≡ true =
            ap (λ (q : ℕ). get_or (set h.renamed pad true) q false) (sym own)
            ∙ get_or-set_same h.renamed pad true false (omega (arith, w.long)) in
            let none : get_or (set h.newhats pad 0) p 0 ≡ 0 = ap (λ (q : ℕ). get_or (set h.newhats pad 0) q 0) (sym own) ∙ blank-hats h.newhats pad in
            rw (set_on, none);
      }
  rename-by false e =
      let other : p ≡ pad → ⊥ = λ same. eqb-false pad p e (sym same) in
      record {
        long = length-set h.renamed pad true ∙ w.long;
        sheet = w.sheet;
        now = λ short. rw (get_or-set_other h.renamed pad p true false other, get_or-set_other h.newhats pad p 0 0 other) (w.now short);
      }

  rename-told : (number : ℕ) → Told (rename_by number h pad list).hub p came (cond (done (rename_by number h pad list).answer && eqb pad p) false old)
  rename-told zero = rename-by (eqb pad p) refl
  rename-told (suc number) = w

-- ---- a step: Connected forgets the pad's rename

module _ (h : Hub) (p : ℕ) (desk : Desk h) {came old : Bool} (w : Told h p came old) where
  marks-long : (pad : ℕ) (connected : Bool) → length (cond connected (set h.renamed pad false) h.renamed) ≡ pad_limit
  marks-long pad true = length-set h.renamed pad false ∙ w.long
  marks-long pad false = w.long

  now-by : p < h.pads → (pad : ℕ) (connected own : Bool) → eqb pad p ≡ own
      → partial_of (now_by (cond connected (set h.renamed pad false) h.renamed) h.newhats h.hats p) ≡ cond (connected && own) came old
  unfolding hats_now
  now-by short pad true true e =
      let own = eqb-true pad p e in
      let few = desk.few in
      let off : get_or (set h.renamed pad false) p false ≡ false =
      ap (λ (q : ℕ). get_or (set h.renamed pad false) q false) (sym own) ∙ get_or-set_same h.renamed pad false false (omega (arith, w.long)) in
      rw off (w.sheet short)
  now-by short pad true false e = rw (get_or-set_other h.renamed pad p false false (λ same. eqb-false pad p e (sym same))) (w.now short)
  now-by short pad false own e = w.now short

  step-told : (l : NextRecord) → Told (step_hub h l) p came (cond (connects l p) came old)
  unfolding step_hub updated_of updated_at filtered_hub pushed_of marked_of renamed_after hats_now
  step-told l =
      record {
        long = marks-long l.raw.pad (eqb l.raw.kind kind_connected);
        sheet = w.sheet;
        now = λ short. now-by short l.raw.pad (eqb l.raw.kind kind_connected) (eqb l.raw.pad p) refl;
      }

-- ---- update, insert_event, inc and reset_counter leave them

module _ (h : Hub) (p : ℕ) {came old : Bool} (w : Told h p came old) where
  form-told : (number : ℕ) (f : EventForm) → Told (update_form_by number h f).hub p came old
  unfolding updated_of updated_at
  form-told zero f = same-told h _ p refl refl refl refl w
  form-told (suc number) f = w

  update-told : (r : Option EventForm) → Told (update_by r h).hub p came old
  update-told (Some f) = form-told (form_refusal f h.pads (form_place h f)) f
  update-told None = w

  insert-form-told : (number : ℕ) (f : EventForm) → Told (insert_form_by number h f).hub p came old
  unfolding inserted_at
  insert-form-told zero f = same-told h _ p refl refl refl refl w
  insert-form-told (suc number) f = w

  insert-told : (r : Option EventForm) → Told (insert_by r h).hub p came old
  insert-told (Some f) = insert-form-told (insert_refusal f h.pads (form_place h f) h.waiting) f
  insert-told None = w

  counted-told : (n : ℕ) → Told (counted_at h n) p came old
  unfolding counted_at
  counted-told n = same-told h _ p refl refl refl refl w

-- ---- every hub that is reached

told : {h : Hub} (p : ℕ) (w : Reached h) → Told h p (came_old p w) (old_in p w)
unfolding came_old old_in new_of register_as rename_of update_of insert_of inc_of reset_of
told p (new pressed released reversed filters updates) =
    new_told (thresholds_refusal pressed released) pressed released reversed filters updates p
told p (register {h} archived sheet w) =
    register-told archived h sheet p (reached-desk w) (told p w) (register_refusal archived h.pads sheet) refl
told p (rename {h} pad list w) = rename-told h pad list p (reached-desk w) (told p w) (rename_refusal h pad list)
told p (step {h} l w) = step-told h p (reached-desk w) (told p w) l
told p (update {h} event w) = update-told h p (told p w) (read_event event)
told p (insert {h} event w) = insert-told h p (told p w) (read_event event)
told p (inc {h} w) = counted-told h p (told p w) _
told p (reset {h} w) = counted-told h p (told p w) 0

-- the mark: of a registered pad, the present hats are partial exactly where the account says that it is old
pub mark : {h : Hub} (w : Reached h) (p : ℕ) → p < h.pads → partial_of (hats_now h p) ≡ old_in p w
mark w p short = (told p w).now short

-- and those of its sheet where it came so
pub sheet-mark : {h : Hub} (w : Reached h) (p : ℕ) → p < h.pads → partial_of (get_or h.hats p 0) ≡ came_old p w
sheet-mark w p short = (told p w).sheet short

-- so `is_old` answers the account, or 6
pub old-answers : {h : Hub} (w : Reached h) (p : ℕ) → old_of h p ≡ answer_by (pad_refusal h p) (old_in p w)
unfolding old_of is_registered
old-answers {h} w p = by (ltb p h.pads) refl
  where
    by : (registered : Bool) → ltb p h.pads ≡ registered
        → answer_by (cond (registered && ltb p pad_limit) 0 6) (partial_of (hats_now h p)) ≡ answer_by (cond (registered && ltb p pad_limit) 0 6) (old_in p w)
    by true e = ap (answer_by (cond (ltb p pad_limit) 0 6)) (mark w p (ltb-true p h.pads e))
    by false e = refl

-- of a registered pad it is not refused
pub registered-answers : {h : Hub} (w : Reached h) (p : ℕ) → p < h.pads → old_of h p ≡ Ok (old_in p w)
unfolding is_registered
registered-answers {h} w p short =
    let few = (reached-desk w).few in
    old-answers w p ∙ rw (lt-ltb p h.pads short, lt-ltb p pad_limit (omega arith))

-- "a pad of the plain call is never old, whatever follows"
pub plain-never-old : {h : Hub} (w : Reached h) (p : ℕ) → archived_in p w ≡ false → p < h.pads → old_of h p ≡ Ok false
plain-never-old w p plain short = registered-answers w p short ∙ ap Ok (plain-not-old p w plain)

-- wherever a pump stops, with the steps that it made
pub pump-answers : {h : Hub} (w : Reached h) (s : List ℕ) (place : ℕ) (out : List ℕ) (allowance : ℕ) (p : ℕ)
    → let after = (pump_of h s place out allowance).pumped.hub in
    old_of after p ≡ answer_by (pad_refusal after p) (old_in p (pump-reached h s place out allowance w))
pump-answers {h} w s place out allowance p = old-answers (pump-reached h s place out allowance w) p
