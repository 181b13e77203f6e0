-- Every hub that the public calls reach: at most four pads stand, each keeps the sheet that it was registered with, its codes do not fall, and the lookup of
-- a code answers what a plain scan of its places would. By induction on the calls; only registration touches the sheets' columns.
use Rattle.std.specs.Prelude.{ℕ, zero, suc, ◌+◌, ◌*◌, ◌<◌, ◌≤◌, Bool, List, ◌≡◌, Float, None, Option, Some}
use Rattle.std.proofs.Math.Path.{refl}
use native.Mathlib.Omega.{arith}
use Rattle.rules.specs.declared.Hub.{Hub}
use Rattle.rules.specs.declared.EventForm.{EventForm}
use Rattle.rules.specs.Names.{pad_limit, places_per_pad, nowhere, code_up}
use Rattle.rules.specs.Forms.{read_event}
use Rattle.rules.specs.Sheets.{count_of, element_of}
use Rattle.rules.specs.Places.{directions, place_of, scan_of}
use Rattle.rules.specs.Refusals.{thresholds_refusal, insert_refusal}
use Rattle.rules.specs.Calls.{fresh_hub, idle_hub, new_by, new_of, register_refusal, register_by, register_as, renamed_at, rename_refusal, rename_by, rename_of, form_place, update_of, inserted_at, insert_form_by, insert_by, insert_of, counted_at, inc_of, reset_of}
use Rattle.pad.specs.Rising.{NeverFalls, place-is-scan}
use Rattle.theory_calls.specs.Reach.{Reached, new, register, rename, step, update, insert, inc, reset}
use Rattle.theory_registered.specs.Columns.{either-taken, keeps-rise}
use Rattle.theory_registered.specs.Found.{Listed, listed}
use Rattle.theory_registered.specs.Directions.{direction-found}
use Rattle.theory_registered.specs.Unlisted.{Foreign, not_found}
use Rattle.theory_registered.specs.Pads.{Desk, Sheet, alike, alike-by, counted-alike, step-alike, taken-desk, update_alike}

-- ---- each call

fresh-desk : (pressed released : Float) (reversed filters updates : Bool) → Desk (fresh_hub pressed released reversed filters updates)
unfolding fresh_hub
fresh-desk pressed released reversed filters updates =
    record {
      sized = record { codes = refl; kinds = refl; names = refl; elements = refl; counts = refl; hats = refl; converts = refl };
      few = omega arith;
      sheets = λ p short. absurd (omega arith);
    }

new-desk : (number : ℕ) (h : Hub) → Desk h → Desk (new_by number h).hub
unfolding idle_hub
new-desk zero h d = d
new-desk (suc number) h d = fresh-desk _ _ _ _ _

register-desk : (archived : Bool) (h : Hub) (s : List ℕ) → Desk h → (number : ℕ) → register_refusal archived h.pads s ≡ number → Desk (register_by number h s).hub
register-desk archived h s d zero e = taken-desk h s d (either-taken archived h.pads s e)
register-desk archived h s d (suc number) e = d

rename-desk : (number : ℕ) (h : Hub) (pad : ℕ) (list : List ℕ) → Desk h → Desk (rename_by number h pad list).hub
unfolding renamed_at
rename-desk zero h pad list d = alike h _ (alike-by h _ refl refl refl refl refl refl refl refl) d
rename-desk (suc number) h pad list d = d

insert-form-desk : (number : ℕ) (h : Hub) (f : EventForm) → Desk h → Desk (insert_form_by number h f).hub
unfolding inserted_at
insert-form-desk zero h f d = alike h _ (alike-by h _ refl refl refl refl refl refl refl refl) d
insert-form-desk (suc number) h f d = d

insert-desk : (r : Option EventForm) (h : Hub) → Desk h → Desk (insert_by r h).hub
insert-desk (Some f) h d = insert-form-desk (insert_refusal f h.pads (form_place h f) h.waiting) h f d
insert-desk None h d = d

-- ---- every hub that is reached

pub reached-desk : {h : Hub} → Reached h → Desk h
unfolding new_of register_as rename_of update_of insert_of inc_of reset_of counted_at
reached-desk (new pressed released reversed filters updates) =
    new-desk (thresholds_refusal pressed released) _ (fresh-desk pressed released reversed filters updates)
reached-desk (register {h} archived sheet w) = register-desk archived h sheet (reached-desk w) (register_refusal archived h.pads sheet) refl
reached-desk (rename {h} pad list w) = rename-desk (rename_refusal h pad list) h pad list (reached-desk w)
reached-desk (step {h} l w) = alike h _ (step-alike h l) (reached-desk w)
reached-desk (update {h} event w) = alike h _ (update_alike (read_event event) h) (reached-desk w)
reached-desk (insert {h} event w) = insert-desk (read_event event) h (reached-desk w)
reached-desk (inc {h} w) = alike h _ (counted-alike h _) (reached-desk w)
reached-desk (reset {h} w) = alike h _ (counted-alike h 0) (reached-desk w)

module _ {h : Hub} (w : Reached h) (p : ℕ) (short : p < h.pads) where
  pub four-pads : h.pads ≤ pad_limit
  four-pads = (reached-desk w).few

  stands : p < pad_limit
  stands =
      let few = four-pads in
      omega arith

  pub sheet-of : Sheet h p
  sheet-of = (reached-desk w).sheets p short

  -- a registered pad's codes do not fall
  pub never-falls : NeverFalls h.codes p
  never-falls = keeps-rise h p sheet-of.sheet sheet-of.kept.taken sheet-of.kept.keeps

  -- so the halving search is the plain scan
  pub lookup-is-scan : (c : ℕ) → place_of h.codes p c ≡ scan_of h.codes places_per_pad (places_per_pad * p) c
  lookup-is-scan c = place-is-scan h.codes p c stands never-falls

  -- and each element that the sheet lists is found, with its kind, its name and what is kept of its limits
  pub element-kept : (e : ℕ) → e < count_of sheet-of.sheet → Listed h p (element_of sheet-of.sheet e)
  element-kept e inside = listed h p sheet-of.sheet stands sheet-of.kept.taken sheet-of.kept.keeps e inside

  -- so is each direction, listed or not
  pub direction-kept : (d : ℕ) → d < directions → place_of h.codes p (code_up + d) < nowhere
  direction-kept d few = direction-found h p sheet-of.sheet stands sheet-of.kept.taken sheet-of.kept.keeps d few

  -- while a code that is neither listed nor a direction's is not
  pub foreign-absent : (c : ℕ) → Foreign sheet-of.sheet c → place_of h.codes p c ≡ nowhere
  foreign-absent c foreign = not_found sheet-of.sheet c foreign h p stands sheet-of.kept.taken sheet-of.kept.keeps
