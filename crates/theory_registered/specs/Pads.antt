-- What is kept of the pads: at most four stand, each with the sheet that it was registered with. Calls that leave the sheets' columns alone leave it so, and so does
-- a registration that is accepted. (Of every hub that the public calls reach: `proofs/Pads.antt`.)
use Rattle.std.specs.Prelude.{ℕ, zero, suc, ◌+◌, ◌<◌, ◌≤◌, Bool, true, List, map, ◌≡◌, ltb, get_or, None, Option, Some}
use Rattle.std.proofs.Math.Bool.{false}
use Rattle.std.proofs.Math.Path.{refl, sym}
use Rattle.std.proofs.Common.{◌∙◌, subst, ltb-true, ltb-false}
use Rattle.std.proofs.Math.Seq.{get_or-set_same, get_or-set_other}
use native.Mathlib.Omega.{arith}
use Rattle.rules.specs.declared.Hub.{Hub}
use Rattle.rules.specs.declared.EventForm.{EventForm}
use Rattle.rules.specs.declared.NextRecord.{NextRecord}
use Rattle.rules.specs.Names.{pad_limit}
use Rattle.rules.specs.Sheets.{sheet_refusal, hats_of, count_of}
use Rattle.rules.specs.Places.{rows_of, converts_of}
use Rattle.rules.specs.Refusals.{form_refusal}
use Rattle.rules.specs.Step.{marked_of, pushed_of, filtered_hub, updated_at, updated_of, step_hub}
use Rattle.rules.specs.Calls.{row_code, row_name, registered_at, register_refusal, register_by, form_place, update_form_by, update_by, counted_at}
use Rattle.theory_registered.specs.Columns.{Keeps, Sized, laid-places, accepted, register-sized, register-keeps, register-others}
use Rattle.theory_registered.specs.Converts.{SamePlaces, converts-same}

-- a pad that was registered with this sheet
pub record Kept (h : Hub) (p : ℕ) (sheet : List ℕ) : Type 0 where
  pub taken : sheet_refusal true sheet ≡ 0
  pub keeps : Keeps h p sheet
  pub converts : get_or h.converts p false ≡ converts_of (hats_of sheet) h.codes h.names p

-- with some sheet
pub record Sheet (h : Hub) (p : ℕ) : Type 0 where
  pub sheet : List ℕ
  pub kept : Kept h p sheet

pub record Desk (h : Hub) : Type 0 where
  pub sized : Sized h
  pub few : h.pads ≤ pad_limit
  pub sheets : (p : ℕ) → p < h.pads → Sheet h p

-- ---- calls that leave the sheets alone

-- the columns of two hubs are the same
pub record Alike (h g : Hub) : Type 0 where
  pub pads : g.pads ≡ h.pads
  pub codes : g.codes ≡ h.codes
  pub kinds : g.kinds ≡ h.kinds
  pub names : g.names ≡ h.names
  pub elements : g.elements ≡ h.elements
  pub counts : g.counts ≡ h.counts
  pub hats : g.hats ≡ h.hats
  pub converts : g.converts ≡ h.converts

alike-keeps : (h g : Hub) (p : ℕ) (s : List ℕ) → Alike h g → Keeps h p s → Keeps g p s
alike-keeps h g p s a k =
    record {
      codes = λ j short. rw a.codes (k.codes j short);
      kinds = λ j short. rw a.kinds (k.kinds j short);
      names = λ j short. rw a.names (k.names j short);
      elements = λ j short. rw a.elements (k.elements j short);
      count = rw a.counts k.count;
      hats = rw a.hats k.hats;
    }

pub alike-kept : (h g : Hub) (p : ℕ) (s : List ℕ) → Alike h g → Kept h p s → Kept g p s
alike-kept h g p s a k =
    record { taken = k.taken; keeps = alike-keeps h g p s a k.keeps; converts = rw (a.converts, a.codes, a.names) k.converts }

pub alike : (h g : Hub) → Alike h g → Desk h → Desk g
alike h g a d =
    record {
      sized =
          record {
            codes = rw a.codes d.sized.codes;
            kinds = rw a.kinds d.sized.kinds;
            names = rw a.names d.sized.names;
            elements = rw a.elements d.sized.elements;
            counts = rw a.counts d.sized.counts;
            hats = rw a.hats d.sized.hats;
            converts = rw a.converts d.sized.converts;
          };
      few = rw a.pads d.few;
      sheets =
          λ p short.
          let w = d.sheets p (rw a.pads at short) in
          record { sheet = w.sheet; kept = alike-kept h g p w.sheet a w.kept };
    }

abbrev pub alike-by : (h g : Hub) → g.pads ≡ h.pads → g.codes ≡ h.codes → g.kinds ≡ h.kinds → g.names ≡ h.names → g.elements ≡ h.elements
    → g.counts ≡ h.counts → g.hats ≡ h.hats → g.converts ≡ h.converts → Alike h g
alike-by h g a b c d e f i j = record { pads = a; codes = b; kinds = c; names = d; elements = e; counts = f; hats = i; converts = j }

pub step-alike : (h : Hub) (l : NextRecord) → Alike h (step_hub h l)
unfolding step_hub updated_of updated_at filtered_hub pushed_of marked_of
step-alike h l = alike-by h _ refl refl refl refl refl refl refl refl

pub form-alike : (number : ℕ) (h : Hub) (f : EventForm) → Alike h (update_form_by number h f).hub
unfolding updated_of updated_at
form-alike zero h f = alike-by h _ refl refl refl refl refl refl refl refl
form-alike (suc number) h f = alike-by h _ refl refl refl refl refl refl refl refl

pub update_alike : (r : Option EventForm) (h : Hub) → Alike h (update_by r h).hub
update_alike (Some f) h = form-alike (form_refusal f h.pads (form_place h f)) h f
update_alike None h = alike-by h _ refl refl refl refl refl refl refl refl

pub counted-alike : (h : Hub) (n : ℕ) → Alike h (counted_at h n)
unfolding counted_at
counted-alike h n = alike-by h _ refl refl refl refl refl refl refl refl

-- ---- a registration that is accepted

module _ (h : Hub) (s : List ℕ) (d : Desk h) (taken : register_refusal true h.pads s ≡ 0) where
  -- the next pad has the sheet that it is given
  pub next-kept : Kept (register_by 0 h s).hub h.pads s
  unfolding registered_at
  next-kept =
      let stands = (accepted h.pads s taken).0 in
      record {
        taken = (accepted h.pads s taken).1;
        keeps = register-keeps h s d.sized stands;
        converts = get_or-set_same h.converts h.pads _ false (rw d.sized.converts stands);
      }

  -- a pad before it keeps its own
  pub old-kept : (p : ℕ) → p < h.pads → (t : List ℕ) → Kept h p t → Kept (register_by 0 h s).hub p t
  unfolding registered_at
  old-kept p old t w =
      let few = (accepted h.pads s taken).0 in
      let other : p ≡ h.pads → ⊥ = λ e. omega arith in
      let codes : SamePlaces h.codes (registered_at h h.pads (hats_of s) (count_of s) (rows_of s (count_of s))).codes p =
      record { at = λ j past from to. sym (laid-places h.codes (map row_code (rows_of s (count_of s))) p h.pads j past old to) } in
      let names : SamePlaces h.names (registered_at h h.pads (hats_of s) (count_of s) (rows_of s (count_of s))).names p =
      record { at = λ j past from to. sym (laid-places h.names (map row_name (rows_of s (count_of s))) p h.pads j past old to) } in
      record {
        taken = w.taken;
        keeps = register-others h s d.sized few p t old w.keeps;
        converts =
            get_or-set_other h.converts h.pads p _ false other
            ∙ (w.converts
            ∙ converts-same h.codes _ h.names _ p codes names d.sized.names (register-sized h s d.sized).names (hats_of t));
      }

  sheet-by : (p : ℕ) (older : Bool) → ltb p h.pads ≡ older → p < h.pads + 1 → Sheet (register_by 0 h s).hub p
  sheet-by p true e short =
      let old = ltb-true p h.pads e in
      let w = d.sheets p old in
      record { sheet = w.sheet; kept = old-kept p old w.sheet w.kept }
  sheet-by p false e short =
      let past = ltb-false p h.pads e in
      let own : h.pads ≡ p = omega arith in
      subst (λ (q : ℕ). Sheet (register_by 0 h s).hub q) own (record { sheet = s; kept = next-kept })

  pub taken-desk : Desk (register_by 0 h s).hub
  taken-desk =
      let few = (accepted h.pads s taken).0 in
      record {
        sized = register-sized h s d.sized;
        few = unfold registered_at in omega arith;
        sheets = λ p short. sheet-by p (ltb p h.pads) refl (unfold registered_at in short);
      }
