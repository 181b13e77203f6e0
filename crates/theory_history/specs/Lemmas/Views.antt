-- What the filters see for an event, on a hub that is played.
use Rattle.std.specs.Prelude.{ℕ, ◌<◌, Bool, true, false, ◌≡◌, eqb, get_or}
use Rattle.std.proofs.Math.Bool.{cond}
use mathlib.Core.List.{List}
use Rattle.std.proofs.Math.Path.{refl, ap}
use Rattle.std.proofs.Common.{sym, ◌∙◌}
use Rattle.std.proofs.Math.Dec.{ltb}
use Rattle.rules.specs.declared.Hub.{Hub}
use Rattle.rules.specs.declared.Event.{Event}
use Rattle.rules.specs.declared.RawRecord.{RawRecord}
use Rattle.rules.specs.Names.{nowhere, partner_of}
use Rattle.rules.specs.Places.{place_of, named_of, present_names}
use Rattle.rules.specs.Events.{name_of, code_of}
use Rattle.rules.specs.State.{read_value}
use Rattle.rules.specs.Hub.{place_in, has_axis_at, value_at, converts_in, converts_now, partner_place_of, partner_place, view_at, view_of}
use Rattle.rules.specs.Step.{marked_of}
use Rattle.theory_registered.specs.Pads.{Desk}
use Rattle.theory_history.specs.Lemmas.Cells.{cell_at, cell_value}
use Rattle.theory_history.specs.Lemmas.Steps.{Ready, marked-ready}
use Rattle.theory_history.specs.Lemmas.Waits.{sheet_of, axial_at}
use Rattle.theory_history.specs.Lemmas.Exact.{Sees}
use Rattle.theory_history.specs.Lemmas.Partner.{partner-axial}

module _ (h : Hub) (r : RawRecord) (w : Ready h) (desk : Desk h) (e : Event) where
  abbrev marked : Hub
  marked = marked_of h r

  names-are : present_names marked.names marked.renames marked.renamed e.pad ≡ h.names
  unfolding present_names
  names-are = ap (λ (b : Bool). cond b marked.renames marked.names) ((marked-ready h r w).named e.pad) ∙ (unfold marked_of in refl)

  converts-are : converts_now marked e.pad ≡ get_or h.converts e.pad false
  unfolding converts_in
  converts-are =
      ap (λ (b : Bool). cond b (get_or marked.newconverts e.pad false) (get_or marked.converts e.pad false)) ((marked-ready h r w).named e.pad)
      ∙ (unfold marked_of in refl)

  pub partner-is : partner_place marked e.pad (name_of e) ≡ cond (eqb (partner_of (name_of e)) 0) nowhere (named_of h.names e.pad (partner_of (name_of e)))
  unfolding partner_place_of
  partner-is = ap (λ (names : List ℕ). cond (eqb (partner_of (name_of e)) 0) nowhere (named_of names e.pad (partner_of (name_of e)))) names-are

  partner-code : e.pad < h.pads → ltb (partner_place marked e.pad (name_of e)) nowhere ≡ true
      → axial_at (sheet_of h) (place_of h.codes e.pad (get_or marked.codes (partner_place marked e.pad (name_of e)) 0)) ≡ true
  unfolding marked_of
  partner-code old stands =
      ap (λ (k : ℕ). axial_at (sheet_of h) (place_of h.codes e.pad (get_or h.codes k 0))) partner-is
      ∙ partner-axial h desk e.pad old (name_of e) (ap (λ (k : ℕ). ltb k nowhere) (sym partner-is) ∙ stands)

  pub sees : Sees (sheet_of h) e (view_of marked e)
  unfolding view_of view_at marked_of
  sees = record { converts = converts-are; dead = refl; threshold = refl; partner = partner-code }

-- the value that the state has for a code without an axis record
pub own_is : (h : Hub) (r : RawRecord) (e : Event) (k : ℕ) → place_of h.codes e.pad (code_of e) ≡ k → has_axis_at (marked_of h r) k ≡ false
    → (view_of (marked_of h r) e).own ≡ cell_value (cell_at (marked_of h r) k)
unfolding view_of view_at value_at read_value cell_at
own_is h r e k here still =
    ap (λ (j : ℕ). value_at (marked_of h r) j) (codes_same ∙ here) ∙ (unfold value_at read_value cell_at in rw still)
  where
    codes_same : place_in (marked_of h r) e.pad (code_of e) ≡ place_of h.codes e.pad (code_of e)
    codes_same = unfold marked_of in refl
