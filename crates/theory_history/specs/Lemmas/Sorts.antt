-- The sorts of codes that the rule tells of by their own records: buttons and triggers, and codes that are not listed, which have none. What makes a place one of them is kept by registration, and no other
-- call changes it.
use Rattle.std.specs.Prelude.{ℕ, ◌<◌, true, List, ◌≡◌, refl, Float}
use Rattle.std.proofs.Math.Path.{sym}
use Rattle.std.proofs.Common.{◌∙◌, ap, subst}
use Rattle.std.proofs.Math.ListN.{get_or}
use Rattle.rules.specs.declared.Hub.{Hub}
use Rattle.rules.specs.declared.Event.{Event}
use Rattle.rules.specs.declared.Element.{Element}
use Rattle.rules.specs.declared.RawRecord.{RawRecord}
use Rattle.rules.specs.declared.NextRecord.{NextRecord}
use Rattle.rules.specs.Names.{nowhere, no_name, is_button}
use Rattle.rules.specs.Sheets.{element_button, element_axis}
use Rattle.rules.specs.Places.{place_of}
use Rattle.rules.specs.Hub.{element_at, past_element}
use Rattle.rules.specs.Step.{updated_of, updated_at, filtered_hub, pushed_of, marked_of, step_hub}
use Rattle.rules.specs.Calls.{counted_at, register_refusal, registered_at}
use Rattle.pad.specs.Lookup.{place-stands}
use Rattle.theory_registered.specs.Pads.{Desk}
use Rattle.theory_history.specs.Rule.{Reading, nothing, button_reads, trigger_reads}
use Rattle.theory_history.specs.Lemmas.Waits.{Sheet, sheet_of, axial_at, takes}
use Rattle.theory_history.specs.Lemmas.Records.{Place}
use Rattle.theory_history.specs.Lemmas.Register.{next, old-place, old-takes, old-name, old-kind, old_element, old-axial}

pub data Sort : Type 0 where
  button : Sort
  silent : Sort
  trigger : Float → Float → Element → Sort

abbrev pub reads_of : Sort → ℕ → ℕ → List RawRecord → Reading
reads_of button p c rs = button_reads p c rs
reads_of silent p c rs = nothing
reads_of (trigger pressed released e) p c rs = trigger_reads pressed released e p c rs

pub record IsButton (h : Hub) (k : ℕ) : Type 0 where
  pub kind : get_or h.kinds k 0 ≡ element_button

-- a code that the sheet does not list has no records
pub record IsSilent (h : Hub) (k : ℕ) : Type 0 where
  pub kind : get_or h.kinds k 0 ≡ 0

pub record IsTrigger (h : Hub) (k : ℕ) (on off : Float) (e : Element) : Type 0 where
  pub kind : get_or h.kinds k 0 ≡ element_axis
  pub name : is_button (get_or h.names k no_name) ≡ true
  pub pressed : h.pressed ≡ on
  pub released : h.released ≡ off
  pub element : element_at h k ≡ e

abbrev pub Is : Sort → Hub → ℕ → Type 0
Is button h k = IsButton h k
Is silent h k = IsSilent h k
Is (trigger pressed released e) h k = IsTrigger h k pressed released e

-- ---- calls that leave the sheets alone

pub record Same (h g : Hub) : Type 0 where
  pub pads : g.pads ≡ h.pads
  pub codes : g.codes ≡ h.codes
  pub kinds : g.kinds ≡ h.kinds
  pub names : g.names ≡ h.names
  pub elements : g.elements ≡ h.elements
  pub converts : g.converts ≡ h.converts
  pub pressed : g.pressed ≡ h.pressed
  pub released : g.released ≡ h.released
  pub reversed : g.reversed ≡ h.reversed

pub same-sheets : (h g : Hub) → Same h g → sheet_of g ≡ sheet_of h
same-sheets h g a = rw (a.pads, a.codes, a.kinds, a.names, a.elements, a.converts)

module _ (h g : Hub) (a : Same h g) (p c : ℕ) where
  pub same_place : place_of g.codes p c ≡ place_of h.codes p c
  same_place = ap (λ (codes : List ℕ). place_of codes p c) a.codes

  pub place-back : Place g p c → Place h p c
  place-back pl =
      let s = same-sheets h g a in
      record {
        pad = subst (λ (n : ℕ). p < n) a.pads pl.pad;
        found = subst (λ (k : ℕ). k < nowhere) same_place pl.found;
        bare = ap (λ (k : ℕ). axial_at (sheet_of h) k) (sym same_place) ∙ (ap (λ (t : Sheet). axial_at t (place_of g.codes p c)) (sym s) ∙ pl.bare);
        plus = λ n t. pl.plus n (ap (λ (u : Sheet). takes u p n) s ∙ t);
        minus = λ n t. pl.minus n (ap (λ (u : Sheet). takes u p n) s ∙ t);
      }

  pub is-back : (t : Sort) → Is t g (place_of g.codes p c) → Is t h (place_of h.codes p c)
  is-back button i =
      record { kind = ap (λ (k : ℕ). get_or h.kinds k 0) (sym same_place) ∙ (ap (λ (l : List ℕ). get_or l (place_of g.codes p c) 0) (sym a.kinds) ∙ i.kind) }
  is-back silent i =
      record { kind = ap (λ (k : ℕ). get_or h.kinds k 0) (sym same_place) ∙ (ap (λ (l : List ℕ). get_or l (place_of g.codes p c) 0) (sym a.kinds) ∙ i.kind) }
  is-back (trigger pressed released e) i =
      record {
        kind = ap (λ (k : ℕ). get_or h.kinds k 0) (sym same_place) ∙ (ap (λ (l : List ℕ). get_or l (place_of g.codes p c) 0) (sym a.kinds) ∙ i.kind);
        name =
            ap (λ (k : ℕ). is_button (get_or h.names k no_name)) (sym same_place)
            ∙ (ap (λ (l : List ℕ). is_button (get_or l (place_of g.codes p c) no_name)) (sym a.names) ∙ i.name);
        pressed = sym a.pressed ∙ i.pressed;
        released = sym a.released ∙ i.released;
        element =
            ap (λ (k : ℕ). element_at h k) (sym same_place)
            ∙ (ap (λ (l : List Element). get_or l (place_of g.codes p c) past_element) (sym a.elements) ∙ i.element);
      }

pub step_same : (h : Hub) (l : NextRecord) → Same h (step_hub h l)
unfolding step_hub updated_of updated_at filtered_hub pushed_of marked_of
step_same h l =
    record { pads = refl; codes = refl; kinds = refl; names = refl; elements = refl; converts = refl; pressed = refl; released = refl; reversed = refl }

pub counted_same : (h : Hub) (n : ℕ) → Same h (counted_at h n)
unfolding counted_at
counted_same h n =
    record { pads = refl; codes = refl; kinds = refl; names = refl; elements = refl; converts = refl; pressed = refl; released = refl; reversed = refl }

pub update_same : (h : Hub) (e : Event) → Same h (updated_of true h e)
unfolding updated_of updated_at
update_same h e =
    record { pads = refl; codes = refl; kinds = refl; names = refl; elements = refl; converts = refl; pressed = refl; released = refl; reversed = refl }

-- ---- registration, for a pad before it

module _ (h : Hub) (s : List ℕ) (desk : Desk h) (ok : register_refusal true h.pads s ≡ 0) (p c : ℕ) (old : p < h.pads) where
  abbrev then : Hub
  then = next h s desk ok

  abbrev at : place_of then.codes p c ≡ place_of h.codes p c
  at = old-place h s desk ok p old c

  pub old-back : Place then p c → Place h p c
  old-back pl =
      let found : place_of h.codes p c < nowhere = subst (λ (k : ℕ). k < nowhere) at pl.found in
      let own = (place-stands h.codes p c found).own in
      record {
        pad = old;
        found = found;
        bare = sym (old-axial h s desk ok p old (place_of h.codes p c) own) ∙ (ap (λ (k : ℕ). axial_at (sheet_of then) k) (sym at) ∙ pl.bare);
        plus = λ n t. pl.plus n (old-takes h s desk ok p old n ∙ t);
        minus = λ n t. pl.minus n (old-takes h s desk ok p old n ∙ t);
      }

  pub old-is : (t : Sort) → place_of h.codes p c < nowhere → Is t then (place_of then.codes p c) → Is t h (place_of h.codes p c)
  unfolding registered_at
  old-is button found i =
      let own = (place-stands h.codes p c found).own in
      record { kind = sym (old-kind h s desk ok p old (place_of h.codes p c) own) ∙ (ap (λ (k : ℕ). get_or then.kinds k 0) (sym at) ∙ i.kind) }
  old-is silent found i =
      let own = (place-stands h.codes p c found).own in
      record { kind = sym (old-kind h s desk ok p old (place_of h.codes p c) own) ∙ (ap (λ (k : ℕ). get_or then.kinds k 0) (sym at) ∙ i.kind) }
  old-is (trigger pressed released e) found i =
      let own = (place-stands h.codes p c found).own in
      record {
        kind = sym (old-kind h s desk ok p old (place_of h.codes p c) own) ∙ (ap (λ (k : ℕ). get_or then.kinds k 0) (sym at) ∙ i.kind);
        name =
            sym (ap is_button (old-name h s desk ok p old (place_of h.codes p c) own))
            ∙ (ap (λ (k : ℕ). is_button (get_or then.names k no_name)) (sym at) ∙ i.name);
        pressed = i.pressed;
        released = i.released;
        element = sym (old_element h s desk ok p old (place_of h.codes p c) own) ∙ (ap (λ (k : ℕ). element_at then k) (sym at) ∙ i.element);
      }
