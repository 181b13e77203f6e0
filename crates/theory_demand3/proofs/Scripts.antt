-- The hub after a script: it is played by the records that the script took, it has the script's settings, and it keeps the sheets that were accepted. By
-- induction on the calls; only registration touches the sheets, and only a pump takes records.
use Rattle.std.specs.Prelude.{ℕ, zero, suc, ◌+◌, ◌-◌, ◌*◌, ◌/◌, ◌<◌, Bool, true, false, List, [], ◌∷◌, ◌++◌, ◌≡◌, refl, ltb, length, get_or, Err, None, Ok, Option, Result, Some}
use Rattle.std.proofs.Common.{sym, ◌∙◌, ap, subst, length-append, arith, ltb-true, ltb-false}
use Rattle.std.proofs.Math.ListN.{get_or-append}
use Rattle.std.proofs.Math.Seq.{get_or-append_seam}
use Rattle.rules.specs.declared.Hub.{Hub}
use Rattle.rules.specs.declared.RawRecord.{RawRecord}
use Rattle.rules.specs.declared.Event.{Event}
use Rattle.rules.specs.declared.EventForm.{EventForm}
use Rattle.rules.specs.declared.Refusal.{Refusal}
use Rattle.rules.specs.Forms.{read_event, record_size}
use Rattle.rules.specs.Events.{event_bytes}
use Rattle.rules.specs.Repeat.{repeat_of}
use Rattle.rules.specs.Refusals.{thresholds_refusal, form_refusal}
use Rattle.rules.specs.Pump.{pump_of}
use Rattle.rules.specs.Calls.{fresh_hub, idle_hub, new_by, new_of, registered_at, register_refusal, register_by, register_as, form_place, update_by, update_of, inc_of, reset_of}
use Rattle.theory_calls.specs.Reach.{pump-keeps}
use Rattle.theory_calls.specs.Machines.{said}
use Rattle.theory_registered.specs.Columns.{either-taken}
use Rattle.theory_registered.specs.Pads.{Desk, Kept, Alike, alike-kept, next-kept, old-kept, step-alike, update_alike, counted-alike}
use Rattle.theory_registered.proofs.Pads.{reached-desk}
use Rattle.theory_history.specs.Rule.{records_from}
use Rattle.theory_history.specs.Played as played
use Rattle.theory_history.specs.Played.{Played, reached}
use Rattle.theory_history.proofs.Pumps.{pump-took}
use Rattle.theory_history.specs.Lemmas.Small.{Small, new-small, register-small, pump-small, update-small, counted-small}
use Rattle.theory_history.proofs.Repeated.{repeats}
use Rattle.theory_history.specs.Lemmas.Sorts.{Same, step_same, counted_same}
use Rattle.theory_history.specs.Lemmas.Kept.{form-same}
use Rattle.theory_demand3.specs.Demand3.{Settings, register, pump, inc, reset, repeat, Script, new, ◌then◌, Allowed, fed_back, play, settings_of, taken_by, records_of, Sheet, sheet_read, accepted_by, sheets_of, no_sheet}

-- ---- records

-- 21 bytes for each
counted : (place count to : ℕ) → to ≡ place + record_size * count → (to - place) / record_size ≡ count
counted place count to e = omega arith

pump-played : (h : Hub) (rs : List RawRecord) (batch : List ℕ) (place : ℕ) (out : List ℕ) (allowance : ℕ) → Played h rs
    → Played (pump_of h batch place out allowance).pumped.hub (taken_by (said pump_of h batch place out allowance) batch place rs)
pump-played h rs batch place out allowance w =
    let t = pump-took h batch place out allowance rs w in
    subst (λ (n : ℕ). Played (pump_of h batch place out allowance).pumped.hub (records_from n batch place rs)) (sym (counted place t.count _ t.place)) t.played

-- ---- codes of four bytes, so that a repeat's event reads back

fed-small : (a : Result (Option Event) Refusal) (h : Hub) → Small h → Small (fed_back a h)
fed-small (Ok (Some e)) h w = update-small h (event_bytes e) w
fed-small (Ok None) h w = w
fed-small (Err e) h w = w

script-small : (s : Script) → Allowed s → Small (play pump_of s)
unfolding play inc_of reset_of
script-small (new t) ok = new-small t.pressed t.released t.reversed true true
script-small (s then register archived sheet) ok = register-small archived (play pump_of s) sheet ok.1 (script-small s ok.0)
script-small (s then pump batch place out allowance) ok = pump-small (play pump_of s) batch place out allowance (script-small s ok.0)
script-small (s then inc) ok = counted-small (play pump_of s) _ (script-small s ok.0)
script-small (s then reset) ok = counted-small (play pump_of s) 0 (script-small s ok.0)
script-small (s then repeat after every clock true) ok = fed-small (repeat_of (play pump_of s) after every clock) (play pump_of s) (script-small s ok.0)
script-small (s then repeat after every clock false) ok = script-small s ok.0

-- ---- played

fed-played : (h : Hub) (rs : List RawRecord) (after every clock : ℕ) (a : Result (Option Event) Refusal) → repeat_of h after every clock ≡ a → Small h → Played h rs
    → Played (fed_back a h) rs
fed-played h rs after every clock (Ok (Some e)) is small w = played.repeat (event_bytes e) (repeats w small after every clock e is) w
fed-played h rs after every clock (Ok None) is small w = w
fed-played h rs after every clock (Err e) is small w = w

pub script-played : (s : Script) → Allowed s → Played (play pump_of s) (records_of pump_of s)
unfolding play records_of
script-played (new t) ok = played.fresh t.pressed t.released t.reversed ok
script-played (s then register archived sheet) ok = played.register archived sheet (script-played s ok.0)
script-played (s then pump batch place out allowance) ok = pump-played (play pump_of s) (records_of pump_of s) batch place out allowance (script-played s ok.0)
script-played (s then inc) ok = played.inc (script-played s ok.0)
script-played (s then reset) ok = played.reset (script-played s ok.0)
script-played (s then repeat after every clock true) ok =
    fed-played (play pump_of s) (records_of pump_of s) after every clock (repeat_of (play pump_of s) after every clock) refl (script-small s ok.0) (script-played s ok.0)
script-played (s then repeat after every clock false) ok = script-played s ok.0

pub script-desk : (s : Script) → Allowed s → Desk (play pump_of s)
script-desk s ok = reached-desk (reached (script-played s ok))

-- ---- sheets

-- the bytes that a pad was registered with
pub record Registered (h : Hub) (sheets : List Sheet) (p : ℕ) : Type 0 where
  pub bytes : List ℕ
  pub reads : get_or sheets p no_sheet ≡ sheet_read bytes
  pub kept : Kept h p bytes

pub record Sheets (h : Hub) (sheets : List Sheet) : Type 0 where
  pub pads : length sheets ≡ h.pads
  pub each : (p : ℕ) → p < h.pads → Registered h sheets p

alike-sheets : (h g : Hub) (sheets : List Sheet) → Alike h g → Sheets h sheets → Sheets g sheets
alike-sheets h g sheets a w =
    record {
      pads = w.pads ∙ sym a.pads;
      each =
          λ p short.
          let r = w.each p (rw a.pads at short) in
          record { bytes = r.bytes; reads = r.reads; kept = alike-kept h g p r.bytes a r.kept };
    }

new-sheets : (number : ℕ) (t : Settings) → Sheets (new_by number (fresh_hub t.pressed t.released t.reversed true true)).hub []
unfolding fresh_hub idle_hub
new-sheets zero t = record { pads = refl; each = λ p short. absurd (omega arith) }
new-sheets (suc number) t = record { pads = refl; each = λ p short. absurd (omega arith) }

module _ (h : Hub) (sheet : List ℕ) (sheets : List Sheet) (d : Desk h) (taken : register_refusal true h.pads sheet ≡ 0) (w : Sheets h sheets) where
  abbrev all : List Sheet
  all = sheets ++ (sheet_read sheet ∷ [])

  pad-by : (p : ℕ) (older : Bool) → ltb p h.pads ≡ older → p < h.pads + 1 → Registered (register_by 0 h sheet).hub all p
  pad-by p true e short =
      let old = ltb-true p h.pads e in
      let r = w.each p old in
      let long = w.pads in
      record {
        bytes = r.bytes;
        reads = get_or-append sheets (sheet_read sheet ∷ []) no_sheet p (omega arith) ∙ r.reads;
        kept = old-kept h sheet d taken p old r.bytes r.kept;
      }
  pad-by p false e short =
      let past = ltb-false p h.pads e in
      let last : p ≡ h.pads = omega arith in
      let long = w.pads in
      record {
        bytes = sheet;
        reads = ap (λ (q : ℕ). get_or all q no_sheet) (last ∙ sym long) ∙ get_or-append_seam sheets (sheet_read sheet) [] no_sheet;
        kept = subst (λ (q : ℕ). Kept (register_by 0 h sheet).hub q sheet) (sym last) (next-kept h sheet d taken);
      }

register-sheets : (number : ℕ) (h : Hub) (archived : Bool) (sheet : List ℕ) (sheets : List Sheet) → Desk h
    → register_refusal archived h.pads sheet ≡ number → Sheets h sheets
    → Sheets (register_by number h sheet).hub (accepted_by (register_by number h sheet).answer sheet sheets)
unfolding registered_at
register-sheets zero h archived sheet sheets d taken w =
    let long = w.pads in
    let ok = either-taken archived h.pads sheet taken in
    record {
      pads = length-append sheets (sheet_read sheet ∷ []) ∙ omega arith;
      each = λ p short. pad-by h sheet sheets d ok w p (ltb p h.pads) refl short;
    }
register-sheets (suc number) h archived sheet sheets d taken w = w

fed-sheets : (a : Result (Option Event) Refusal) (h : Hub) (sheets : List Sheet) → Sheets h sheets → Sheets (fed_back a h) sheets
unfolding update_of
fed-sheets (Ok (Some e)) h sheets w = alike-sheets h _ sheets (update_alike (read_event (event_bytes e)) h) w
fed-sheets (Ok None) h sheets w = w
fed-sheets (Err e) h sheets w = w

pub script-sheets : (s : Script) → Allowed s → Sheets (play pump_of s) (sheets_of pump_of s)
unfolding play pump_of sheets_of new_of register_as inc_of reset_of
script-sheets (new t) ok = new-sheets (thresholds_refusal t.pressed t.released) t
script-sheets (s then register archived sheet) ok =
    register-sheets (register_refusal archived (play pump_of s).pads sheet) (play pump_of s) archived sheet (sheets_of pump_of s) (script-desk s ok.0) refl (script-sheets s ok.0)
script-sheets (s then pump batch place out allowance) ok =
    pump-keeps (λ (h : Hub). Sheets h (sheets_of pump_of s)) (λ h l w. alike-sheets h _ (sheets_of pump_of s) (step-alike h l) w) (play pump_of s) batch place out allowance (script-sheets s ok.0)
script-sheets (s then inc) ok = alike-sheets (play pump_of s) _ (sheets_of pump_of s) (counted-alike (play pump_of s) _) (script-sheets s ok.0)
script-sheets (s then reset) ok = alike-sheets (play pump_of s) _ (sheets_of pump_of s) (counted-alike (play pump_of s) 0) (script-sheets s ok.0)
script-sheets (s then repeat after every clock true) ok =
    fed-sheets (repeat_of (play pump_of s) after every clock) (play pump_of s) (sheets_of pump_of s) (script-sheets s ok.0)
script-sheets (s then repeat after every clock false) ok = script-sheets s ok.0

-- ---- settings

pub record Set (t : Settings) (h : Hub) : Type 0 where
  pub pressed : h.pressed ≡ t.pressed
  pub released : h.released ≡ t.released
  pub reversed : h.reversed ≡ t.reversed

same_set : (t : Settings) (h g : Hub) → Same h g → Set t h → Set t g
same_set t h g a w = record { pressed = a.pressed ∙ w.pressed; released = a.released ∙ w.released; reversed = a.reversed ∙ w.reversed }

new-set : (number : ℕ) (t : Settings) → number ≡ 0 → Set t (new_by number (fresh_hub t.pressed t.released t.reversed true true)).hub
unfolding fresh_hub
new-set zero t ok = record { pressed = refl; released = refl; reversed = refl }
new-set (suc number) t ok = absurd (omega arith)

register-set : (number : ℕ) (t : Settings) (h : Hub) (sheet : List ℕ) → Set t h → Set t (register_by number h sheet).hub
unfolding registered_at
register-set zero t h sheet w = record { pressed = w.pressed; released = w.released; reversed = w.reversed }
register-set (suc number) t h sheet w = w

read_set : (r : Option EventForm) (t : Settings) (h : Hub) → Set t h → Set t (update_by r h).hub
read_set (Some f) t h w = same_set t h _ (form-same (form_refusal f h.pads (form_place h f)) h f) w
read_set None t h w = w

fed-set : (a : Result (Option Event) Refusal) (t : Settings) (h : Hub) → Set t h → Set t (fed_back a h)
unfolding update_of
fed-set (Ok (Some e)) t h w = read_set (read_event (event_bytes e)) t h w
fed-set (Ok None) t h w = w
fed-set (Err e) t h w = w

pub script-set : (s : Script) → Allowed s → Set (settings_of s) (play pump_of s)
unfolding play pump_of settings_of new_of register_as inc_of reset_of
script-set (new t) ok = new-set (thresholds_refusal t.pressed t.released) t ok
script-set (s then register archived sheet) ok = register-set (register_refusal archived (play pump_of s).pads sheet) (settings_of s) (play pump_of s) sheet (script-set s ok.0)
script-set (s then pump batch place out allowance) ok =
    pump-keeps (Set (settings_of s)) (λ h l w. same_set (settings_of s) h _ (step_same h l) w) (play pump_of s) batch place out allowance (script-set s ok.0)
script-set (s then inc) ok = same_set (settings_of s) (play pump_of s) _ (counted_same (play pump_of s) _) (script-set s ok.0)
script-set (s then reset) ok = same_set (settings_of s) (play pump_of s) _ (counted_same (play pump_of s) 0) (script-set s ok.0)
script-set (s then repeat after every clock true) ok = fed-set (repeat_of (play pump_of s) after every clock) (settings_of s) (play pump_of s) (script-set s ok.0)
script-set (s then repeat after every clock false) ok = script-set s ok.0
