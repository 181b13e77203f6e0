-- The law book's hub that a head and the lent arrays stand for.
use Rattle.std.specs.Prelude.{ℕ, Bool, List, Float, Result}
use Rattle.rules.specs.declared.Hub.{Hub}
use Rattle.rules.specs.declared.Element.{Element}
use Rattle.rules.specs.declared.ButtonData.{ButtonData}
use Rattle.rules.specs.declared.AxisData.{AxisData}
use Rattle.rules.specs.declared.Slot.{Slot}
use Rattle.rules.specs.declared.Answered.{Answered}
use Rattle.rules.specs.declared.Registered.{Registered}
use Rattle.rules.specs.Pump.{Run}
use Rattle.columns.specs.Columns.{elements_of, buttons_of, axes_of, slots_of}
use Rattle.hub.specs.declared.Head.{Head}
use Rattle.hub.specs.declared.PumpedHead.{PumpedHead}
use Rattle.hub.specs.declared.RegisteredHead.{RegisteredHead}
use Rattle.rules.specs.declared.Refusal.{Refusal}

-- ---- the arrays

-- what the pads list: written by register and rename, read by all
pub record Listed : Type 0 where
  pub codes : List ℕ
  pub kinds : List ℕ
  pub names : List ℕ
  pub renames : List ℕ

-- marks, records and queue: what steps change
pub record Columns : Type 0 where
  pub hasbutton : List Bool
  pub hasaxis : List Bool
  pub values : List Float
  pub times : List ℕ
  pub marks : List Bool
  pub queuebytes : List ℕ
  pub queuecodes : List ℕ

abbrev pub listed : List ℕ → List ℕ → List ℕ → List ℕ → Listed
listed codes kinds names renames = record { codes = codes; kinds = kinds; names = names; renames = renames }

abbrev pub columns : List Bool → List Bool → List Float → List ℕ → List Bool → List ℕ → List ℕ → Columns
columns hasbutton hasaxis values times marks queuebytes queuecodes =
    record {
      hasbutton = hasbutton;
      hasaxis = hasaxis;
      values = values;
      times = times;
      marks = marks;
      queuebytes = queuebytes;
      queuecodes = queuecodes;
    }

-- ---- the hub

-- of a head, of what the pads list, of the marks and of the records
abbrev pub hub_from : Head → Listed → List Bool → List Bool → List Element → List ButtonData → List AxisData → List Slot → Hub
hub_from d s hasbutton hasaxis elements buttons axes queue =
    record {
      pressed = d.pressed;
      released = d.released;
      reversed = d.reversed;
      filters = d.filters;
      updates = d.updates;
      counter = d.counter;
      pads = d.pads;
      counts = d.counts;
      connected = d.connected;
      hats = d.hats;
      converts = d.converts;
      renamed = d.renamed;
      newhats = d.newhats;
      newconverts = d.newconverts;
      codes = s.codes;
      kinds = s.kinds;
      names = s.names;
      renames = s.renames;
      elements = elements;
      hasbutton = hasbutton;
      buttons = buttons;
      hasaxis = hasaxis;
      axes = axes;
      down = d.down;
      held = d.held;
      heldaxes = d.heldaxes;
      flags = d.flags;
      queue = queue;
      head = d.head;
      waiting = d.waiting;
    }

abbrev pub hub_of : Head → Listed → Columns → Hub
hub_of d s t =
    hub_from d s t.hasbutton t.hasaxis (elements_of t.values t.marks) (buttons_of t.values t.times t.marks)
    (axes_of t.values t.times) (slots_of t.values t.times t.queuebytes t.queuecodes)

-- ---- what a call leaves: the hub, with its answer; and for a pump the out buffer

abbrev pub pumped : PumpedHead → Listed → Columns → List ℕ → Run
pumped r s t out = record { pumped = record { hub = hub_of r.head s t; answer = r.answer }; out = out }

abbrev pub answered : Head → Listed → Columns → Result (Unit {0}) Refusal → Answered
answered d s t a = record { hub = hub_of d s t; answer = a }

abbrev pub registered : RegisteredHead → Listed → Columns → Registered
registered r s t = record { hub = hub_of r.head s t; answer = r.answer }
