-- A hub with other fields of one kind and the rest as they were. Only these and the fresh hub write a hub out, so a field more is written here and there alone;
-- the five settings never change. Each is an abbreviation: laws see the record. Definitions only.
use Rattle.std.specs.Prelude.{ℕ, Bool, List}
use Rattle.rules.specs.declared.Hub.{Hub}
use Rattle.rules.specs.declared.Element.{Element}
use Rattle.rules.specs.declared.ButtonData.{ButtonData}
use Rattle.rules.specs.declared.AxisData.{AxisData}
use Rattle.rules.specs.declared.Slot.{Slot}

-- the counter
abbrev pub with_counter : Hub → ℕ → Hub
with_counter h counter =
    record {
      pressed = h.pressed;
      released = h.released;
      reversed = h.reversed;
      filters = h.filters;
      updates = h.updates;
      counter = counter;
      pads = h.pads;
      counts = h.counts;
      connected = h.connected;
      hats = h.hats;
      converts = h.converts;
      renamed = h.renamed;
      newhats = h.newhats;
      newconverts = h.newconverts;
      codes = h.codes;
      kinds = h.kinds;
      names = h.names;
      renames = h.renames;
      elements = h.elements;
      hasbutton = h.hasbutton;
      buttons = h.buttons;
      hasaxis = h.hasaxis;
      axes = h.axes;
      down = h.down;
      held = h.held;
      heldaxes = h.heldaxes;
      flags = h.flags;
      queue = h.queue;
      head = h.head;
      waiting = h.waiting;
    }

-- what is kept of the pads' sheets
abbrev pub with_sheet : Hub → ℕ → List ℕ → List ℕ → List Bool → Hub
with_sheet h pads counts hats converts =
    record {
      pressed = h.pressed;
      released = h.released;
      reversed = h.reversed;
      filters = h.filters;
      updates = h.updates;
      counter = h.counter;
      pads = pads;
      counts = counts;
      connected = h.connected;
      hats = hats;
      converts = converts;
      renamed = h.renamed;
      newhats = h.newhats;
      newconverts = h.newconverts;
      codes = h.codes;
      kinds = h.kinds;
      names = h.names;
      renames = h.renames;
      elements = h.elements;
      hasbutton = h.hasbutton;
      buttons = h.buttons;
      hasaxis = h.hasaxis;
      axes = h.axes;
      down = h.down;
      held = h.held;
      heldaxes = h.heldaxes;
      flags = h.flags;
      queue = h.queue;
      head = h.head;
      waiting = h.waiting;
    }

-- what a sheet lists, by place
abbrev pub with_rows : Hub → List ℕ → List ℕ → List ℕ → List Element → Hub
with_rows h codes kinds names elements =
    record {
      pressed = h.pressed;
      released = h.released;
      reversed = h.reversed;
      filters = h.filters;
      updates = h.updates;
      counter = h.counter;
      pads = h.pads;
      counts = h.counts;
      connected = h.connected;
      hats = h.hats;
      converts = h.converts;
      renamed = h.renamed;
      newhats = h.newhats;
      newconverts = h.newconverts;
      codes = codes;
      kinds = kinds;
      names = names;
      renames = h.renames;
      elements = elements;
      hasbutton = h.hasbutton;
      buttons = h.buttons;
      hasaxis = h.hasaxis;
      axes = h.axes;
      down = h.down;
      held = h.held;
      heldaxes = h.heldaxes;
      flags = h.flags;
      queue = h.queue;
      head = h.head;
      waiting = h.waiting;
    }

-- what a rename puts beside the sheet
abbrev pub with_names : Hub → List ℕ → List Bool → List ℕ → Hub
with_names h newhats newconverts renames =
    record {
      pressed = h.pressed;
      released = h.released;
      reversed = h.reversed;
      filters = h.filters;
      updates = h.updates;
      counter = h.counter;
      pads = h.pads;
      counts = h.counts;
      connected = h.connected;
      hats = h.hats;
      converts = h.converts;
      renamed = h.renamed;
      newhats = newhats;
      newconverts = newconverts;
      codes = h.codes;
      kinds = h.kinds;
      names = h.names;
      renames = renames;
      elements = h.elements;
      hasbutton = h.hasbutton;
      buttons = h.buttons;
      hasaxis = h.hasaxis;
      axes = h.axes;
      down = h.down;
      held = h.held;
      heldaxes = h.heldaxes;
      flags = h.flags;
      queue = h.queue;
      head = h.head;
      waiting = h.waiting;
    }

-- which pads are connected, and which go by other names
abbrev pub with_marks : Hub → List Bool → List Bool → Hub
with_marks h connected renamed =
    record {
      pressed = h.pressed;
      released = h.released;
      reversed = h.reversed;
      filters = h.filters;
      updates = h.updates;
      counter = h.counter;
      pads = h.pads;
      counts = h.counts;
      connected = connected;
      hats = h.hats;
      converts = h.converts;
      renamed = renamed;
      newhats = h.newhats;
      newconverts = h.newconverts;
      codes = h.codes;
      kinds = h.kinds;
      names = h.names;
      renames = h.renames;
      elements = h.elements;
      hasbutton = h.hasbutton;
      buttons = h.buttons;
      hasaxis = h.hasaxis;
      axes = h.axes;
      down = h.down;
      held = h.held;
      heldaxes = h.heldaxes;
      flags = h.flags;
      queue = h.queue;
      head = h.head;
      waiting = h.waiting;
    }

-- the records, and the marks of those that stand
abbrev pub with_state : Hub → List Bool → List ButtonData → List Bool → List AxisData → Hub
with_state h hasbutton buttons hasaxis axes =
    record {
      pressed = h.pressed;
      released = h.released;
      reversed = h.reversed;
      filters = h.filters;
      updates = h.updates;
      counter = h.counter;
      pads = h.pads;
      counts = h.counts;
      connected = h.connected;
      hats = h.hats;
      converts = h.converts;
      renamed = h.renamed;
      newhats = h.newhats;
      newconverts = h.newconverts;
      codes = h.codes;
      kinds = h.kinds;
      names = h.names;
      renames = h.renames;
      elements = h.elements;
      hasbutton = hasbutton;
      buttons = buttons;
      hasaxis = hasaxis;
      axes = axes;
      down = h.down;
      held = h.held;
      heldaxes = h.heldaxes;
      flags = h.flags;
      queue = h.queue;
      head = h.head;
      waiting = h.waiting;
    }

-- what is down
abbrev pub with_down : Hub → List ℕ → List ℕ → List ℕ → Hub
with_down h down held heldaxes =
    record {
      pressed = h.pressed;
      released = h.released;
      reversed = h.reversed;
      filters = h.filters;
      updates = h.updates;
      counter = h.counter;
      pads = h.pads;
      counts = h.counts;
      connected = h.connected;
      hats = h.hats;
      converts = h.converts;
      renamed = h.renamed;
      newhats = h.newhats;
      newconverts = h.newconverts;
      codes = h.codes;
      kinds = h.kinds;
      names = h.names;
      renames = h.renames;
      elements = h.elements;
      hasbutton = h.hasbutton;
      buttons = h.buttons;
      hasaxis = h.hasaxis;
      axes = h.axes;
      down = down;
      held = held;
      heldaxes = heldaxes;
      flags = h.flags;
      queue = h.queue;
      head = h.head;
      waiting = h.waiting;
    }

-- the deadzone flags
abbrev pub with_flags : Hub → List Bool → Hub
with_flags h flags =
    record {
      pressed = h.pressed;
      released = h.released;
      reversed = h.reversed;
      filters = h.filters;
      updates = h.updates;
      counter = h.counter;
      pads = h.pads;
      counts = h.counts;
      connected = h.connected;
      hats = h.hats;
      converts = h.converts;
      renamed = h.renamed;
      newhats = h.newhats;
      newconverts = h.newconverts;
      codes = h.codes;
      kinds = h.kinds;
      names = h.names;
      renames = h.renames;
      elements = h.elements;
      hasbutton = h.hasbutton;
      buttons = h.buttons;
      hasaxis = h.hasaxis;
      axes = h.axes;
      down = h.down;
      held = h.held;
      heldaxes = h.heldaxes;
      flags = flags;
      queue = h.queue;
      head = h.head;
      waiting = h.waiting;
    }

-- the ring, its front, and how many wait
abbrev pub with_queue : Hub → List Slot → ℕ → ℕ → Hub
with_queue h queue head waiting =
    record {
      pressed = h.pressed;
      released = h.released;
      reversed = h.reversed;
      filters = h.filters;
      updates = h.updates;
      counter = h.counter;
      pads = h.pads;
      counts = h.counts;
      connected = h.connected;
      hats = h.hats;
      converts = h.converts;
      renamed = h.renamed;
      newhats = h.newhats;
      newconverts = h.newconverts;
      codes = h.codes;
      kinds = h.kinds;
      names = h.names;
      renames = h.renames;
      elements = h.elements;
      hasbutton = h.hasbutton;
      buttons = h.buttons;
      hasaxis = h.hasaxis;
      axes = h.axes;
      down = h.down;
      held = h.held;
      heldaxes = h.heldaxes;
      flags = h.flags;
      queue = queue;
      head = head;
      waiting = waiting;
    }
