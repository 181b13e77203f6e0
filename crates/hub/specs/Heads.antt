-- A head with other fields of one kind and the rest as they were, as the law book's setters do for the hub; a fresh head; and the head of a hub. Only
-- `fresh_head`, `head_in` and `hub_from` write a head out.
use Rattle.std.specs.Prelude.{ℕ, ◌*◌, Bool, false, List, replicate, Float}
use Rattle.rules.specs.declared.Hub.{Hub}
use Rattle.rules.specs.Names.{pad_limit, flags_per_pad}
use Rattle.hub.specs.declared.Head.{Head}

-- no pads, an empty queue and the counter at 0
unfoldable pub fresh_head : Float → Float → Bool → Bool → Bool → Head
fresh_head pressed released reversed filters updates =
    record {
      pressed = pressed;
      released = released;
      reversed = reversed;
      filters = filters;
      updates = updates;
      counter = 0;
      down = replicate pad_limit 0;
      pads = 0;
      counts = replicate pad_limit 0;
      connected = replicate pad_limit false;
      hats = replicate pad_limit 0;
      converts = replicate pad_limit false;
      renamed = replicate pad_limit false;
      newhats = replicate pad_limit 0;
      newconverts = replicate pad_limit false;
      held = replicate pad_limit 0;
      heldaxes = replicate pad_limit 0;
      flags = replicate (flags_per_pad * pad_limit) false;
      head = 0;
      waiting = 0;
    }

-- the head of a hub
abbrev pub head_in : Hub → Head
head_in h =
    record {
      pressed = h.pressed;
      released = h.released;
      reversed = h.reversed;
      filters = h.filters;
      updates = h.updates;
      counter = h.counter;
      down = h.down;
      pads = h.pads;
      counts = h.counts;
      connected = h.connected;
      hats = h.hats;
      converts = h.converts;
      renamed = h.renamed;
      newhats = h.newhats;
      newconverts = h.newconverts;
      held = h.held;
      heldaxes = h.heldaxes;
      flags = h.flags;
      head = h.head;
      waiting = h.waiting;
    }

-- what is kept of the pads' sheets
abbrev pub head_sheet : Head → ℕ → List ℕ → List ℕ → List Bool → Head
head_sheet d pads counts hats converts = record d { pads = pads; counts = counts; hats = hats; converts = converts }

-- what a rename puts beside the sheet
abbrev pub head_names : Head → List ℕ → List Bool → Head
head_names d newhats newconverts = record d { newhats = newhats; newconverts = newconverts }

-- which pads are connected, and which go by other names
abbrev pub head_marks : Head → List Bool → List Bool → Head
head_marks d connected renamed = record d { connected = connected; renamed = renamed }

-- what is down
abbrev pub head_down : Head → List ℕ → List ℕ → List ℕ → Head
head_down d down held heldaxes = record d { down = down; held = held; heldaxes = heldaxes }

-- the deadzone flags
abbrev pub head_flags : Head → List Bool → Head
head_flags d flags = record d { flags = flags }

-- the ring's front, and how many wait
abbrev pub head_queue : Head → ℕ → ℕ → Head
head_queue d head waiting = record d { head = head; waiting = waiting }
