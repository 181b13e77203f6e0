-- `hub_of` is one-to-one over the head and all the arrays, for arrays as long as they are: the law book's hub tells each of their cells. So a contract that
-- gives the hub gives every lent element.
use Rattle.std.specs.Prelude.{◌≡◌, length}
use Rattle.std.proofs.Common.{sym, ◌∙◌, ap}
use Rattle.rules.specs.declared.Hub.{Hub}
use Rattle.rules.specs.Names.{queue_room}
use Rattle.columns.specs.Columns.{values_long, times_long, marks_long, bytes_long}
use Rattle.columns.specs.Packed.{packed_values, packed_times, packed_marks, packed_bytes, packed_codes, values-packed, times-packed, marks-packed, bytes_packed, codes-packed}
use Rattle.hub.specs.declared.Head.{Head}
use Rattle.hub.specs.Heads.{head_in}
use Rattle.hub.specs.Lent.{Listed, Columns, hub_of}

-- the arrays of a hub
abbrev listed_in : Hub → Listed
listed_in h = record { codes = h.codes; kinds = h.kinds; names = h.names; renames = h.renames }

abbrev columns_in : Hub → Columns
columns_in h =
    record {
      hasbutton = h.hasbutton;
      hasaxis = h.hasaxis;
      values = packed_values h.buttons h.axes h.elements h.queue;
      times = packed_times h.buttons h.axes h.queue;
      marks = packed_marks h.buttons h.elements;
      queuebytes = packed_bytes h.queue;
      queuecodes = packed_codes h.queue;
    }

-- as long as the lent arrays are
pub record Whole (t : Columns) : Type 0 where
  pub values : length t.values ≡ values_long
  pub times : length t.times ≡ times_long
  pub marks : length t.marks ≡ marks_long
  pub queuebytes : length t.queuebytes ≡ bytes_long
  pub queuecodes : length t.queuecodes ≡ queue_room

columns-told : (d : Head) (s : Listed) (t : Columns) → Whole t → columns_in (hub_of d s t) ≡ t
columns-told d s t w =
    rw (
      values-packed t.values t.times t.marks t.queuebytes t.queuecodes w.values,
      times-packed t.values t.times t.marks t.queuebytes t.queuecodes w.times,
      marks-packed t.values t.times t.marks t.queuebytes t.queuecodes w.marks,
      bytes_packed t.values t.times t.marks t.queuebytes t.queuecodes w.queuebytes,
      codes-packed t.values t.times t.marks t.queuebytes t.queuecodes w.queuecodes,
    )

pub one-to-one :
    (d d' : Head) (s s' : Listed) (t t' : Columns) → Whole t → Whole t' → hub_of d s t ≡ hub_of d' s' t' → (d ≡ d') × (s ≡ s') × (t ≡ t')
one-to-one d d' s s' t t' w w' e =
    (ap head_in e, ap listed_in e, sym (columns-told d s t w) ∙ ap columns_in e ∙ columns-told d' s' t' w')
