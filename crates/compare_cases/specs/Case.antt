-- What the words of the stored lists say: words and marks, an axis element, the event that stands at a word, and whether an event is that one. Definitions only.
use Rattle.std.specs.Prelude.{ℕ, ℤ, cond, ◌+◌, ◌*◌, ◌/◌, ◌%◌, Bool, ◌&&◌, List, eqb, Float, get_or}
use Rattle.std.specs.Float.{binary32}
use Rattle.std.specs.Float.Ieee.{of_bits, to_bits}
use Rattle.numbers.specs.Scale.{low_of, range_of, odd_of}
use Rattle.numbers.specs.Constants.{zero32, within_of}
use Rattle.rules.specs.declared.Element.{Element}
use Rattle.rules.specs.declared.Event.{Event}
use Rattle.rules.specs.declared.Slot.{Slot}
use Rattle.rules.specs.Forms.{field_of}
use Rattle.rules.specs.Events.{event_of}
use Rattle.rules.specs.Places.{no_element}

-- the n-th word of four bytes, the highest first
abbrev pub word_of : List ℕ → ℕ → ℕ
word_of case n = field_of case (n * 4) 4

abbrev pub float_of : List ℕ → ℕ → Float
float_of case n = of_bits binary32 (word_of case n)

-- the mark of this weight in a byte of marks
abbrev pub mark_of : ℕ → ℕ → Bool
mark_of marks weight = eqb (marks / weight % 2) 1

-- what an axis element keeps of its min and max, with no deadzone: nothing of numbers outside 01's limits
abbrev pub element_of : ℤ → ℤ → Element
element_of min max =
    cond (within_of min && within_of max)
    (record { low = low_of min; range = range_of min max; odd = odd_of min max; threshold = zero32 })
    no_element

-- an event in four words: kind, pad and name in the first, then code, value and time
abbrev pub slot_in : List ℕ → ℕ → Slot
slot_in case n =
    record {
      kind = get_or case (n * 4) 0;
      pad = get_or case (n * 4 + 1) 0;
      name = get_or case (n * 4 + 2) 0;
      code = word_of case (n + 1);
      value = float_of case (n + 2);
      time = word_of case (n + 3);
    }

abbrev pub event_in : List ℕ → ℕ → Event
event_in case n = event_of (slot_in case n)

-- the events are equal, field by field, the values by their bits
abbrev pub same_of : Slot → List ℕ → ℕ → Bool
same_of s case n =
    (eqb s.kind (get_or case (n * 4) 0) && (eqb s.pad (get_or case (n * 4 + 1) 0) && eqb s.name (get_or case (n * 4 + 2) 0)))
    && (eqb s.code (word_of case (n + 1)) && (eqb (to_bits binary32 s.value) (word_of case (n + 2)) && eqb s.time (word_of case (n + 3))))
