-- What a step takes, from what each call of `take` answers: the queue's front, a record that is refused, a record that is taken. The answer is the law book's at
-- any hub that has what is read here.
use Rattle.std.specs.Prelude.{ℕ, ◌+◌, ◌-◌, ◌%◌, ◌≤◌, ◌<◌, ◌≡◌, Bool, false, cond, List, [], length, get_or, Float}
use Rattle.std.proofs.Math.Path.{refl, ap}
use Rattle.std.proofs.Common.{sym, ◌∙◌}
use Rattle.std.proofs.Math.Bool.{true}
use Rattle.std.proofs.Math.Dec.{ltb}
use native.Mathlib.Omega.{arith}
use borrow.Author.Tests.{lt-ltb, le-ltb}
use Rattle.numbers.specs.Constants.{within_of}
use Rattle.rules.specs.declared.Hub.{Hub}
use Rattle.rules.specs.declared.Element.{Element}
use Rattle.rules.specs.declared.ButtonData.{ButtonData}
use Rattle.rules.specs.declared.Slot.{Slot}
use Rattle.rules.specs.declared.Event.{Event}
use Rattle.rules.specs.declared.NextRecord.{NextRecord}
use Rattle.rules.specs.declared.RawRecord.{RawRecord}
use Rattle.rules.specs.declared.Dispatched.{Dispatched}
use Rattle.rules.specs.Names.{queue_room}
use Rattle.rules.specs.Forms.{record_size, read_record}
use Rattle.rules.specs.Refusals.{record_refusal}
use Rattle.rules.specs.Places.{place_of}
use Rattle.rules.specs.Events.{code_of, event_of}
use Rattle.rules.specs.State.{read_pressed}
use Rattle.rules.specs.Dispatch.{dispatch_of}
use Rattle.rules.specs.Hub.{front_of, pressed_at, past_slot, past_element, past_button}
use Rattle.rules.specs.Setters.{with_sheet, with_rows, with_names, with_marks, with_state, with_queue}
use Rattle.rules.specs.Calls.{fresh_hub}
use Rattle.rules.specs.Step.{next_record_of, next_record_by, step_refusal, record_kind, taken_of, record_gives, head_after}
use Rattle.rules.specs.Pump.{place_after}
use Rattle.pad.specs.Found.{Placed}
use Rattle.gather.specs.declared.Found.{Found}
use Rattle.gather.specs.EventPlaces.{FoundIs, found_at, found-placed}
use Rattle.turn.specs.Turn.{taken_by}
use Rattle.pump_laws.specs.Records.{Taken as Judged, taken as not-refused, whole, refusal_is}
use Rattle.pump_laws.specs.Turns.{taken_is}
use Rattle.taking.specs.declared.Taken.{Taken}
use Rattle.taking.specs.Coded.{Kept, kept_by}

-- what is read to take a step's event: a hub that has these, and blanks for what is not read
abbrev pub taking_hub :
    List ℕ → List ℕ → List ℕ → List ℕ → List Bool → List Bool → List Element → List ButtonData → List Slot → ℕ → Float → Float → Bool → ℕ → ℕ → Hub
taking_hub codes kinds names renames renamed hasbutton elements buttons queue pads pressed released reversed head waiting =
    let settled = fresh_hub pressed released reversed false false in
    let listed = with_rows (with_names (with_sheet settled pads [] [] []) [] [] renames) codes kinds names elements in
    with_queue (with_state (with_marks listed [] renamed) hasbutton buttons [] []) queue head waiting

-- what the record, or the queue's front, gives
abbrev pub gives_of : Taken → Dispatched
gives_of r = record { event = r.event; follows = r.follows; next = r.next }

-- what is taken where nothing is refused: the law book's event, with the place of its code, and where batch and queue stand after
pub record GivenIs (h : Hub) (s : List ℕ) (at : ℕ) (r : Taken) : Type 0 where
  pub pad : r.pad ≡ (next_record_of h.waiting s at).raw.pad
  pub kind : r.kind ≡ (next_record_of h.waiting s at).raw.kind
  pub gives : gives_of r ≡ taken_of h (next_record_of h.waiting s at)
  pub placed : Placed h.codes r.event.pad (code_of r.event) r.place
  pub place : r.at ≡ place_after h.waiting at
  pub within : at ≤ length s → r.at ≤ length s
  pub head : r.head ≡ head_after h.head h.waiting
  pub waiting : r.waiting ≡ h.waiting - 1

pub record TakenIs (h : Hub) (s : List ℕ) (at : ℕ) (r : Taken) : Type 0 where
  pub number : r.number ≡ step_refusal h (next_record_of h.waiting s at)
  pub given : r.number ≤ 0 → GivenIs h s at r

-- what is taken of a hub's columns is taken of the hub
pub taken_in :
    (h : Hub) (s : List ℕ) (at : ℕ) {r : Taken} →
    TakenIs
    (taking_hub h.codes h.kinds h.names h.renames h.renamed h.hasbutton h.elements h.buttons h.queue h.pads h.pressed h.released
    h.reversed h.head h.waiting)
    s at r →
    TakenIs h s at r
unfolding step_refusal record_kind taken_of record_gives front_of pressed_at fresh_hub
taken_in h s at t =
    record {
      number = t.number;
      given =
          λ z.
          let g = t.given z in
          record {
            pad = g.pad;
            kind = g.kind;
            gives = g.gives;
            placed = g.placed;
            place = g.place;
            within = g.within;
            head = g.head;
            waiting = g.waiting;
          };
    }

-- ---- from what each call answers

module _ (h : Hub) (s : List ℕ) (at : ℕ) where
  -- the queue's front
  pub takes_front :
      {front code place head waiting : ℕ} {slot : Slot} {e : Event} →
      0 < h.waiting →
      front ≡ h.head % queue_room →
      slot ≡ get_or h.queue front past_slot →
      e ≡ event_of slot →
      code ≡ code_of e →
      Placed h.codes e.pad code place →
      head ≡ head_after h.head h.waiting →
      waiting ≡ h.waiting - 1 →
      TakenIs h s at
      (record {
        number = 0;
        pad = 0;
        kind = 0;
        place = place;
        event = e;
        follows = false;
        next = e;
        at = at;
        head = head;
        waiting = waiting;
      })
  unfolding step_refusal next_record_of taken_of front_of place_after
  takes_front some ef es ee ec placed eh ew =
      let waits : ltb 0 h.waiting ≡ true = lt-ltb 0 h.waiting some in
      record {
        number = rw waits;
        given =
            λ z.
            record {
              pad = rw waits;
              kind = rw waits;
              gives = rw (waits, ee, es, ef);
              placed = rw ec at placed;
              place = rw waits;
              within = λ l. l;
              head = eh;
              waiting = ew;
            };
      }

  module _ {l : NextRecord} {found : Found} {number : ℕ} (none : h.waiting ≤ 0) (el : l ≡ next_record_of h.waiting s at)
      (found-is : FoundIs h.codes h.kinds h.names h.renames h.renamed h.hasbutton l.raw.pad l.raw.code found)
      (en : number ≡ record_refusal l h.pads found.kind) where
    waits-none : ltb 0 h.waiting ≡ false
    waits-none = le-ltb 0 h.waiting none

    number_is : number ≡ step_refusal h (next_record_of h.waiting s at)
    number_is = refusal_is h s at el found-is.is (rw waits-none en)

    -- a record that is refused
    pub takes_none : {r : Taken} → 0 < number → r.number ≡ number → TakenIs h s at r
    takes_none some er = record { number = er ∙ number_is; given = λ z. absurd (omega arith) }

    -- a record that is taken
    module _ (taken : number ≤ 0) where
      judged : Judged l
      judged = not-refused l h.pads found.kind (rw en at taken)

      read : l ≡ next_record_by (read_record s at)
      unfolding next_record_of
      read = el ∙ rw waits-none

      pub takes-within : within_of l.raw.value ≡ true
      takes-within = judged.within

      pub takes_whole : at + record_size ≤ length s
      takes_whole = let w = whole s at (rw read at judged.fits) in omega arith

      pub takes-record :
          {element : Element} {b : ButtonData} {held : Bool} {d : Dispatched} →
          element ≡ get_or h.elements found.place past_element →
          b ≡ get_or h.buttons found.place past_button →
          held ≡ read_pressed found.hasbutton b →
          d ≡ dispatch_of l.raw found.name element held h.pressed h.released h.reversed →
          TakenIs h s at
          (record {
            number = 0;
            pad = l.raw.pad;
            kind = l.raw.kind;
            place = found.place;
            event = d.event;
            follows = d.follows;
            next = d.next;
            at = at + record_size;
            head = h.head;
            waiting = h.waiting;
          })
      unfolding taken_by place_after head_after
      takes-record {element} {b} {held} {d} ee eb eh ed =
          let zero : 0 ≡ number = omega arith in
          let kept : Kept l.raw d = kept_by s at found.name element held h.pressed h.released h.reversed read judged.fits ed in
          record {
            number = zero ∙ number_is;
            given =
                λ z.
                record {
                  pad = ap (λ (x : NextRecord). x.raw.pad) el;
                  kind = ap (λ (x : NextRecord). x.raw.kind) el;
                  gives = taken_is h l {front = h.head % queue_room} found-is.is refl (ed ∙ rw (waits-none, eh, eb, ee)) ∙ ap (taken_of h) el;
                  placed = rw (kept.code, kept.pad) (found-placed found-is);
                  place = rw waits-none;
                  within = λ small. takes_whole;
                  head = rw waits-none;
                  waiting = omega arith;
                };
          }
