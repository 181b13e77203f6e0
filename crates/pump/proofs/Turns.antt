-- A turn of the inner loop is the law book's step, by the law of a turn behind gates, fed with what each call ensures: of an event that is dropped as it is
-- served, of one that is kept once it is settled in the state and written. What its event meets at the deadzone is the law book's, too.
use Rattle.std.specs.Prelude.{ℕ, ◌≡◌, ◌+◌, refl, Bool, true, false, List, get_or, eqb, Float}
use Rattle.numbers.specs.declared.Tilt.{Tilt}
use Rattle.rules.specs.declared.Hub.{Hub}
use Rattle.rules.specs.Sheets.{element_axis}
use Rattle.rules.specs.Places.{place_of}
use Rattle.rules.specs.Events.{code_of}
use Rattle.rules.specs.Filters.{kept_of}
use Rattle.rules.specs.Hub.{view_of}
use Rattle.rules.specs.Step.{next_record_of}
use Rattle.rules.specs.Pump.{stepped, out_after}
use Rattle.rules.specs.Tilt.{met_of, noted, latest}
use Rattle.down.specs.Down.{Joined, Followed, was_of, is_of}
use Rattle.pump_laws.specs.Runs.{standing}
use Rattle.pump_laws.specs.Turns.{Turned, step-skips, step_keeps}
use Rattle.hub.specs.declared.Head.{Head}
use Rattle.hub.specs.Heads.{head_down}
use Rattle.hub.specs.Lent.{Listed, columns, hub_of}
use Rattle.cells.specs.Settled.{Settled, settled-hub}
use Rattle.taking.specs.declared.Taken.{Taken}
use Rattle.taking.specs.Taking.{GivenIs, gives_of}
use Rattle.passing.specs.declared.Served.{Served}
use Rattle.passing.specs.Passing.{MarkedIs, seen_of}
use Rattle.passing.specs.Served.{ServedIn, served_head, served-hub, served-event}
use Rattle.passing.specs.Met.{served-met}
use Rattle.passing.specs.Turning.{turn-served, turn-meets}
use Rattle.pump.specs.Stepped.{stepped_head}
use Rattle.pump.proofs.Loops.{hub_at}

-- where the loop stands, what is taken there (t), the marks that are made (1), and what is served (2)
module _ (head : Head) (s : Listed) (marks : List Bool) (values : List Float) (times queuebytes queuecodes : List ℕ) {batch : List ℕ} {at : ℕ} {t : Taken}
    {connected renamed hasbutton hasaxis flags : List Bool} {down held heldaxes : List ℕ} {front waiting : ℕ}
    {connected1 renamed1 hasbutton1 hasaxis1 flags1 : List Bool} {down1 held1 heldaxes1 : List ℕ}
    (given :
    GivenIs (hub_at head connected renamed down held heldaxes flags front waiting s (columns hasbutton hasaxis values times marks queuebytes queuecodes))
    batch at t)
    (marked : MarkedIs connected renamed hasbutton hasaxis flags t.pad t.kind connected1 renamed1 hasbutton1 hasaxis1 flags1)
    (joined : Joined down held heldaxes t.pad t.kind down1 held1 heldaxes1) (out : List ℕ) (events steps : ℕ) where
  abbrev here : Hub
  here = hub_at head connected renamed down held heldaxes flags front waiting s (columns hasbutton hasaxis values times marks queuebytes queuecodes)

  abbrev marked_head : Head
  marked_head = stepped_head head connected1 renamed1 down1 held1 heldaxes1 flags1 t.head t.waiting

  abbrev marked_hub : Hub
  marked_hub = hub_of marked_head s (columns hasbutton1 hasaxis1 values times marks queuebytes queuecodes)

  -- what the turn's event meets, or what was met before it
  pub meets :
      (before : Tilt) {tilt : Tilt} →
      tilt ≡ latest (met_of head.filters (view_of (seen_of marked_hub) t.event) t.event) before →
      tilt ≡ noted batch (standing here at out events steps) before
  unfolding noted
  meets before et = turn-meets here batch at given marked joined before (served-met marked_hub t.event before et)

  module _ {r : Served} {values2 : List Float} {times2 queuebytes2 queuecodes2 : List ℕ} {flags2 : List Bool}
      (served : ServedIn marked_hub (gives_of t) values times queuebytes queuecodes r flags2 values2 times2 queuebytes2 queuecodes2) where
    abbrev after_head : Head
    after_head = served_head marked_head flags2 r.waiting

    abbrev after : Hub
    after = hub_of after_head s (columns hasbutton1 hasaxis1 values2 times2 marks queuebytes2 queuecodes2)

    turns : Turned here (next_record_of waiting batch at) after r.event
    turns =
        turn-served here batch at given marked joined (served-hub marked_head s hasbutton1 hasaxis1 marks (gives_of t) served)
        (served-event marked_head s hasbutton1 hasaxis1 marks (gives_of t) served)

    -- an event that is dropped
    pub drops : kept_of head.filters r.event ≡ false → standing after t.at out events (steps + 1) ≡ stepped batch (standing here at out events steps)
    drops none = step-skips here batch at out events steps refl turns given.place none

    -- one that is kept, settled (3) and written
    pub keeps :
        {hasbutton3 hasaxis3 marks3 : List Bool} {values3 : List Float} {times3 down3 held3 heldaxes3 o : List ℕ} {change : ℕ} →
        kept_of head.filters r.event ≡ true →
        r.place ≡ place_of s.codes r.event.pad (code_of r.event) →
        Settled hasbutton1 hasaxis1 values2 times2 marks r.place head.updates r.event head.counter change hasbutton3 hasaxis3 values3 times3 marks3 →
        Followed down1 held1 heldaxes1 r.place (was_of change) (is_of change) (eqb (get_or s.kinds r.place 0) element_axis) down3 held3 heldaxes3 →
        o ≡ out_after out events r.event →
        standing (hub_of (head_down after_head down3 held3 heldaxes3) s (columns hasbutton3 hasaxis3 values3 times3 marks3 queuebytes2 queuecodes2)) t.at o
        (events + 1) (steps + 1)
        ≡ stepped batch (standing here at out events steps)
    keeps kept place settled followed wrote =
        step_keeps here batch at out events steps refl turns given.place kept
        (settled-hub after_head s queuebytes2 queuecodes2 head.updates r.event place settled followed) wrote
