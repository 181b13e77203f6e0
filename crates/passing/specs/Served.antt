-- What is left once a taken event is served: the event that the filters hand on, the flags, and the queue with what the record and the filters queue. The
-- records, whose columns stand in the same arrays as the queue's, are as they were, so what is seen of them after the first push is what stood before it.
use Rattle.std.specs.Prelude.{ℕ, ◌+◌, ◌≤◌, ◌<◌, ◌≡◌, refl, Bool, List, [], ◌∷◌, get_or, length, set, take, eqb, Float}
use Rattle.std.proofs.Math.Path.{sym, ap}
use Rattle.std.proofs.Common.{◌∙◌, subst, take_all, take-suc, arith, add-one}
use Rattle.rules.specs.declared.Hub.{Hub}
use Rattle.rules.specs.declared.Event.{Event}
use Rattle.rules.specs.declared.Element.{Element}
use Rattle.rules.specs.declared.ButtonData.{ButtonData}
use Rattle.rules.specs.declared.Dispatched.{Dispatched}
use Rattle.rules.specs.declared.Zoned.{Zoned}
use Rattle.rules.specs.declared.Flags.{Flags}
use Rattle.rules.specs.declared.View.{View}
use Rattle.rules.specs.Names.{nowhere}
use Rattle.rules.specs.Sheets.{element_axis}
use Rattle.rules.specs.Places.{place_of}
use Rattle.rules.specs.Events.{name_of, code_of, event_if}
use Rattle.rules.specs.Filters.{Filtered, filtered_of, dpad_of, jittered_of, deadzoned_of}
use Rattle.rules.specs.Hub.{converts_in, view_at, view_of, past_element}
use Rattle.rules.specs.Step.{pushes_of, flags_set, pushed_of, filtered_in, filtered_hub}
use Rattle.columns.specs.Columns.{elements_of, buttons_of, axes_of}
use Rattle.hub.specs.declared.Head.{Head}
use Rattle.hub.specs.Heads.{head_flags, head_queue}
use Rattle.hub.specs.Lent.{Listed, columns, hub_of}
use Rattle.gather.specs.declared.EventPlaces.{EventPlaces}
use Rattle.gather.specs.EventPlaces.{EventPlacesAre}
use Rattle.filters.specs.declared.dpad.Converted.{Converted}
use Rattle.filters.specs.Converted.{counted}
use Rattle.filters.specs.Queued.{queued_at, queued-is}
use Rattle.filters.specs.Lanes.{lane_of, zoned_value, undirected, stick_zoned_of, clearing_of, Sends, none-sends, value-sends, hat-sends, stick-sends}
use Rattle.cells.specs.Seen.{stored_at}
use Rattle.queueing.specs.Queued.{Pushed, pushed_none, pushed_then}
use Rattle.passing.specs.declared.Served.{Served}
use Rattle.passing.specs.Sent.{hat-named, turned_place}
use Rattle.passing.specs.Passing.{seen_of, seen_same, same_flags, lane-is, value-seen, hat_view, hat-seen, stick_in, stick-seen, flags-at}

-- what is left of d, r being what is handed on, where v is the view of d's event: vs are values, ts times, bs the queue's bytes and cs its codes
pub record ServedIs
    (on : Bool) (v : View) (d : Dispatched) (flags : List Bool) (head waiting : ℕ) (vs : List Float) (ts bs cs : List ℕ) (r : Served) (flags' : List Bool)
    (vs' : List Float) (ts' bs' cs' : List ℕ) :
    Type 0 where
  pub event : r.event ≡ (filtered_of on v d.event).gives.event
  pub flags-are : flags' ≡ flags_set flags d.event.pad (name_of d.event) (filtered_of on v d.event).flags
  pub queued : Pushed vs ts bs cs head waiting (pushes_of d (filtered_of on v d.event).gives) vs' ts' bs' cs' r.waiting

-- ---- what a lane leaves

-- an event is handed on, and es are queued
pub record HandsOn
    (u : Event) (es : List Event) (head waiting : ℕ) (vs : List Float) (ts bs cs : List ℕ) (r : Served) (vs' : List Float) (ts' bs' cs' : List ℕ) :
    Type 0 where
  pub event : r.event ≡ u
  pub queued : Pushed vs ts bs cs head waiting es vs' ts' bs' cs' r.waiting

-- what a hat's event e that turns leaves: besides, the place of the direction whose event is handed on
pub record TurnedIs
    (codes : List ℕ) (e u : Event) (es : List Event) (head waiting : ℕ) (vs : List Float) (ts bs cs : List ℕ) (r : Served) (vs' : List Float) (ts' bs' cs' : List ℕ) :
    Type 0 where
  pub hands : HandsOn u es head waiting vs ts bs cs r vs' ts' bs' cs'
  pub place : r.place ≡ turned_place codes e r.event
  pub small : r.place ≤ nowhere

-- what a stick's event leaves, z being what jitter and deadzone make of it
pub record StickIs
    (z : Zoned) (e : Event) (flags : List Bool) (head waiting : ℕ) (vs : List Float) (ts bs cs : List ℕ) (r : Served) (flags' : List Bool) (vs' : List Float)
    (ts' bs' cs' : List ℕ) :
    Type 0 where
  pub hands : HandsOn z.event (clearing_of z) head waiting vs ts bs cs r vs' ts' bs' cs'
  pub flags-are : flags' ≡ flags_set flags e.pad (name_of e) z.flags

-- one event of a hat's is pushed more
pub hat-more :
    (v : View) (e : Event) (x : ℕ) {u : Event} {vs vs1 vs2 : List Float} {ts bs cs ts1 bs1 cs1 ts2 bs2 cs2 : List ℕ} {head waiting waiting1 waiting2 : ℕ} →
    x < length (dpad_of v e).queued →
    Pushed vs ts bs cs head waiting (take x (dpad_of v e).queued) vs1 ts1 bs1 cs1 waiting1 →
    u ≡ queued_at v e x →
    Pushed vs1 ts1 bs1 cs1 head waiting1 (u ∷ []) vs2 ts2 bs2 cs2 waiting2 →
    Pushed vs ts bs cs head waiting (take (x + 1) (dpad_of v e).queued) vs2 ts2 bs2 cs2 waiting2
hat-more v e x within done eu p =
    rw (add-one, take-suc (dpad_of v e).queued x e within, ← queued-is e v e x within, ← eu) (pushed_then done p)

-- all of them are, as many as there are
pub hat-left :
    (e : Event) {v w : View} {g : Converted} {x place : ℕ} {vs vs1 : List Float} {ts bs cs ts1 bs1 cs1 : List ℕ} {head waiting all : ℕ} →
    v ≡ w →
    g ≡ counted (dpad_of v e) →
    x ≡ g.count →
    Pushed vs ts bs cs head waiting (take x (dpad_of v e).queued) vs1 ts1 bs1 cs1 all →
    HandsOn (dpad_of w e).event (dpad_of w e).queued head waiting vs ts bs cs (record { event = g.event; waiting = all; place = place }) vs1 ts1 bs1 cs1
hat-left e {v} {w} {g} {x} {place} ev eg ex p =
    let all : x ≡ length (dpad_of v e).queued = ex ∙ ap (λ (r : Converted). r.count) eg in
    record { event = rw (eg, ev); queued = rw (← ev, ← take_all x (dpad_of v e).queued (omega (arith, all))) p }

-- what a stick's event leaves, from what is gathered of a hub, what it sees and what is made of it
pub stick-left :
    (h : Hub) (e : Event) (k : ℕ) {name : ℕ} {s : EventPlaces} {v : View} {z : Zoned} {flagged both : List Bool} {vs vs1 : List Float}
    {ts bs cs ts1 bs1 cs1 : List ℕ} {head waiting all place : ℕ} →
    name ≡ name_of e →
    EventPlacesAre h.codes h.kinds h.names h.renames h.renamed h.hasbutton h.hasaxis h.flags e.pad name k s →
    v ≡ undirected (view_at h e.pad (name_of e) k) →
    z ≡ deadzoned_of v (jittered_of v e) →
    flagged ≡ set h.flags s.flag z.flags.own →
    both ≡ set flagged s.other z.flags.partner →
    Pushed vs ts bs cs head waiting (clearing_of z) vs1 ts1 bs1 cs1 all →
    StickIs (stick_zoned_of (view_at h e.pad (name_of e) k) e) e h.flags head waiting vs ts bs cs (record { event = z.event; waiting = all; place = place }) both vs1 ts1 bs1 cs1
stick-left h e k {name} {s} {v} {z} en seen sees ez e1 e2 p =
    let is : z ≡ stick_zoned_of (view_at h e.pad (name_of e) k) e = ez ∙ ap (λ (w : View). deadzoned_of w (jittered_of w e)) sees in
    record {
      hands = record { event = ap (λ (y : Zoned). y.event) is; queued = rw is at p };
      flags-are = flags-at h e z.flags en seen e1 e2 ∙ ap (λ (y : Zoned). flags_set h.flags e.pad (name_of e) y.flags) is;
    }

-- ---- from what a lane leaves to what is left

module _ (on : Bool) (m : Hub) (d : Dispatched) {vs vs1 vs2 : List Float} {ts bs cs ts1 bs1 cs1 ts2 bs2 cs2 : List ℕ} {head waiting more : ℕ} {r : Served}
    (first : Pushed vs ts bs cs head waiting (event_if d.follows d.next) vs1 ts1 bs1 cs1 more) where
  pub serves :
      {u : Event} {f : Flags} {es : List Event} {flags' : List Bool} →
      Sends on (view_of m d.event) d.event u f es →
      HandsOn u es head more vs1 ts1 bs1 cs1 r vs2 ts2 bs2 cs2 →
      flags' ≡ flags_set m.flags d.event.pad (name_of d.event) f →
      ServedIs on (view_of m d.event) d m.flags head waiting vs ts bs cs r flags' vs2 ts2 bs2 cs2
  unfolding pushes_of
  serves sends hands ef =
      let e = d.event in
      record {
        event = hands.event ∙ sym sends.event;
        flags-are = ef ∙ ap (flags_set m.flags e.pad (name_of e)) (sym sends.flags);
        queued = rw sends.queued (pushed_then first hands.queued);
      }

-- nothing is queued, and the flags stay
pub serves-quiet :
    (on : Bool) (m : Hub) (d : Dispatched) {vs vs1 : List Float} {ts bs cs ts1 bs1 cs1 : List ℕ} {head waiting more place : ℕ} {u z : Event} →
    Pushed vs ts bs cs head waiting (event_if d.follows d.next) vs1 ts1 bs1 cs1 more →
    Sends on (view_of m d.event) d.event u (view_of m d.event).flags [] →
    z ≡ u →
    ServedIs on (view_of m d.event) d m.flags head waiting vs ts bs cs (record { event = z; waiting = more; place = place }) m.flags vs1 ts1 bs1 cs1
serves-quiet on m d first sends is = serves on m d first sends (record { event = is; queued = pushed_none }) (sym (same_flags m d.event))

-- ---- by the lane: what was seen after the first push is what stood before it

module _ (on : Bool) (m : Hub) (d : Dispatched) (ms : List Bool) {vs vs1 : List Float} {ts bs cs ts1 bs1 cs1 : List ℕ}
    {head waiting more lane place : ℕ} (eelements : m.elements ≡ elements_of vs ms) (ebuttons : m.buttons ≡ buttons_of vs ts ms)
    (eaxes : m.axes ≡ axes_of vs ts)
    (first : Pushed vs ts bs cs head waiting (event_if d.follows d.next) vs1 ts1 bs1 cs1 more)
    (ep : place ≡ place_of m.codes d.event.pad (code_of d.event))
    (el :
    lane
    ≡ lane_of on (converts_in m.renamed m.converts m.newconverts d.event.pad) (eqb (get_or m.kinds place 0) element_axis) d.event) where
  pub serves-none :
      lane ≡ 0 → ServedIs on (view_of m d.event) d m.flags head waiting vs ts bs cs (record { event = d.event; waiting = more; place = place }) m.flags vs1 ts1 bs1 cs1
  serves-none is = serves-quiet on m d first (none-sends on (view_of m d.event) d.event (lane-is on m d.event 0 ep el is)) refl

  pub serves-value :
      {z : Event} →
      lane ≡ 1 →
      z
      ≡ zoned_value (stored_at m.hasbutton m.hasaxis (buttons_of vs1 ts1 ms) (axes_of vs1 ts1) place) (get_or (elements_of vs1 ms) place past_element).threshold
      d.event →
      ServedIs on (view_of m d.event) d m.flags head waiting vs ts bs cs (record { event = z; waiting = more; place = place }) m.flags vs1 ts1 bs1 cs1
  serves-value is ez =
      serves-quiet on m d first (value-sends on (view_of m d.event) d.event (lane-is on m d.event 1 ep el is))
      (ez ∙ rw (first.elements ms, first.buttons ms, first.axes, ← eelements, ← ebuttons, ← eaxes) (value-seen m d.event ep))

  pub serves-hat :
      {r : Served} {vs2 : List Float} {ts2 bs2 cs2 : List ℕ} →
      lane ≡ 2 →
      let g = dpad_of (hat_view m.codes m.hasbutton (buttons_of vs1 ts1 ms) d.event) d.event in
      HandsOn g.event g.queued head more vs1 ts1 bs1 cs1 r vs2 ts2 bs2 cs2 →
      ServedIs on (view_of m d.event) d m.flags head waiting vs ts bs cs r m.flags vs2 ts2 bs2 cs2
  serves-hat is hands =
      serves on m d first (hat-sends on (view_of m d.event) d.event (lane-is on m d.event 2 ep el is))
      (rw (← hat-seen m d.event (hat-named on (view_of m d.event).converts (view_of m d.event).dead d.event (lane-is on m d.event 2 ep el is)), ebuttons, ← first.buttons ms) hands)
      (sym (same_flags m d.event))

  pub serves-stick :
      {r : Served} {flags' : List Bool} {vs2 : List Float} {ts2 bs2 cs2 : List ℕ} →
      lane ≡ 3 →
      StickIs (stick_in m d.event place (elements_of vs1 ms) (buttons_of vs1 ts1 ms) (axes_of vs1 ts1)) d.event m.flags head more vs1 ts1 bs1 cs1 r flags'
      vs2 ts2 bs2 cs2 →
      ServedIs on (view_of m d.event) d m.flags head waiting vs ts bs cs r flags' vs2 ts2 bs2 cs2
  serves-stick {r} {flags'} {vs2} {ts2} {bs2} {cs2} is left =
      let e = d.event in
      let seen : stick_in m e place (elements_of vs1 ms) (buttons_of vs1 ts1 ms) (axes_of vs1 ts1) ≡ stick_zoned_of (view_of m e) e =
      ap (λ (l : List Element). stick_in m e place l (buttons_of vs1 ts1 ms) (axes_of vs1 ts1)) (first.elements ms ∙ sym eelements)
      ∙ ap (λ (l : List ButtonData). stick_in m e place m.elements l (axes_of vs1 ts1)) (first.buttons ms ∙ sym ebuttons)
      ∙ ap (stick_in m e place m.elements m.buttons) (first.axes ∙ sym eaxes)
      ∙ stick-seen m e ep in
      let stood = subst (λ (z : Zoned). StickIs z e m.flags head more vs1 ts1 bs1 cs1 r flags' vs2 ts2 bs2 cs2) seen left in
      serves on m d first (stick-sends on (view_of m e) e (lane-is on m e 3 ep el is)) stood.hands stood.flags-are

-- ---- the hub

-- a head with other flags, and another number waiting
abbrev pub served_head : Head → List Bool → ℕ → Head
served_head h flags waiting = head_queue (head_flags h flags) h.head waiting

-- what is left of a served event, as the hub that head and arrays stand for has it: m is that hub
abbrev pub ServedIn :
    Hub → Dispatched → List Float → List ℕ → List ℕ → List ℕ → Served → List Bool → List Float → List ℕ → List ℕ → List ℕ → Type 0
ServedIn m d =
    ServedIs m.filters (view_of (seen_of m) d.event) d m.flags m.head m.waiting

module _ (h : Head) (s : Listed) (hasbutton hasaxis ms : List Bool) (d : Dispatched) {vs vs' : List Float} {ts bs cs ts' bs' cs' : List ℕ} {r : Served}
    {flags : List Bool} (p : ServedIn (hub_of h s (columns hasbutton hasaxis vs ts ms bs cs)) d vs ts bs cs r flags vs' ts' bs' cs') where
  abbrev stood : Hub
  stood = hub_of h s (columns hasbutton hasaxis vs ts ms bs cs)

  -- the hub is the law book's, once the event has turned
  pub served-hub : hub_of (served_head h flags r.waiting) s (columns hasbutton hasaxis vs' ts' ms bs' cs') ≡ filtered_hub stood d
  unfolding filtered_hub pushed_of
  served-hub =
      rw (
        p.queued.elements ms,
        p.queued.buttons ms,
        p.queued.axes,
        p.queued.slots,
        p.queued.waits,
        p.flags-are,
        seen_same stood d.event,
      )

  -- and the event its
  pub served-event : r.event ≡ (filtered_in stood d.event).gives.event
  served-event = p.event ∙ ap (λ (f : Filtered). f.gives.event) (seen_same stood d.event)
