-- What a turn's gates go by: the marks of a record are the same where it neither joins nor leaves; which filters look at an event goes by the hub's own view,
-- and what each of them sees is that view, as far as it asks.
use Rattle.std.specs.Prelude.{ℕ, ◌*◌, ◌<◌, ◌≡◌, refl, Bool, true, false, List, [], get_or, set, eqb}
use Rattle.std.proofs.Common.{sym, ◌∙◌, ap, arith, ne_eqb}
use Rattle.std.proofs.lemmas.List.{set-get_or}
use Rattle.rules.specs.declared.Hub.{Hub}
use Rattle.rules.specs.declared.Element.{Element}
use Rattle.rules.specs.declared.ButtonData.{ButtonData}
use Rattle.rules.specs.declared.AxisData.{AxisData}
use Rattle.rules.specs.declared.Event.{Event}
use Rattle.rules.specs.declared.Flags.{Flags}
use Rattle.rules.specs.declared.Zoned.{Zoned}
use Rattle.rules.specs.declared.View.{View}
use Rattle.rules.specs.Names.{places_per_pad, flags_per_pad, is_hat, partner_of, positive_code, negative_code}
use Rattle.rules.specs.Places.{place_of, cleared_of}
use Rattle.rules.specs.Sheets.{element_axis}
use Rattle.rules.specs.Forms.{kind_connected, kind_disconnected}
use Rattle.rules.specs.Events.{name_of, code_of}
use Rattle.rules.specs.Filters.{filtered_of}
use Rattle.rules.specs.Hub.{view_at, view_of, hat_place_of, partner_place_of, converts_in, pressed_at, value_at, flag_place, element_at, button_at, axis_at, past_element}
use Rattle.rules.specs.Setters.{with_sheet, with_rows, with_names, with_marks, with_state, with_flags}
use Rattle.rules.specs.Calls.{idle_hub}
use Rattle.rules.specs.Step.{connected_after, renamed_after, marks_cleared, flags_set, filtered_in}
use Rattle.down.specs.Down.{Joined, joins-not}
use Rattle.gather.specs.declared.EventPlaces.{EventPlaces}
use Rattle.gather.specs.EventPlaces.{EventPlacesAre, event_places_at, place_marks_of, view_by}
use Rattle.cells.specs.Seen.{stored_at, held_at}
use Rattle.filters.specs.Lanes.{lane_of, zoned_value, directed, undirected, stick_zoned_of}

-- ---- the marks of a taken record

-- what a taken record leaves of the marks
pub record MarkedIs
    (connected renamed hasbutton hasaxis flags : List Bool) (p kind : ℕ) (connected' renamed' hasbutton' hasaxis' flags' : List Bool) :
    Type 0 where
  pub connected-is : connected' ≡ connected_after connected p kind
  pub renamed-is : renamed' ≡ renamed_after renamed p kind
  pub hasbutton-is : hasbutton' ≡ cleared_of hasbutton (places_per_pad * p) (marks_cleared kind places_per_pad)
  pub hasaxis-is : hasaxis' ≡ cleared_of hasaxis (places_per_pad * p) (marks_cleared kind places_per_pad)
  pub flags-is : flags' ≡ cleared_of flags (flags_per_pad * p) (marks_cleared kind flags_per_pad)

pub no-marks :
    (connected renamed hasbutton hasaxis flags : List Bool) (p kind : ℕ) →
    kind < kind_connected →
    MarkedIs connected renamed hasbutton hasaxis flags p kind connected renamed hasbutton hasaxis flags
unfolding connected_after renamed_after marks_cleared cleared_of
no-marks connected renamed hasbutton hasaxis flags p kind low =
    let stays : eqb kind kind_connected ≡ false = ne_eqb kind kind_connected (λ (e : kind ≡ kind_connected). omega arith) in
    let left : eqb kind kind_disconnected ≡ false = ne_eqb kind kind_disconnected (λ (e : kind ≡ kind_disconnected). omega arith) in
    record { connected-is = rw (stays, left); renamed-is = rw stays; hasbutton-is = rw stays; hasaxis-is = rw stays; flags-is = rw stays }

-- and what is down is the same
pub no_join : (down held heldaxes : List ℕ) (p kind : ℕ) → kind < kind_connected → Joined down held heldaxes p kind down held heldaxes
no_join down held heldaxes p kind low = joins-not down held heldaxes p kind (λ (e : kind ≡ kind_connected). omega arith)

-- ---- the filters

-- what a hub's view is made of: a hub that has these, and blanks for what no view reads
abbrev pub seen_hub :
    List ℕ → List ℕ → List ℕ → List ℕ → List Bool → List Bool → List Bool → List Bool → List Bool → List Element → List ButtonData → List AxisData → List Bool → Hub
seen_hub codes kinds names renames renamed converts newconverts hasbutton hasaxis elements buttons axes flags =
    let listed = with_rows (with_names (with_sheet idle_hub 0 [] [] converts) [] newconverts renames) codes kinds names elements in
    with_flags (with_state (with_marks listed [] renamed) hasbutton buttons hasaxis axes) flags

-- a hub, blank but for what its view is made of: the filters make the same of an event
abbrev pub seen_of : Hub → Hub
seen_of m =
    seen_hub m.codes m.kinds m.names m.renames m.renamed m.converts m.newconverts m.hasbutton m.hasaxis m.elements m.buttons
    m.axes m.flags

pub seen_same : (m : Hub) (e : Event) → filtered_of m.filters (view_of (seen_of m) e) e ≡ filtered_in m e
unfolding filtered_in view_of view_at hat_place_of partner_place_of converts_in pressed_at value_at
seen_same m e = refl

-- the flags that a view has are the hub's: setting them changes nothing
pub same_flags : (h : Hub) (e : Event) → flags_set h.flags e.pad (name_of e) (view_of h e).flags ≡ h.flags
unfolding flags_set view_of view_at
same_flags h e =
    let own = flag_place e.pad (name_of e) in
    let other = flag_place e.pad (partner_of (name_of e)) in
    ap (λ (l : List Bool). set l other (get_or h.flags other false)) (set-get_or h.flags own false) ∙ set-get_or h.flags other false

-- the lane that the code finds is that of the hub's view
pub lane-is :
    (on : Bool) (m : Hub) (e : Event) {lane place : ℕ} (k : ℕ) →
    place ≡ place_of m.codes e.pad (code_of e) →
    lane ≡ lane_of on (converts_in m.renamed m.converts m.newconverts e.pad) (eqb (get_or m.kinds place 0) element_axis) e →
    lane ≡ k →
    lane_of on (view_of m e).converts (view_of m e).dead e ≡ k
unfolding view_of view_at
lane-is on m e k ep el ek = rw (← ep) (sym el ∙ ek)

-- ---- what each lane sees of a hub

-- a button's value: its own value and its element's threshold
pub value-seen :
    (m : Hub) (e : Event) {place : ℕ} →
    place ≡ place_of m.codes e.pad (code_of e) →
    zoned_value (stored_at m.hasbutton m.hasaxis m.buttons m.axes place) (get_or m.elements place past_element).threshold e
    ≡ zoned_value (view_of m e).own (view_of m e).threshold e
unfolding view_of view_at value_at
value-seen m e ep = rw ep

-- a hat that turns: whether its directions are held
abbrev pub directed_at : List Bool → List ButtonData → ℕ → ℕ → View
directed_at hasbutton buttons positive negative = directed (held_at hasbutton buttons positive) (held_at hasbutton buttons negative)

abbrev pub hat_view : List ℕ → List Bool → List ButtonData → Event → View
hat_view codes hasbutton buttons e =
    directed_at hasbutton buttons (place_of codes e.pad (positive_code (name_of e))) (place_of codes e.pad (negative_code (name_of e)))

pub hat-seen :
    (m : Hub) (e : Event) →
    is_hat (name_of e) ≡ true →
    hat_view m.codes m.hasbutton m.buttons e ≡ directed (view_of m e).positive (view_of m e).negative
unfolding view_of view_at hat_place_of pressed_at
hat-seen m e hat = rw hat

-- a stick: all but the directions, so it does not matter which pads convert
abbrev pub stick_in : Hub → Event → ℕ → List Element → List ButtonData → List AxisData → Zoned
stick_in m e place elements buttons axes =
    stick_zoned_of (view_at (seen_hub m.codes m.kinds m.names m.renames m.renamed [] [] m.hasbutton m.hasaxis elements buttons axes m.flags)
    e.pad (name_of e) place) e

pub stick-seen :
    (m : Hub) (e : Event) {place : ℕ} →
    place ≡ place_of m.codes e.pad (code_of e) →
    stick_in m e place m.elements m.buttons m.axes ≡ stick_zoned_of (view_of m e) e
unfolding view_of view_at value_at
stick-seen m e ep = rw ep

-- what is gathered of a hub for a stick
view-is :
    (h : Hub) (p n k : ℕ) (s : EventPlaces) →
    EventPlacesAre h.codes h.kinds h.names h.renames h.renamed h.hasbutton h.hasaxis h.flags p n k s →
    view_by s (element_at h s.own.place) (button_at h s.own.place) (axis_at h s.own.place) (button_at h s.partner.place) (axis_at h s.partner.place)
    ≡ undirected (view_at h p n k)
unfolding view_by event_places_at place_marks_of view_at value_at
view-is h p n k s seen = rw seen.is

pub stick-sees :
    (h : Hub) (e : Event) (k : ℕ) {name : ℕ} {s : EventPlaces} {v : View} →
    name ≡ name_of e →
    EventPlacesAre h.codes h.kinds h.names h.renames h.renamed h.hasbutton h.hasaxis h.flags e.pad name k s →
    v
    ≡ view_by s (element_at h s.own.place) (button_at h s.own.place) (axis_at h s.own.place) (button_at h s.partner.place)
    (axis_at h s.partner.place) →
    v ≡ undirected (view_at h e.pad (name_of e) k)
stick-sees h e k {name} {s} en seen ev = ev ∙ view-is h e.pad name k s seen ∙ ap (λ (n : ℕ). undirected (view_at h e.pad n k)) en

pub flags-at :
    (h : Hub) (e : Event) (f : Flags) {name k : ℕ} {s : EventPlaces} {flagged both : List Bool} →
    name ≡ name_of e →
    EventPlacesAre h.codes h.kinds h.names h.renames h.renamed h.hasbutton h.hasaxis h.flags e.pad name k s →
    flagged ≡ set h.flags s.flag f.own →
    both ≡ set flagged s.other f.partner →
    both ≡ flags_set h.flags e.pad (name_of e) f
unfolding flags_set event_places_at
flags-at h e f en seen e1 e2 = rw (e2, e1, seen.is, en)
