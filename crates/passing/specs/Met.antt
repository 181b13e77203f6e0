-- What a served event meets at the deadzone (W-205), as the law book has it: a stick's lane tells, and every other lane leaves what was met before. What is seen of
-- the records after the first push is what stood before it.
use Rattle.std.specs.Prelude.{ℕ, ◌≡◌, refl, Bool, List, [], get_or, eqb, Float}
use Rattle.std.proofs.Common.{sym, ◌∙◌, ap}
use Rattle.numbers.specs.declared.Tilt.{Tilt}
use Rattle.rules.specs.declared.Hub.{Hub}
use Rattle.rules.specs.declared.Event.{Event}
use Rattle.rules.specs.declared.Element.{Element}
use Rattle.rules.specs.declared.ButtonData.{ButtonData}
use Rattle.rules.specs.declared.AxisData.{AxisData}
use Rattle.rules.specs.declared.View.{View}
use Rattle.rules.specs.Sheets.{element_axis}
use Rattle.rules.specs.Places.{place_of}
use Rattle.rules.specs.Events.{name_of, code_of}
use Rattle.rules.specs.Filters.{jittered_of}
use Rattle.rules.specs.Hub.{converts_in, view_at, view_of, hat_place_of, partner_place_of, pressed_at, value_at}
use Rattle.rules.specs.Tilt.{zone_met, met_of, met_in, latest}
use Rattle.columns.specs.Columns.{elements_of, buttons_of, axes_of}
use Rattle.filters.specs.declared.Met.{Met}
use Rattle.filters.specs.Lanes.{lane_of, undirected}
use Rattle.filters.specs.Meets.{zone_meets, stick_met_of, unmet-else, met-stick}
use Rattle.queueing.specs.Queued.{Pushed}
use Rattle.passing.specs.Passing.{seen_hub, seen_of, lane-is}

-- ---- a stick

-- from what it sees of a hub, and what is made of it
pub stick-met :
    (h : Hub) (e : Event) (k : ℕ) (before : Tilt) {v : View} {f : Met} {tilt : Tilt} →
    v ≡ undirected (view_at h e.pad (name_of e) k) →
    f ≡ zone_meets v (jittered_of v e) →
    tilt ≡ latest f.tilt before →
    tilt ≡ latest (stick_met_of (view_at h e.pad (name_of e) k) e) before
stick-met h e k before sees ef et =
    et ∙ ap (λ (m : Met). latest m.tilt before) ef ∙ ap (λ (w : View). latest (zone_met w (jittered_of w e)) before) sees

-- all but the directions, so it does not matter which pads convert
abbrev stick_met_in : Hub → Event → ℕ → List Element → List ButtonData → List AxisData → Tilt
stick_met_in m e place elements buttons axes =
    stick_met_of (view_at (seen_hub m.codes m.kinds m.names m.renames m.renamed [] [] m.hasbutton m.hasaxis elements buttons axes m.flags)
    e.pad (name_of e) place) e

met-seen :
    (m : Hub) (e : Event) {place : ℕ} →
    place ≡ place_of m.codes e.pad (code_of e) →
    stick_met_in m e place m.elements m.buttons m.axes ≡ stick_met_of (view_of m e) e
unfolding view_of view_at value_at
met-seen m e ep = rw ep

-- ---- by the lane

module _ (on : Bool) (m : Hub) (e : Event) {lane place : ℕ} (before : Tilt) (ep : place ≡ place_of m.codes e.pad (code_of e))
    (el :
    lane ≡ lane_of on (converts_in m.renamed m.converts m.newconverts e.pad) (eqb (get_or m.kinds place 0) element_axis) e) where
  pub met-else : (lane ≡ 3 → ⊥) → before ≡ latest (met_of on (view_of m e) e) before
  met-else other =
      ap (λ (t : Tilt). latest t before) (sym (unmet-else on (view_of m e) e (λ is. other (sym (lane-is on m e lane ep el refl) ∙ is))))

  pub met-here :
      (ms : List Bool) {vs vs1 : List Float} {ts bs cs ts1 bs1 cs1 : List ℕ} {head waiting more : ℕ} {es : List Event} {tilt : Tilt} →
      m.elements ≡ elements_of vs ms →
      m.buttons ≡ buttons_of vs ts ms →
      m.axes ≡ axes_of vs ts →
      Pushed vs ts bs cs head waiting es vs1 ts1 bs1 cs1 more →
      lane ≡ 3 →
      tilt ≡ latest (stick_met_in m e place (elements_of vs1 ms) (buttons_of vs1 ts1 ms) (axes_of vs1 ts1)) before →
      tilt ≡ latest (met_of on (view_of m e) e) before
  met-here ms {vs} {vs1} {ts} {bs} {cs} {ts1} eelements ebuttons eaxes first is et =
      let seen : stick_met_in m e place (elements_of vs1 ms) (buttons_of vs1 ts1 ms) (axes_of vs1 ts1) ≡ stick_met_of (view_of m e) e =
      ap (λ (l : List Element). stick_met_in m e place l (buttons_of vs1 ts1 ms) (axes_of vs1 ts1)) (first.elements ms ∙ sym eelements)
      ∙ ap (λ (l : List ButtonData). stick_met_in m e place m.elements l (axes_of vs1 ts1)) (first.buttons ms ∙ sym ebuttons)
      ∙ ap (stick_met_in m e place m.elements m.buttons) (first.axes ∙ sym eaxes)
      ∙ met-seen m e ep in
      et ∙ ap (λ (t : Tilt). latest t before) (seen ∙ sym (met-stick on (view_of m e) e (lane-is on m e 3 ep el is)))

-- ---- the hub

-- a hub, blank but for what its view is made of: an event meets the same
met-same : (m : Hub) (e : Event) → met_of m.filters (view_of (seen_of m) e) e ≡ met_in m e
unfolding met_in view_of view_at hat_place_of partner_place_of converts_in pressed_at value_at
met-same m e = refl

-- what is reported of a served event is the law book's
pub served-met :
    (m : Hub) (e : Event) (before : Tilt) {tilt : Tilt} → tilt ≡ latest (met_of m.filters (view_of (seen_of m) e) e) before → tilt ≡ latest (met_in m e) before
served-met m e before et = et ∙ ap (λ (t : Tilt). latest t before) (met-same m e)
