-- What a step gathers, over the hub's columns as lists.
use Rattle.std.specs.Prelude.{ℕ, ◌≤◌, ◌≡◌, Bool, false, List, get_or, eqb, ltb}
use Rattle.std.proofs.Common.{ap}
use Rattle.rules.specs.declared.Element.{Element}
use Rattle.rules.specs.declared.ButtonData.{ButtonData}
use Rattle.rules.specs.declared.AxisData.{AxisData}
use Rattle.rules.specs.declared.View.{View}
use Rattle.rules.specs.Names.{nowhere, no_name, partner_of}
use Rattle.rules.specs.Sheets.{element_axis}
use Rattle.rules.specs.Places.{place_of, present_names}
use Rattle.rules.specs.State.{read_value}
use Rattle.rules.specs.Hub.{flag_place, partner_place_of}
use Rattle.pad.specs.Found.{Placed}
use Rattle.gather.specs.declared.Found.{Found}
use Rattle.gather.specs.declared.PlaceMarks.{PlaceMarks}
use Rattle.gather.specs.declared.EventPlaces.{EventPlaces}

-- a place, with the bound that callers index by
pub record PlaceIs (place r : ℕ) : Type 0 where
  pub is : r ≡ place
  pub small : r ≤ nowhere

-- ---- a record's element

unfoldable pub found_at : List ℕ → List ℕ → List ℕ → List Bool → List Bool → ℕ → ℕ → Found
found_at kinds names renames renamed hasbutton p k =
    record {
      place = k;
      kind = get_or kinds k 0;
      name = get_or (present_names names renames renamed p) k no_name;
      hasbutton = get_or hasbutton k false;
    }

pub record FoundIs (codes kinds names renames : List ℕ) (renamed hasbutton : List Bool) (p c : ℕ) (r : Found) : Type 0 where
  pub is : r ≡ found_at kinds names renames renamed hasbutton p (place_of codes p c)
  pub small : r.place ≤ nowhere

pub found-placed : {codes kinds names renames : List ℕ} {renamed hasbutton : List Bool} {p c : ℕ} {r : Found} → FoundIs codes kinds names renames renamed hasbutton p c r → Placed codes p c r.place
unfolding found_at
found-placed f = record { is = ap (λ (x : Found). x.place) f.is; small = f.small }

-- ---- an event's places

unfoldable pub place_marks_of : List Bool → List Bool → ℕ → PlaceMarks
place_marks_of hasbutton hasaxis k = record { place = k; hasbutton = get_or hasbutton k false; hasaxis = get_or hasaxis k false }

-- a stick's own place and its partner's, and what the columns say of them
unfoldable pub event_places_at : List ℕ → List ℕ → List Bool → List Bool → List Bool → ℕ → ℕ → ℕ → ℕ → EventPlaces
unfolding place_marks_of
event_places_at codes kinds hasbutton hasaxis flags p n own partner =
    record {
      own = place_marks_of hasbutton hasaxis own;
      partner = place_marks_of hasbutton hasaxis partner;
      code = get_or codes partner 0;
      dead = eqb (get_or kinds own 0) element_axis;
      flag = flag_place p n;
      other = flag_place p (partner_of n);
      flags = record { own = get_or flags (flag_place p n) false; partner = get_or flags (flag_place p (partner_of n)) false };
    }

pub record EventPlacesAre (codes kinds names renames : List ℕ) (renamed hasbutton hasaxis flags : List Bool) (p n own : ℕ) (r : EventPlaces) : Type 0 where
  pub is : r ≡ event_places_at codes kinds hasbutton hasaxis flags p n own (partner_place_of names renames renamed p n)
  pub partner-small : r.partner.place ≤ nowhere

-- ---- the view

-- what a stick sees: no direction is asked for
unfoldable pub view_by : EventPlaces → Element → ButtonData → AxisData → ButtonData → AxisData → View
view_by s e b a pb pa =
    record {
      converts = false;
      positive = false;
      negative = false;
      stored = s.own.hasaxis;
      stick = a.value;
      dead = s.dead;
      threshold = e.threshold;
      own = read_value s.own.hasaxis a s.own.hasbutton b;
      partner =
          record {
            stands = ltb s.partner.place nowhere;
            code = s.code;
            value = read_value s.partner.hasaxis pa s.partner.hasbutton pb;
          };
      flags = s.flags;
    }
