-- What a hat that turns makes of the zones that are kept: the view's two fields stood before, and on a zone pad the value's zone stands after.
use Rattle.std.specs.Prelude.{ℕ, ◌≡◌, cond, List, Float, get_or, set}
use Rattle.rules.specs.Zones.{zone_place, zone_of, middle_zone}
use Rattle.rules.specs.Hub.{zoned_in}
use Rattle.zones.specs.declared.HatZone.{HatZone}

pub record KeptIs (hats zones : List ℕ) (p n : ℕ) (x : Float) (r : HatZone) (zones' : List ℕ) : Type 0 where
  pub zoned : r.zoned ≡ zoned_in hats p
  pub zone : r.zone ≡ get_or zones (zone_place p n) middle_zone
  pub after : zones' ≡ cond (zoned_in hats p) (set zones (zone_place p n) (zone_of x)) zones
