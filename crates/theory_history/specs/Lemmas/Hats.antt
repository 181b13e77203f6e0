-- What is asked of a direction and of its pad's sheet, and which record moves its hat: the words in which `proofs/Lemmas/Hats` says what a record does to it.
use Rattle.std.specs.Prelude.{ℕ, ◌<◌, Bool, ◌&&◌, ◌≡◌, eqb}
use Rattle.std.proofs.Math.Bool.{true}
use Rattle.std.proofs.Math.ListN.{get_or}
use Rattle.rules.specs.declared.Hub.{Hub}
use Rattle.rules.specs.declared.RawRecord.{RawRecord}
use Rattle.rules.specs.declared.Element.{Element}
use Rattle.rules.specs.Names.{nowhere, no_name}
use Rattle.rules.specs.Places.{place_of}
use Rattle.rules.specs.Hub.{past_element}
use Rattle.theory_history.specs.Rule.{speaks, direction_code}
use Rattle.theory_history.specs.Lemmas.Waits.{Sheet, takes}
use Rattle.theory_history.specs.Lemmas.Sides.{Plain}

-- a direction that its pad's sheet does not list, of a hat that the pad takes for its directions
pub record Unlisted (s : Sheet) (p n : ℕ) (positive : Bool) : Type 0 where
  pub pad : p < s.pads
  pub takes : takes s p n ≡ true
  pub plain : Plain s (place_of s.codes p (direction_code positive n))
  pub none : get_or s.kinds (place_of s.codes p (direction_code positive n)) 0 ≡ 0

-- what a pad's sheet says of its codes
pub record Sheeted (s : Sheet) (p : ℕ) (name_of : ℕ → ℕ) (element_of : ℕ → Element) : Type 0 where
  pub name : (c : ℕ) → place_of s.codes p c < nowhere → get_or s.names (place_of s.codes p c) no_name ≡ name_of c
  pub element : (c : ℕ) → place_of s.codes p c < nowhere → get_or s.elements (place_of s.codes p c) past_element ≡ element_of c

-- the name of a record's element
abbrev pub name_by : Hub → RawRecord → ℕ
name_by h r = get_or h.names (place_of h.codes r.pad r.code) no_name

-- whether a record moves the pad's hat of this name
abbrev pub turns : Hub → ℕ → ℕ → RawRecord → Bool
turns h p n r = eqb r.pad p && (speaks r.kind && eqb (name_by h r) n)
