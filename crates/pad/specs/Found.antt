-- What the lookups of `pad` answer: the place that the law book defines, and its bound, which callers index by. Definitions only.
use Rattle.std.specs.Prelude.{ℕ, ◌+◌, ◌≤◌, List, ◌≡◌, Bool, false}
use Rattle.rules.specs.Names.{places_per_pad, nowhere}
use Rattle.rules.specs.Places.{halvings, seek_of, scan_of, place_of, named_of}

-- the place of a code
pub record Placed (codes : List ℕ) (pad code r : ℕ) : Type 0 where
  pub is : r ≡ place_of codes pad code
  pub small : r ≤ nowhere

-- the place of a name
pub record Named (names : List ℕ) (pad name r : ℕ) : Type 0 where
  pub is : r ≡ named_of names pad name
  pub small : r ≤ nowhere

-- what the halving search finds among the n places from start on
pub record Sought (codes : List ℕ) (start n code r : ℕ) : Type 0 where
  pub is : r ≡ seek_of halvings codes start n code
  pub from : start ≤ r
  pub to : r ≤ start + n

-- the search among an odd number of places from start on goes on in the half from r on
pub record Halved (codes : List ℕ) (start half code r : ℕ) : Type 0 where
  pub is : seek_of halvings codes r half code ≡ seek_of halvings codes start (half + half + 1) code
  pub from : start ≤ r
  pub to : r ≤ start + half + 1

-- what the scan finds among the n places from start on
pub record Scanned (names : List ℕ) (start n name r : ℕ) : Type 0 where
  pub is : r ≡ scan_of names n start name
  pub small : r ≤ nowhere

-- where none of the first sixteen places has the name, the scan may start behind them
pub record Early (names : List ℕ) (start name : ℕ) (r : Bool) : Type 0 where
  pub passed : r ≡ false → scan_of names 36 (start + 16) name ≡ scan_of names places_per_pad start name
