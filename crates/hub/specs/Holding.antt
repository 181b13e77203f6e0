-- The lent arrays that one struct holds, as the law book's hub reads them, and which of them a call left as they were.
use Rattle.std.specs.Prelude.{◌≡◌, ℕ, List}
use Rattle.hub.specs.declared.Listing.{Listing}
use Rattle.hub.specs.declared.Store.{Store}
use Rattle.hub.specs.declared.State.{State}
use Rattle.hub.specs.declared.Serving.{Serving}
use Rattle.hub.specs.Lent as lent

abbrev pub listed_now : Listing → lent.Listed
listed_now s = lent.listed s.codes.now s.kinds.now s.names.now s.renames.now

abbrev pub columns_now : Store → lent.Columns
columns_now c = lent.columns c.hasbutton.now c.hasaxis.now c.values.now c.times.now c.marks.now c.queuebytes.now c.queuecodes.now

-- the state's arrays, with the queue's beside them
abbrev pub columns_with : State → List ℕ → List ℕ → lent.Columns
columns_with s queuebytes queuecodes = lent.columns s.hasbutton.now s.hasaxis.now s.values.now s.times.now s.marks.now queuebytes queuecodes

-- a call that changes no more than the queue, in the arrays that it shares with the records: the marks are those that were lent, and each other field refers to what
-- it did
pub record QueueAlone (c d : Serving) : Type 0 where
  pub hasbutton : d.hasbutton ≡ c.hasbutton
  pub hasaxis : d.hasaxis ≡ c.hasaxis
  pub marks : d.marks ≡ c.marks
  pub values : d.values.ghost_name ≡ c.values.ghost_name
  pub times : d.times.ghost_name ≡ c.times.ghost_name
  pub queuebytes : d.queuebytes.ghost_name ≡ c.queuebytes.ghost_name
  pub queuecodes : d.queuecodes.ghost_name ≡ c.queuecodes.ghost_name

-- each field refers to what it did
pub record Same (c d : Store) : Type 0 where
  pub hasbutton : d.hasbutton.ghost_name ≡ c.hasbutton.ghost_name
  pub hasaxis : d.hasaxis.ghost_name ≡ c.hasaxis.ghost_name
  pub values : d.values.ghost_name ≡ c.values.ghost_name
  pub times : d.times.ghost_name ≡ c.times.ghost_name
  pub marks : d.marks.ghost_name ≡ c.marks.ghost_name
  pub queuebytes : d.queuebytes.ghost_name ≡ c.queuebytes.ghost_name
  pub queuecodes : d.queuecodes.ghost_name ≡ c.queuecodes.ghost_name

-- the same of the state's
pub record SameState (c d : State) : Type 0 where
  pub hasbutton : d.hasbutton.ghost_name ≡ c.hasbutton.ghost_name
  pub hasaxis : d.hasaxis.ghost_name ≡ c.hasaxis.ghost_name
  pub values : d.values.ghost_name ≡ c.values.ghost_name
  pub times : d.times.ghost_name ≡ c.times.ghost_name
  pub marks : d.marks.ghost_name ≡ c.marks.ghost_name
