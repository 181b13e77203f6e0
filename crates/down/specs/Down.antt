-- What a call leaves of the summary, its three lists in one record, and what tells it.
use Rattle.std.specs.Prelude.{ℕ, ◌%◌, ◌≡◌, refl, Bool, true, false, cond, not, ◌&&◌, List, get_or, set, eqb}
use Rattle.std.proofs.Common.{◌∙◌, eq-eqb, ne_eqb}
use Rattle.rules.specs.Names.{places_per_pad}
use Rattle.rules.specs.Forms.{kind_connected}
use Rattle.rules.specs.Down.{put_bit, count_after, changes, pad_of, bits_after, counts_after}
use Rattle.rules.specs.Step.{down_cleared}

-- ---- how a record reads with an event, beside how it read before, as one number

abbrev pub ceases : ℕ
ceases = 0

abbrev pub still : ℕ
still = 1

abbrev pub begins : ℕ
begins = 2

abbrev pub change_of : Bool → Bool → ℕ
change_of was is = cond was (cond is still ceases) (cond is begins still)

-- what a number tells; any other tells that the record ceases to read pressed
abbrev pub is_of : ℕ → Bool
is_of change = eqb change begins

abbrev pub was_of : ℕ → Bool
was_of change = not (eqb change still) && not (is_of change)

-- ---- what a call leaves

-- place k read pressed before as `was` says, and does now as `is` says
pub record Followed (down held heldaxes : List ℕ) (k : ℕ) (was is axis : Bool) (down' held' heldaxes' : List ℕ) : Type 0 where
  pub down_is : down' ≡ bits_after down k was is
  pub held-is : held' ≡ counts_after held k was is
  pub heldaxes-is : heldaxes' ≡ counts_after heldaxes k (axis && was) (axis && is)

-- a change told by one number that the summary follows alike
pub record Alike (k : ℕ) (was is : Bool) (change : ℕ) : Type 0 where
  pub bits : (down : List ℕ) → bits_after down k (was_of change) (is_of change) ≡ bits_after down k was is
  pub counts :
      (counts : List ℕ) (axis : Bool) → counts_after counts k (axis && was_of change) (axis && is_of change) ≡ counts_after counts k (axis && was) (axis && is)

-- nothing of pad p is down
pub record Cleared (down held heldaxes : List ℕ) (p : ℕ) (down' held' heldaxes' : List ℕ) : Type 0 where
  pub down_is : down' ≡ set down p 0
  pub held-is : held' ≡ set held p 0
  pub heldaxes-is : heldaxes' ≡ set heldaxes p 0

-- nothing of pad p is down, where a record of this kind joins it
pub record Joined (down held heldaxes : List ℕ) (p kind : ℕ) (down' held' heldaxes' : List ℕ) : Type 0 where
  pub down_is : down' ≡ down_cleared down p kind
  pub held-is : held' ≡ down_cleared held p kind
  pub heldaxes-is : heldaxes' ≡ down_cleared heldaxes p kind

-- ---- the record reads as it did

pub unmoved : (b : Bool) → changes b b ≡ false
unmoved true = refl
unmoved false = refl

pub same : (change : ℕ) → change ≡ still → changes (was_of change) (is_of change) ≡ false
same change e = rw e

same-axis : (axis was is : Bool) → changes was is ≡ false → changes (axis && was) (axis && is) ≡ false
same-axis true was is e = e
same-axis false was is e = refl

pub stays :
    (down held heldaxes : List ℕ) (k : ℕ) (was is axis : Bool) → changes was is ≡ false → Followed down held heldaxes k was is axis down held heldaxes
unfolding bits_after counts_after
stays down held heldaxes k was is axis none = record { down_is = rw none; held-is = rw none; heldaxes-is = rw (same-axis axis was is none) }

pub alike-still : (k : ℕ) (was is : Bool) → changes was is ≡ false → Alike k was is still
unfolding bits_after counts_after
alike-still k was is none = record { bits = λ down. rw none; counts = λ counts axis. rw (same-axis axis was is none, unmoved) }

pub alike-change : (k : ℕ) (was is : Bool) → Alike k was is (change_of was is)
alike-change k true true = alike-still k true true refl
alike-change k true false = record { bits = λ down. refl; counts = λ counts axis. refl }
alike-change k false true = record { bits = λ down. refl; counts = λ counts axis. refl }
alike-change k false false = alike-still k false false refl

-- what follows a change follows any that is alike
pub followed-alike :
    {down held heldaxes down' held' heldaxes' : List ℕ} {k : ℕ} {was is axis : Bool} {change : ℕ} →
    Alike k was is change →
    Followed down held heldaxes k (was_of change) (is_of change) axis down' held' heldaxes' →
    Followed down held heldaxes k was is axis down' held' heldaxes'
followed-alike {down} {held} {heldaxes} {axis = axis} alike f =
    record {
      down_is = f.down_is ∙ alike.bits down;
      held-is = f.held-is ∙ alike.counts held true;
      heldaxes-is = f.heldaxes-is ∙ alike.counts heldaxes axis;
    }

-- ---- the record begins or ceases to read pressed

-- a list with one of a pad's numbers anew
abbrev pub bit_put : List ℕ → ℕ → Bool → List ℕ
bit_put down k is = set down (pad_of k) (put_bit (get_or down (pad_of k) 0) (k % places_per_pad) is)

abbrev pub count_put : List ℕ → ℕ → Bool → List ℕ
count_put counts k is = set counts (pad_of k) (count_after (get_or counts (pad_of k) 0) is)

differ : (change : ℕ) → (change ≡ still → ⊥) → changes (was_of change) (is_of change) ≡ true
differ change some = by (is_of change) (ne_eqb change still some)
  where
    by : (is : Bool) → eqb change still ≡ false → changes (not (eqb change still) && not is) is ≡ true
    by true e = rw e
    by false e = rw e

module _ {down held down' held' : List ℕ} {k : ℕ} (change : ℕ) (some : change ≡ still → ⊥) (bits : down' ≡ bit_put down k (is_of change))
    (counts : held' ≡ count_put held k (is_of change)) where
  pub moves-axis :
      {heldaxes heldaxes' : List ℕ} {axis : Bool} →
      axis ≡ true →
      heldaxes' ≡ count_put heldaxes k (is_of change) →
      Followed down held heldaxes k (was_of change) (is_of change) axis down' held' heldaxes'
  unfolding bits_after counts_after
  moves-axis here axes =
      let moves = differ change some in
      record { down_is = rw moves bits; held-is = rw moves counts; heldaxes-is = rw (here, moves) axes }

  pub moves-button : {heldaxes : List ℕ} {axis : Bool} → axis ≡ false → Followed down held heldaxes k (was_of change) (is_of change) axis down' held' heldaxes
  unfolding bits_after counts_after
  moves-button none =
      let moves = differ change some in
      record { down_is = rw moves bits; held-is = rw moves counts; heldaxes-is = rw none }

-- ---- a pad joins, or does not

pub joins :
    {down held heldaxes down' held' heldaxes' : List ℕ} {p kind : ℕ} →
    kind ≡ kind_connected →
    Cleared down held heldaxes p down' held' heldaxes' →
    Joined down held heldaxes p kind down' held' heldaxes'
unfolding down_cleared
joins {kind = kind} e c =
    let is : eqb kind kind_connected ≡ true = eq-eqb kind kind_connected e in
    record { down_is = rw is c.down_is; held-is = rw is c.held-is; heldaxes-is = rw is c.heldaxes-is }

pub joins-not : (down held heldaxes : List ℕ) (p kind : ℕ) → (kind ≡ kind_connected → ⊥) → Joined down held heldaxes p kind down held heldaxes
unfolding down_cleared
joins-not down held heldaxes p kind h =
    let no : eqb kind kind_connected ≡ false = ne_eqb kind kind_connected h in record { down_is = rw no; held-is = rw no; heldaxes-is = rw no }
