-- W-213: what is down right now. "Keep a summary beside the button records: one bit per record, with the count by pad": of each pad a number with bit k for its
-- place k, how many of its records are pressed, and how many of those are axis elements'. The summary follows each record as it begins or ceases to read pressed,
-- so no step counts. All is defined for any numbers, also where they do not agree with the records. Definitions only.
use Rattle.std.specs.Prelude.{ℕ, ◌+◌, ◌-◌, ◌/◌, ◌%◌, ◌^◌, Bool, cond, not, List, get_or, set, eqb, ltb}
use Rattle.std.specs.Int.Count.{count_trailing_zeros}
use Rattle.rules.specs.Names.{places_per_pad}

-- ---- bits

unfoldable pub has_bit : ℕ → ℕ → Bool
has_bit bits k = eqb (bits / 2 ^ k % 2) 1

-- the bits with bit k as v says
unfoldable pub put_bit : ℕ → ℕ → Bool → ℕ
unfolding has_bit
put_bit bits k v = cond (has_bit bits k) (cond v bits (bits - 2 ^ k)) (cond v (bits + 2 ^ k) bits)

-- the lowest of a pad's places whose bit is set; one past the last where none is
unfoldable pub lowest_of : ℕ → ℕ
unfolding count_trailing_zeros
lowest_of bits = count_trailing_zeros places_per_pad bits

-- ---- counts

-- one more is pressed, or one less; never more than a pad has places
unfoldable pub count_after : ℕ → Bool → ℕ
count_after n v = cond v (cond (ltb n places_per_pad) (n + 1) n) (n - 1)

-- ---- by pad: place k read pressed before as `was` says, and now as `is` says

abbrev pub changes : Bool → Bool → Bool
changes was is = cond was (not is) is

abbrev pub pad_of : ℕ → ℕ
pad_of k = k / places_per_pad

unfoldable pub bits_after : List ℕ → ℕ → Bool → Bool → List ℕ
unfolding put_bit
bits_after down k was is =
    cond (changes was is) (set down (pad_of k) (put_bit (get_or down (pad_of k) 0) (k % places_per_pad) is)) down

unfoldable pub counts_after : List ℕ → ℕ → Bool → Bool → List ℕ
unfolding count_after
counts_after counts k was is = cond (changes was is) (set counts (pad_of k) (count_after (get_or counts (pad_of k) 0) is)) counts
