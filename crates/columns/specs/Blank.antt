-- The arrays with every record blank: where an array holds one value throughout, each list that is made of it has one record throughout.
use Rattle.std.specs.Prelude.{ℕ, ◌+◌, ◌≤◌, ◌<◌, ◌≡◌, Bool, true, false, List, get_or, replicate, leb, Float}
use Rattle.std.proofs.lemmas.List.{get_or-replicate}
use Rattle.std.proofs.Common.{arith, leb-true}
use Rattle.numbers.specs.Constants.{zero32}
use Rattle.rules.specs.Names.{queue_room}
use Rattle.rules.specs.Places.{no_element}
use Rattle.rules.specs.Calls.{blank_button, blank_axis, blank_slot}
use Rattle.columns.specs.Tabled.{tabled-one}
use Rattle.columns.specs.Columns.{places, values_long, times_long, marks_long, bytes_long, elements_of, buttons_of, axes_of, slots_of}

-- every record is blank
pub record Blank (vs : List Float) (ts : List ℕ) (ms : List Bool) (bs cs : List ℕ) : Type 0 where
  pub elements : elements_of vs ms ≡ replicate places no_element
  pub buttons : buttons_of vs ts ms ≡ replicate places blank_button
  pub axes : axes_of vs ts ≡ replicate places blank_axis
  pub slots : slots_of vs ts bs cs ≡ replicate queue_room blank_slot

-- read in an array of one value that is at least `long`, at place j of a column of `wide` places that starts at s
in-column :
    (wide long : ℕ) {A : Type 0} (n s j : ℕ) (x d : A) →
    leb (s + wide) long ≡ true →
    long ≤ n →
    j < wide →
    get_or (replicate n x) (s + j) d ≡ x
in-column wide long n s j x d fits whole less = get_or-replicate n (s + j) x d (omega (arith, leb-true (s + wide) long fits))

-- over the lengths, so that no array is written out
pub blank-is :
    (nv nt nm nb nc : ℕ) →
    values_long ≤ nv →
    times_long ≤ nt →
    marks_long ≤ nm →
    bytes_long ≤ nb →
    queue_room ≤ nc →
    Blank (replicate nv zero32) (replicate nt 0) (replicate nm false) (replicate nb 0) (replicate nc 0)
unfolding elements_of buttons_of axes_of slots_of
blank-is nv nt nm nb nc lv lt lm lb lc =
    record {
      elements = tabled-one places _ _ (λ j l. simp (in-column places values_long, in-column places marks_long));
      buttons = tabled-one places _ _ (λ j l. simp (in-column places values_long, in-column places times_long, in-column places marks_long));
      axes = tabled-one places _ _ (λ j l. simp (in-column places values_long, in-column places times_long));
      slots =
          tabled-one queue_room _ _
          (λ j l.
          let code : j < nc = omega arith in
          simp (in-column queue_room values_long, in-column queue_room times_long, in-column queue_room bytes_long, get_or-replicate));
    }
