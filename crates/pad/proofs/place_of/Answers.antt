-- `pad::place_of` meets its contract: the search's place is answered where the check of the definition passes.
use Rattle.std.proofs.Common.{refl, arith}
use Rattle.pad.specs.Search.{checked-no-pad, checked-outside, checked-other, checked-same, searched}
use Rattle.pad.proofs.place_of.Goals as goal
use Rattle.pad.proofs.place_of.Goals.{else-place-start-via-then-place-start+else-codes-place, else-place-start-via-else-place-start}

pub returns-then-pad-ge-PADS : goal.returns-then-pad-ge-PADS
returns-then-pad-ge-PADS c =
    record { is = searched _ _ _ _ _ refl (checked-no-pad _ _ _ _ c.if-pad-ge-PADS.true); small = omega arith }

pub returns-then-codes-place : goal.returns-then-codes-place
returns-then-codes-place c =
    record {
      is =
          searched _ _ _ _ _ c.seek-place.ensures.is
          (checked-same _ _ _ _ (omega arith) (omega arith) (omega arith) c.if-codes-place.true);
      small = omega arith;
    }

pub returns-else-place-start : goal.returns-else-place-start
returns-else-place-start c =
    let found = c.seek-place.ensures.is in
    elim c.else-place-start.branch [
      | else-place-start-via-then-place-start+else-codes-place w ↦
          record {
            is = searched _ _ _ _ _ found (checked-other _ _ _ _ (omega arith) (omega arith) (omega arith) w.if-codes-place.false);
            small = omega arith;
          }
      | else-place-start-via-else-place-start w ↦
          record { is = searched _ _ _ _ _ found (checked-outside _ _ _ _ (omega arith) (λ e. omega arith)); small = omega arith }
    ]
