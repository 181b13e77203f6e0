-- The invariant: the number so far is the field of the bytes passed, below its power of 256.
use Rattle.std.proofs.Common.{◌≡◌, ◌<◌, ◌^◌}
use Rattle.rules.specs.Forms.{field_of}
use Rattle.wire.proofs.field.Given as goal

abbrev pub invariant-loop-byte : goal.invariant-loop-byte
invariant-loop-byte l =
    record {
      is : l.x ≡ field_of l.s l.at l.byte-index;
      small : l.x < 256 ^ l.byte-index;
    }
