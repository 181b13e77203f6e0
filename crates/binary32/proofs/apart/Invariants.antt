-- While a subnormal number is doubled, m * 2 ^ z stays 2 ^ 24 times its units. The measure is `z`, which `some_left` keeps above 0.
use Rattle.std.proofs.Common.{◌≡◌, ◌*◌, ◌^◌, ◌<◌, ◌≤◌}
use Rattle.binary32.proofs.apart.Given as goal

abbrev pub invariant-loop-m : goal.invariant-loop-m
invariant-loop-m l =
    record {
      some : 0 < l.initial.m;
      short : l.m < 16777216;
      same : l.initial.m * 2 ^ 24 ≡ l.m * 2 ^ l.z;
      few : l.z ≤ 24;
    }

abbrev pub decreases-loop-m : goal.decreases-loop-m
decreases-loop-m l = l.z
