-- The out buffer after a kept event, where the bytes filled before it are counted: the law book's, of the same length.
use Rattle.std.specs.Prelude.{ℕ, ◌≡◌, ◌+◌, ◌-◌, ◌*◌, ◌≤◌, List, ◌++◌, length, drop}
use Rattle.std.proofs.Common.{arith}
use borrow.Rule.Slice.PartMut.{mid_of, put_mid}
use Rattle.rules.specs.declared.Event.{Event}
use Rattle.rules.specs.Forms.{event_size}
use Rattle.rules.specs.Events.{event_bytes}
use Rattle.rules.specs.Pump.{out_after}
use Rattle.pump_laws.specs.Parts.{put_is, put-length}

module _ (out : List ℕ) (n : ℕ) {filled : ℕ} (is : filled ≡ event_size * n) (room : event_size ≤ length out - filled) (e : Event) {ys : List ℕ}
    (wrote : ys ≡ event_bytes e ++ drop event_size (mid_of filled (length out - filled) out)) where
  fits : event_size * n + event_size ≤ length out
  fits = omega arith

  pub written : put_mid filled (length out - filled) out ys ≡ out_after out n e
  written = rw is (put_is out n fits e (rw is at wrote))

  pub as_long : length (put_mid filled (length out - filled) out ys) ≡ length out
  as_long = rw is (put-length out n fits e (rw is at wrote))
