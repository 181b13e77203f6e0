-- The out buffer once the part that was lent to the writer is back: the definition's buffer, of the same length.
use Rattle.std.specs.Prelude.{ℕ, ◌+◌, ◌-◌, ◌*◌, ◌≤◌, ◌≡◌, refl, List, ◌++◌, length, take, drop}
use Rattle.std.proofs.Common.{append-nil, length-drop, length-append, drop_of_length-le, take_all, arith}
use borrow.Rule.Slice.PartMut.{mid_of, put_mid, same_len_mid}
use Rattle.rules.specs.declared.Event.{Event}
use Rattle.rules.specs.Forms.{event_size, bytes_of, form_bytes}
use Rattle.rules.specs.Events.{event_bytes}
use Rattle.rules.specs.Pump.{out_after}

-- an event has 22 bytes
pub event-long : (e : Event) → length (event_bytes e) ≡ event_size
unfolding event_bytes form_bytes bytes_of
event-long e = refl

module _ (out : List ℕ) (n : ℕ) (h : event_size * n + event_size ≤ length out) where
  mid-all : mid_of (event_size * n) (length out - event_size * n) out ≡ drop (event_size * n) out
  mid-all = take_all (length out - event_size * n) (drop (event_size * n) out) (omega (arith, length-drop (event_size * n) out))

  put-any : (xs : List ℕ) {ys : List ℕ} → ys ≡ xs ++ drop event_size (mid_of (event_size * n) (length out - event_size * n) out) → put_mid (event_size * n) (length out - event_size * n) out ys ≡ take (event_size * n) out ++ (xs ++ drop event_size (drop (event_size * n) out))
  put-any xs ey =
      rw (ey, mid-all, drop_of_length-le (drop (event_size * n) out) {i = length out - event_size * n} (omega (arith, length-drop (event_size * n) out)), append-nil)

  module _ (e : Event) {ys : List ℕ} (ey : ys ≡ event_bytes e ++ drop event_size (mid_of (event_size * n) (length out - event_size * n) out)) where
    pub put_is : put_mid (event_size * n) (length out - event_size * n) out ys ≡ out_after out n e
    unfolding out_after
    put_is = put-any (event_bytes e) ey

    pub put-length : length (put_mid (event_size * n) (length out - event_size * n) out ys) ≡ length out
    put-length =
        same_len_mid (event_size * n) (length out - event_size * n) out ys
        (rw (ey, mid-all) (simp (length-append, length-drop) (rw (event-long e) (omega (arith, length-drop (event_size * n) out)))))
