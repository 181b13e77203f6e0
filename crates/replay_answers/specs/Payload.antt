-- A law about payloads: what is lent behind the first bytes.
use Rattle.std.specs.Prelude.{ℕ, ◌-◌, ◌≡◌, List, length, take, drop}
use Rattle.std.proofs.Common.{arith, length-drop, take_all}

pub behind : (n : ℕ) (payload : List ℕ) → take (length payload - n) (drop n payload) ≡ drop n payload
behind n payload = take_all (length payload - n) (drop n payload) (omega (arith, length-drop n payload))
