-- A pump in parts is the pump: a call that is allowed a + b steps comes to what two calls come to, one that is allowed a, and one that goes on where that ended
-- and is allowed b. By the two cases of `specs/Parts.antt`: the second part is allowed a step, or none.
use Prim.Native.Nat.{ℕ, zero, suc, ◌+◌}
use Rattle.std.specs.Prelude.{List, ◌≡◌}
use Rattle.std.proofs.Math.Path.{refl}
use Rattle.std.proofs.Math.ListN.{length}
use native.Mathlib.Omega.{arith}
use Rattle.rules.specs.declared.Hub.{Hub}
use Rattle.rules.specs.Refusals.{pump_refusal}
use Rattle.rules.specs.Pump.{pump_of}
use Rattle.theory_calls.specs.Room.{pump-stays}
use Rattle.theory_calls.specs.Parts.{unwritten, onward, Joins, pump-by-parts, idle, following-joins, idle-joins}

pub pump-parts : (h : Hub) (batch : List ℕ) (place : ℕ) (out : List ℕ) (a b : ℕ)
    → let first = pump_of h batch place out a in
    Joins (pump_of h batch place out (a + b)) first (onward first batch b) b
pump-parts h batch place out a zero =
    let first = pump_of h batch place out a in
    let same : a + 0 ≡ a = omega arith in
    rw same (idle-joins first (onward first batch 0) (idle first.pumped.hub batch _ (unwritten first)))
pump-parts h batch place out a (suc b) =
    let first = pump_of h batch place out a in
    following-joins (pump_of h batch place out (a + suc b)) first (onward first batch (suc b)) (suc b)
    (unfold pump_of in pump-by-parts (pump_refusal (length batch) (length out) place) h batch place out a b refl (pump-stays batch place out h a))
