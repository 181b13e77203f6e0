-- Laws of the names after a rename, one for each turn of the loop. Past the column's end nothing is set.
use Prim.Native.Nat.{ℕ, zero, suc, ◌+◌, ◌-◌, ◌<◌, ◌≤◌}
use Rattle.std.specs.Prelude.{cond, not, List, ◌≡◌, eqb, length, get_or, set}
use Rattle.std.proofs.Math.Path.{refl}
use Rattle.std.proofs.Common.{sub-one, arith}
use Rattle.std.proofs.Math.Seq.{set_out}
use Rattle.rules.specs.Names.{no_name}
use Rattle.rules.specs.Places.{one_if}
use Rattle.rules.specs.Calls.{renames_after}

module _ (kinds list : List ℕ) where
  pub renames-past : (n : ℕ) (renames : List ℕ) (k i : ℕ) → length renames ≤ k → renames ≡ renames_after renames kinds list n k i
  unfolding renames_after
  renames-past zero renames k i past = refl
  renames-past (suc n) renames k i past =
      rw (set_out renames k (cond (eqb (get_or kinds k 0) 0) no_name (get_or list i 0)) past)
      (renames-past n renames (k + 1) (i + one_if (not (eqb (get_or kinds k 0) 0))) (omega arith))

  pub renames-none : (n : ℕ) (renames : List ℕ) (k i : ℕ) → n ≤ 0 → renames ≡ renames_after renames kinds list n k i
  unfolding renames_after
  renames-none zero renames k i none = refl
  renames-none (suc n) renames k i none = absurd (omega arith)

  pub renames-next : (n : ℕ) (renames : List ℕ) (k i name element : ℕ) → 0 < n → name ≡ cond (eqb (get_or kinds k 0) 0) no_name (get_or list i 0)
      → element ≡ one_if (not (eqb (get_or kinds k 0) 0))
      → renames_after renames kinds list n k i ≡ renames_after (set renames k name) kinds list (n - 1) (k + 1) (i + element)
  unfolding renames_after
  renames-next zero renames k i name element some is_name is-element = absurd (omega arith)
  renames-next (suc n) renames k i name element some is_name is-element = rw (is_name, is-element, sub-one)
