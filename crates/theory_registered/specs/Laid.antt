-- A column after a run of it is laid: the run has the values, a place before or behind it what it had, and the column its length.
use Prim.Native.Nat.{ℕ, zero, suc, ◌+◌, ◌<◌, ◌≤◌}
use mathlib.Core.List.{List, [], ◌∷◌}
use Rattle.std.specs.Prelude.{◌≡◌, get_or, set}
use Rattle.std.proofs.Math.Path.{refl}
use Rattle.std.proofs.Common.{◌∙◌}
use native.Mathlib.Omega.{arith}
use Rattle.std.proofs.Math.ListN.{length, length-set}
use Rattle.std.proofs.Math.Seq.{get_or-set_same, get_or-set_other}
use Rattle.rules.specs.Calls.{laid}

pub laid-length : {A : Type 0} (vs xs : List A) (k : ℕ) → length (laid xs k vs) ≡ length xs
unfolding laid
laid-length [] xs k = refl
laid-length (v ∷ vs) xs k = laid-length vs (set xs k v) (k + 1) ∙ simp length-set

module _ {A : Type 0} (past : A) where
  -- a place before the run
  pub laid-before : (vs xs : List A) (k j : ℕ) → j < k → get_or (laid xs k vs) j past ≡ get_or xs j past
  unfolding laid
  laid-before [] xs k j short = refl
  laid-before (v ∷ vs) xs k j short =
      laid-before vs (set xs k v) (k + 1) j (omega arith) ∙ get_or-set_other xs k j v past (λ e. omega arith)

  -- a place behind it
  pub laid-behind : (vs xs : List A) (k j : ℕ) → k + length vs ≤ j → get_or (laid xs k vs) j past ≡ get_or xs j past
  unfolding laid
  laid-behind [] xs k j behind = refl
  laid-behind (v ∷ vs) xs k j behind =
      laid-behind vs (set xs k v) (k + 1) j (omega arith) ∙ get_or-set_other xs k j v past (λ e. omega arith)

  -- a place of the run
  pub laid-at : (vs xs : List A) (k i : ℕ) → i < length vs → k + length vs ≤ length xs → get_or (laid xs k vs) (k + i) past ≡ get_or vs i past
  unfolding laid
  laid-at [] xs k i short room = absurd (omega arith)
  laid-at (v ∷ vs) xs k zero short room =
      let e : k + 0 ≡ k = omega arith in
      let inside : k < length xs = omega arith in
      rw e (laid-before vs (set xs k v) (k + 1) k (omega arith) ∙ get_or-set_same xs k v past inside)
  laid-at (v ∷ vs) xs k (suc i) short room =
      let e : k + suc i ≡ k + 1 + i = omega arith in
      rw e (laid-at vs (set xs k v) (k + 1) i (omega arith) (simp length-set (omega arith)))
