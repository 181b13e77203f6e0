-- A pad of the plain call is never old, by the account: it did not come old.
use Rattle.std.specs.Prelude.{ℕ, false, ◌≡◌}
use Rattle.rules.specs.declared.Hub.{Hub}
use Rattle.theory_calls.specs.Reach.{Reached}
use Rattle.theory_old.specs.Account.{archived_in, old_in, old-sentence, came-archived}

pub plain-not-old : {h : Hub} (p : ℕ) (w : Reached h) → archived_in p w ≡ false → old_in p w ≡ false
plain-not-old p w e = rw (old-sentence p w, came-archived p w e)
