-- The head after each of the calls that set a desk up, and what tells a registered pad's.
use Rattle.std.specs.Prelude.{ℕ, ◌+◌, ◌*◌, ◌≡◌, Bool, true, false, List, set}
use Rattle.rules.specs.Names.{flags_per_pad}
use Rattle.rules.specs.Places.{cleared_of}
use Rattle.down.specs.Down.{Cleared}
use Rattle.hub.specs.declared.Head.{Head}
use Rattle.hub.specs.Heads.{head_sheet, head_names, head_marks, head_down, head_flags}

-- a good sheet is pad p's: its count and hats, whether it converts, and a fresh state
unfoldable pub registered_head : Head → ℕ → ℕ → ℕ → Bool → Head
unfolding cleared_of
registered_head d p hats count converts =
    let kept = head_sheet d (p + 1) (set d.counts p count) (set d.hats p hats) (set d.converts p converts) in
    let stands = head_marks kept (set d.connected p true) (set d.renamed p false) in
    let released = head_down stands (set d.down p 0) (set d.held p 0) (set d.heldaxes p 0) in
    head_flags released (cleared_of d.flags (flags_per_pad * p) flags_per_pad)

-- put together of its parts
pub registered-is :
    (d : Head) (p hats count : ℕ) (converts : Bool) {wide : ℕ} {counts hatted down held heldaxes : List ℕ} {connected converting renamed flags : List Bool} →
    counts ≡ set d.counts p count →
    connected ≡ set d.connected p true →
    hatted ≡ set d.hats p hats →
    converting ≡ set d.converts p converts →
    renamed ≡ set d.renamed p false →
    Cleared d.down d.held d.heldaxes p down held heldaxes →
    wide ≡ p →
    flags ≡ cleared_of d.flags (flags_per_pad * wide) flags_per_pad →
    head_flags (head_down (head_marks (head_sheet d (p + 1) counts hatted converting) connected renamed) down held heldaxes) flags
    ≡ registered_head d p hats count converts
unfolding registered_head
registered-is d p hats count converts ec en eh ev er cleared ew ef =
    rw (ec, en, eh, ev, er, cleared.down_is, cleared.held-is, cleared.heldaxes-is, ef, ew)

-- pad p goes by other names, and its hats are 0
unfoldable pub renamed_head : Head → ℕ → Bool → Head
renamed_head d p converts =
    head_marks (head_names d (set d.newhats p 0) (set d.newconverts p converts)) d.connected (set d.renamed p true)
