-- The head after some steps: its settings stay, and the steps' own fields are as they left them.
use Rattle.std.specs.Prelude.{ℕ, Bool, List}
use Rattle.hub.specs.declared.Head.{Head}
use Rattle.hub.specs.Heads.{head_marks, head_down, head_flags, head_queue}

abbrev pub stepped_head : Head → List Bool → List Bool → List ℕ → List ℕ → List ℕ → List Bool → ℕ → ℕ → Head
stepped_head d connected renamed down held heldaxes flags front waiting =
    head_queue (head_flags (head_down (head_marks d connected renamed) down held heldaxes) flags) front waiting
