-- Which part of the table answers: by the opcode's place among 11 to 21, where it has no part of its own.
use Rattle.std.specs.Prelude.{ℕ, ◌≤◌, ◌<◌, ◌≡◌, List}
use borrow.Author.Tests.{eq-eqb, ne_eqb, le-leb, lt-leb}
use Rattle.rules.specs.declared.Hub.{Hub}
use Rattle.replay_answers.specs.Opcodes as opcodes
use Rattle.replay_queries.specs.Asked.{since, pair, queried, by_pad, asked_of}

module _ (h : Hub) (opcode : ℕ) (payload : List ℕ) (other : opcode ≡ opcodes.repeat → ⊥) where
  pub held : opcode ≡ opcodes.since → asked_of h opcode payload ≡ since h payload
  unfolding asked_of
  held is = rw (ne_eqb opcode opcodes.repeat other, eq-eqb opcode opcodes.since is)

  module _ (nor : opcode ≡ opcodes.since → ⊥) where
    pub calculates : opcode ≡ opcodes.pair → asked_of h opcode payload ≡ pair payload
    unfolding asked_of
    calculates is = rw (ne_eqb opcode opcodes.repeat other, ne_eqb opcode opcodes.since nor, eq-eqb opcode opcodes.pair is)

    module _ (no-pair : opcode ≡ opcodes.pair → ⊥) where
      pub below : opcode < opcodes.pressed_by_code → asked_of h opcode payload ≡ by_pad h opcode payload
      unfolding asked_of
      below low =
          rw (
            ne_eqb opcode opcodes.repeat other,
            ne_eqb opcode opcodes.since nor,
            ne_eqb opcode opcodes.pair no-pair,
            lt-leb opcodes.pressed_by_code opcode low,
          )

      module _ (high : opcodes.pressed_by_code ≤ opcode) where
        pub above : opcodes.threshold < opcode → asked_of h opcode payload ≡ by_pad h opcode payload
        unfolding asked_of
        above past =
            rw (
              ne_eqb opcode opcodes.repeat other,
              ne_eqb opcode opcodes.since nor,
              ne_eqb opcode opcodes.pair no-pair,
              le-leb opcodes.pressed_by_code opcode high,
              lt-leb opcode opcodes.threshold past,
            )

        pub between : opcode ≤ opcodes.threshold → asked_of h opcode payload ≡ queried h opcode payload
        unfolding asked_of
        between low =
            rw (
              ne_eqb opcode opcodes.repeat other,
              ne_eqb opcode opcodes.since nor,
              ne_eqb opcode opcodes.pair no-pair,
              le-leb opcodes.pressed_by_code opcode high,
              le-leb opcode opcodes.threshold low,
            )
