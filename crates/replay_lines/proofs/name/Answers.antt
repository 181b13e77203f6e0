-- `name` prints one piece: the name, or the number that stands for none.
use Rattle.std.proofs.Common.{rules, ◌≡◌, Ok, Some, None}
use Rattle.replay_words.proofs.Laws.{lays}
use Rattle.replay_lines.proofs.name.Goals as goal

pub returns-in-Ok-Some : goal.returns-in-Ok-Some
returns-in-Ok-Some c =
    let is : c.args.answer ≡ Ok (Some c.in-Ok-Some.n) = search rules in
    rw is (lays c.labelled.ensures)

pub returns-in-Ok-None : goal.returns-in-Ok-None
returns-in-Ok-None c =
    let is : c.args.answer ≡ Ok None = search rules in
    rw is (lays c.labelled-in-Ok-None.ensures)
