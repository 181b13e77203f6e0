-- `repeated` prints one piece: the event's line, or that there is none.
use Rattle.std.proofs.Common.{rules, ◌≡◌, Ok, Some, None}
use Rattle.replay_words.proofs.Laws.{lays}
use Rattle.replay_lines.proofs.repeated.Goals as goal

pub returns-in-Ok-Some : goal.returns-in-Ok-Some
returns-in-Ok-Some c =
    let is : c.args.answer ≡ Ok (Some c.in-Ok-Some.e) = search rules in
    rw (is, ← c.form_of.ensures) (lays c.line.ensures)

pub returns-in-Ok-None : goal.returns-in-Ok-None
returns-in-Ok-None c =
    let is : c.args.answer ≡ Ok None = search rules in
    rw is (lays c.append.ensures)
