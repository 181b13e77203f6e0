-- `query_line` prints what its definition says in each case: each function that it calls has its case as its contract.
use Rattle.replay_lines.specs.Lines.{query_pieces, value_line, threshold_line, button_line, stick_line, code_line, since_line}
use Rattle.replay_words.proofs.Laws.{lays}
use Rattle.replay_lines.proofs.query_line.Goals as goal

pub returns-in-Value : goal.returns-in-Value
unfolding query_pieces
returns-in-Value c = rw c.in-Value.is (c.found.ensures value_line (λ x at next before after printed. printed))

pub returns-in-Threshold : goal.returns-in-Threshold
unfolding query_pieces
returns-in-Threshold c = rw c.in-Threshold.is (c.found-in-Threshold.ensures threshold_line (λ x at next before after printed. printed))

pub returns-in-Button : goal.returns-in-Button
unfolding query_pieces
returns-in-Button c = rw c.in-Button.is (c.found-in-Button.ensures button_line (λ x at next before after printed. printed))

pub returns-in-Axis : goal.returns-in-Axis
unfolding query_pieces
returns-in-Axis c = rw c.in-Axis.is (c.found-in-Axis.ensures stick_line (λ x at next before after printed. printed))

pub returns-in-Code : goal.returns-in-Code
unfolding query_pieces
returns-in-Code c = rw c.in-Code.is (c.found-in-Code.ensures code_line (λ x at next before after printed. printed))

pub returns-in-Since : goal.returns-in-Since
unfolding query_pieces
returns-in-Since c = rw c.in-Since.is (c.found-in-Since.ensures since_line (λ x at next before after printed. printed))

pub returns-in-Waiting : goal.returns-in-Waiting
unfolding query_pieces
returns-in-Waiting c = rw c.in-Waiting.is (lays c.labelled.ensures)
