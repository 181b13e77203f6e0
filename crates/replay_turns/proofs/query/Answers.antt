-- That no hub stands, the dump, or the line of what a query answers: the game stays as it was, and the text is what the one call printed.
use borrow.Author.Tests.{eq-eqb, ne_eqb}
use Rattle.replay_words.proofs.Laws.{lays}
use Rattle.replay_turns.specs.Shown.{no-hub-is, dump-is, query-is}
use Rattle.replay_turns.proofs.query.Goals as goal

pub returns-then-not-g : goal.returns-then-not-g
returns-then-not-g c queuebytes queuecodes =
    no-hub-is _ _ _ _ _ _ c.behind.ensures c.if-not-g.true (lays c.append.ensures)

pub returns-then-opcode-eq-DUMP : goal.returns-then-opcode-eq-DUMP
returns-then-opcode-eq-DUMP c queuebytes queuecodes =
    dump-is
    _
    _
    _
    _
    _
    _
    c.behind-then-opcode-eq-DUMP.ensures
    c.if-not-g.false
    (eq-eqb _ _ c.if-opcode-eq-DUMP.true)
    (c.dump.ensures _ _ _ queuebytes queuecodes)

pub returns : goal.returns
returns c queuebytes queuecodes =
    query-is
    _
    _
    _
    _
    _
    _
    c.behind-2.ensures
    c.if-not-g.false
    (ne_eqb _ _ c.if-opcode-eq-DUMP.false)
    (c.ask-answer.ensures queuebytes queuecodes)
    c.query_line.ensures
