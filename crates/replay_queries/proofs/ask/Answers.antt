-- Outside 11 to 21 an opcode with no part of its own goes by what is down on a pad, whose arrays' codes alone that part reads.
use Rattle.replay_queries.specs.Laws.{below, above}
use Rattle.replay_queries.proofs.ask.Goals as goal

pub returns-then-opcode-lt-PRESSED_BY_CODE : goal.returns-then-opcode-lt-PRESSED_BY_CODE
returns-then-opcode-lt-PRESSED_BY_CODE c queuebytes queuecodes =
    rw (
    below
    _
    _
    _
    c.if-opcode-eq-REPEAT.false
    c.if-opcode-eq-SINCE.false
    c.if-opcode-eq-PAIR.false
    c.if-opcode-lt-PRESSED_BY_CODE.true
    )
    (c.by_pad.ensures _ _ _ _)

pub returns-then-opcode-gt-THRESHOLD : goal.returns-then-opcode-gt-THRESHOLD
returns-then-opcode-gt-THRESHOLD c queuebytes queuecodes =
    rw (
    above
    _
    _
    _
    c.if-opcode-eq-REPEAT.false
    c.if-opcode-eq-SINCE.false
    c.if-opcode-eq-PAIR.false
    c.if-opcode-lt-PRESSED_BY_CODE.false
    c.if-opcode-gt-THRESHOLD.true
    )
    (c.by_pad-then-opcode-gt-THRESHOLD.ensures _ _ _ _)
