-- `taking::take` meets its contract: the front where something waits, a refusal, or what the record gives, each by the lemma of `Taking` from what the calls ensure.
use Rattle.std.proofs.Common.{arith, rules}
use Rattle.rules.specs.Calls.{fresh_hub}
use Rattle.columns.specs.Columns.{elements_of, buttons_of, slots_of}
use Rattle.taking.specs.Taking.{taking_hub, takes_front, takes_none, takes-within, takes_whole, takes-record}
use Rattle.taking.proofs.take.Goals as goal

-- the queue's front
pub returns-then-waiting-gt0 : goal.returns-then-waiting-gt0
returns-then-waiting-gt0 c =
    let a = c.args in
    let s = a.listed.now in
    let l = a.lent.now in
    let h = taking_hub s.codes.now s.kinds.now s.names.now s.renames.now a.renamed.now l.hasbutton.now (elements_of l.values.now l.marks.now)
    (buttons_of l.values.now l.times.now l.marks.now) (slots_of l.values.now l.times.now l.queuebytes.now l.queuecodes.now) a.pads a.pressed a.released
    a.reversed a.head a.waiting in
    takes_front h a.batch.now a.at c.if-waiting-gt0.true (search rules) c.slot_at-slot.ensures c.event_of-e.ensures c.code_of-code.ensures
    c.place_of.ensures c.head_after.ensures c.fewer.ensures

-- a record that is refused
pub returns-then-number-gt0 : goal.returns-then-number-gt0
returns-then-number-gt0 c =
    let a = c.args in
    let s = a.listed.now in
    let l = a.lent.now in
    let h = taking_hub s.codes.now s.kinds.now s.names.now s.renames.now a.renamed.now l.hasbutton.now (elements_of l.values.now l.marks.now)
    (buttons_of l.values.now l.times.now l.marks.now) (slots_of l.values.now l.times.now l.queuebytes.now l.queuecodes.now) a.pads a.pressed a.released
    a.reversed a.head a.waiting in
    takes_none h a.batch.now a.at c.if-waiting-gt0.false c.next_record-l.ensures c.find-found.ensures c.record_refusal-number.ensures c.if-number-gt0.true
    c.refused.ensures

-- a record that is taken
pub dispatch-d-requires : goal.dispatch-d-requires
dispatch-d-requires c =
    let a = c.args in
    let s = a.listed.now in
    let l = a.lent.now in
    let h = taking_hub s.codes.now s.kinds.now s.names.now s.renames.now a.renamed.now l.hasbutton.now (elements_of l.values.now l.marks.now)
    (buttons_of l.values.now l.times.now l.marks.now) (slots_of l.values.now l.times.now l.queuebytes.now l.queuecodes.now) a.pads a.pressed a.released
    a.reversed a.head a.waiting in
    takes-within h a.batch.now a.at c.if-waiting-gt0.false c.next_record-l.ensures c.find-found.ensures c.record_refusal-number.ensures c.if-number-gt0.false

pub overflow_add-after : goal.overflow_add-after
overflow_add-after c =
    let a = c.args in
    let s = a.listed.now in
    let l = a.lent.now in
    let h = taking_hub s.codes.now s.kinds.now s.names.now s.renames.now a.renamed.now l.hasbutton.now (elements_of l.values.now l.marks.now)
    (buttons_of l.values.now l.times.now l.marks.now) (slots_of l.values.now l.times.now l.queuebytes.now l.queuecodes.now) a.pads a.pressed a.released
    a.reversed a.head a.waiting in
    let whole = takes_whole h a.batch.now a.at c.if-waiting-gt0.false c.next_record-l.ensures c.find-found.ensures c.record_refusal-number.ensures
    c.if-number-gt0.false in
    omega arith

pub returns : goal.returns
unfolding fresh_hub
returns c =
    let a = c.args in
    let s = a.listed.now in
    let l = a.lent.now in
    let h = taking_hub s.codes.now s.kinds.now s.names.now s.renames.now a.renamed.now l.hasbutton.now (elements_of l.values.now l.marks.now)
    (buttons_of l.values.now l.times.now l.marks.now) (slots_of l.values.now l.times.now l.queuebytes.now l.queuecodes.now) a.pads a.pressed a.released
    a.reversed a.head a.waiting in
    takes-record h a.batch.now a.at c.if-waiting-gt0.false c.next_record-l.ensures c.find-found.ensures c.record_refusal-number.ensures c.if-number-gt0.false
    c.element_at-element.ensures c.button_at-b.ensures c.read_pressed-held.ensures c.dispatch-d.ensures
