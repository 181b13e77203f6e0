-- `lines::lines` meets its contract: a turn lays one line more behind those that are laid.
use Rattle.std.proofs.Common.{◌≡◌, sym, ap, ◌∙◌, ◌++◌, ◌+◌, ◌-◌, ◌*◌, ◌<◌, length, take, drop, length-drop, arith}
use Rattle.std.proofs.Math.Seq.{take_all}
use Rattle.rules.specs.declared.EventForm.{EventForm}
use Rattle.rules.specs.Forms.{event_fields}
use Rattle.lines.specs.Text.{held_of, lines_of, line_of}
use Rattle.lines.proofs.Laws.{laid_none, more, grown, untouched}
use Rattle.lines.proofs.Words.{lines_more, lines-short, held_fits}
use Rattle.lines.proofs.lines.Goals as goal

pub returns-then-out-at : goal.returns-then-out-at
unfolding held_of
returns-then-out-at c =
    let held : c.min-held.result ≡ held_of c.args.events.now c.args.count = c.min-held.ensures in
    let h : length c.args.out.now < c.args.at + 94 * held_of c.args.events.now c.args.count = omega arith in
    untouched _ _ _ _ (lines-short _ _) h

pub returns-then-out-at-2 : goal.returns-then-out-at-2
unfolding held_of
returns-then-out-at-2 c =
    let held : c.min-held.result ≡ held_of c.args.events.now c.args.count = c.min-held.ensures in
    let h : length c.args.out.now < c.args.at + 94 * held_of c.args.events.now c.args.count = omega arith in
    untouched _ _ _ _ (lines-short _ _) h

pub loop-i-init : goal.loop-i-init
unfolding held_of lines_of
loop-i-init c =
    let held : c.min-held.result ≡ held_of c.args.events.now c.args.count = c.min-held.ensures in
    record {
      inside = omega (arith, held_fits c.args.events.now c.args.count);
      room = omega arith;
      laid = laid_none _ _ (omega arith);
      all = held;
    }

pub loop-i-preserved : goal.loop-i-preserved
loop-i-preserved c =
    let l = c.loop-i in
    let events = c.args.events.now in
    let n = 22 * l.i in
    let whole : take (length events - n) (drop n events) ≡ drop n events = take_all (length events - n) (drop n events) (omega (arith, length-drop n events)) in
    let text : lines_of events l.i ++ line_of c.fields-event.result ≡ lines_of events (l.i + 1) =
    ap (λ (e : EventForm). lines_of events l.i ++ line_of e) (c.fields-event.ensures ∙ ap event_fields whole) ∙ sym (lines_more events l.i) in
    record {
      inside = l.invariant.inside;
      room = l.invariant.room;
      laid = grown _ _ _ _ _ _ _ _ (more _ _ _ _ _ _ _ _ _ _ l.invariant.laid c.line-next.ensures (omega arith)) text (omega arith);
      all = l.invariant.all;
    }
