-- `padlog::log` meets its contract, by what registration answers.
use Rattle.std.proofs.Common.{◌≡◌, ◌-◌, ◌≤◌, length, drop, length-drop, arith}
use Rattle.std.proofs.Math.Seq.{take_all}
use Rattle.padlog.proofs.Whole.{pumps, refuses}
use Rattle.padlog.proofs.log.Goals as goal

pub returns-in-Ok : goal.returns-in-Ok
returns-in-Ok c =
    let input = c.args.input.now in
    let end = c.sheet_end-end.result in
    let left : length (drop end input) ≤ length input - end = omega (arith, length-drop end input) in
    pumps _ _ _ _ _ c.sheet_end-end.ensures.0 c.new_hub-opened.ensures (c.register-registered.ensures _ _ _ _) _ _ _ _ c.in-Ok.is
    (take_all (length input - end) (drop end input) left) c.pump_all.ensures

pub returns-in-Err : goal.returns-in-Err
returns-in-Err c =
    let size : length c.args.text.now ≡ 559538 = omega arith in
    refuses _ _ _ _ _ c.sheet_end-end.ensures.0 c.new_hub-opened.ensures (c.register-registered.ensures _ _ _ _) _ _ _ _ c.in-Err.is size
    c.labelled.ensures
