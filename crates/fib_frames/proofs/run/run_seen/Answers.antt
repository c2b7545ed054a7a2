use Rattle.std.proofs.Common.{Some}
use Rattle.std.specs.Prelude.{◌/◌}
use Rattle.fib_rounds.proofs.Writing.{on_err}
use Rattle.fib_frames.proofs.Showing.{shows_both, shows_parts, shows_stops}
use Rattle.fib_frames.proofs.run.run_seen.Goals as goal

pub returns-in_err-run_to-clause-err : goal.returns-in_err-run_to-clause-err
returns-in_err-run_to-clause-err g c =
    on_err c.from_residual.result (shows_stops (c.args.task.now.job.settings.objects / 2) c.args.script.now c.args.seen.now.bytes.items c.args.seen.now.packets c.args.seen.now.spans _ _ _ (Some c.new-tap.result) (Some c.run_to.new.tap) c.in_err-run_to.ensures.some)

pub returns-clause-ok : goal.returns-clause-ok
returns-clause-ok g c =
    shows_both (c.args.task.now.job.settings.objects / 2) c.args.script.now c.args.seen.now.bytes.items c.args.seen.now.packets c.args.seen.now.spans c.send.result c.new-tap.result c.run_to.new.tap c.list.result.now _ _ _ _ _
    c.in_ok-run_to.ensures.ok c.new-tap.ensures c.list.ensures c.send.ensures.lines c.send.ensures.sent

pub returns-clause-err : goal.returns-clause-err
returns-clause-err g c =
    shows_parts (c.args.task.now.job.settings.objects / 2) c.args.script.now c.args.seen.now.bytes.items c.args.seen.now.packets c.args.seen.now.spans c.send.result c.new-tap.result c.run_to.new.tap c.list.result.now _ _ _ _ _
    c.in_ok-run_to.ensures.ok c.new-tap.ensures c.list.ensures c.send.ensures.some_lines c.send.ensures.some_sent
