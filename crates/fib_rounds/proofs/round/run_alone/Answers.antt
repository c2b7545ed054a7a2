use Rattle.std.proofs.Common.{sym, subst}
use Rattle.fib_rounds.specs.inner.Forwarded.{HasForwardedRound}
use Rattle.fib_rounds.proofs.Forwarding.{alone_ran}
use Rattle.fib_rounds.proofs.round.run_alone.Goals as goal

pub returns-clause-ran : goal.returns-clause-ran
returns-clause-ran g c =
    let told = c.in_ok-stop.ensures in
    let all = alone_ran c.args.task.now.script.now c.args.task.now.packets.now.packets c.args.round c.requires.rests.0 c.args.control.now c.run_lines.new.control c.args.reading.now.progress c.run_lines.new.progress c.args.reading.now.text.items c.run_lines.new.text.items c.in_ok-stop.stop
    c.requires.none c.requires.rests.1 told.keeps told.on told.stops told.later told.inside told.short told.few told.lines told.history in
    subst (HasForwardedRound c.args.task.now.script.now c.args.task.now.packets.now.packets c.args.round c.args.control.now c.args.reading.now.progress c.args.reading.now.text.items c.in_ok-stop.stop c.run_lines.new.control c.run_lines.new.progress c.run_lines.new.text.items) (sym c.new.ensures.items) all
