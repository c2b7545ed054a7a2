use Rattle.std.proofs.Common.{◌∙◌}
use Rattle.std.specs.Prelude.{◌/◌}
use Rattle.fib_rounds.proofs.Beginning.{gains_taken, new_over}
use Rattle.fib_rounds.proofs.Writing.{on_err}
use Rattle.fib_rounds.proofs.Running.{none_yet}
use Rattle.fib_rounds.proofs.rounds.run_to.Goals as goal

pub returns-in_err-cells-clause-some : goal.returns-in_err-cells-clause-some
returns-in_err-cells-clause-some g c = on_err c.from_residual.result (none_yet (c.args.settings.objects / 2) c.args.script.now c.args.packets.now _ _)

pub returns-in_err-control-clause-some : goal.returns-in_err-control-clause-some
returns-in_err-control-clause-some g c = on_err c.from_residual-in_err-control.result (none_yet (c.args.settings.objects / 2) c.args.script.now c.args.packets.now _ _)

pub returns-clause-ok : goal.returns-clause-ok
returns-clause-ok g c =
    gains_taken c.args.settings.workers (c.args.settings.objects / 2) c.args.script.now c.args.packets.now c.run_on.new.control _ _ _ _ c.run_on.result c.run_on.ensures.ok

pub run_on-requires-clause-fresh : goal.run_on-requires-clause-fresh
run_on-requires-clause-fresh g c κs within =
    new_over c.args.settings.objects c.args.settings.workers _ c.new-board.result c.in_ok-control.control (c.new-board.ensures.board ∙ c.in_ok-cells.ensures) c.in_ok-control.ensures.setup c.in_ok-control.ensures.rest
