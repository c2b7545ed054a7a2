use Rattle.std.proofs.Common.{rules}
use Rattle.fib_rounds_turns.specs.Routers.{router_of}
use Rattle.fib_rounds_turns.specs.Turns.{change_line}
use Rattle.fib_rounds_turns.proofs.Alone.{kept_alone, line_alone}
use Rattle.fib_rounds_turns.proofs.changes_alone.run_change_line.Goals as goal

pub returns-clause-alone : goal.returns-clause-alone
returns-clause-alone g c =
    let r = router_of c.args.control.now c.pass_line.new.progress in
    kept_alone c.run_said.new.control c.run_said.new.progress (change_line c.args.text.now c.pass_line.new.progress.lines r c.in_ok-said.said).0 _ _ c.run_said.result
    (line_alone c.args.text.now c.pass_line.new.progress.lines r c.in_ok-said.said (search rules)) c.run_said.ensures.did.done
