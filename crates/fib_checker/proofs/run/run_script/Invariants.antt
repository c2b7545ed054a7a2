use Rattle.std.proofs.Common.{◌≡◌, ◌+◌, ◌++◌, drop}
use Rattle.fib_resolve.specs.Tables.{fresh}
use Rattle.fib_checker.specs.Output.{printed}
use Rattle.fib_checker.specs.Ready.{IsReady}
use Rattle.fib_checker.proofs.run.run_script.Given as goal

-- the lines that are left print the rest
abbrev pub invariant-loop-before : goal.invariant-loop-before
invariant-loop-before l = record {
  ready : IsReady l.checker.config.tables l.checker;
  printed : l.out.items ++ printed (l.before + 1) l.checker.config.tables (drop l.before l.script) ≡ printed 1 fresh l.script;
}
