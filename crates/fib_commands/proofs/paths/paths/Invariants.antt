use Rattle.std.proofs.Common.{◌≡◌, ◌-◌}
use Rattle.fib_commands.specs.Paths.{paths_of}
use Rattle.fib_commands.proofs.PathLemmas.{with_front}
use Rattle.std.specs.List.{AllByRecursion}
use Rattle.fib_resolve.specs.Reachable.{IsWrittenPath}
use Rattle.fib_commands.proofs.paths.paths.Given as goal

abbrev pub invariant-loop : goal.invariant-loop
invariant-loop l = record {
  value : with_front l.list (paths_of (l.most - l.counter) l.words) ≡ paths_of l.most l.fn.words;
  written : AllByRecursion IsWrittenPath l.list;
}
