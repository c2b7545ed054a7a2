use Rattle.std.proofs.Common.{◌≡◌, ◌++◌}
use Rattle.fib_worker_crew.specs.Results.{results_of}
use Rattle.fib_worker_crew.specs.Packets.{span}
use Rattle.fib_rounds.specs.Packets.{packets_text}
use Rattle.fib_rounds.proofs.put.put_span.Given as goal

-- what was printed, and then the lines that are left
abbrev pub invariant-loop-at : goal.invariant-loop-at
invariant-loop-at l =
    l.text.items ++ packets_text l.tables l.at (span l.packets.packets l.at l.to) (results_of l.rest) ≡ l.fn.text.items ++ packets_text l.tables l.from (span l.packets.packets l.from l.to) (results_of l.fn.results)
