use Rattle.std.proofs.Common.{◌≡◌, ◌++◌, drop}
use Rattle.fib_trace.specs.Texts.{loads_text}
use Rattle.fib_tracer.proofs.put.put_loads.Given as goal

abbrev pub invariant-loop-number : goal.invariant-loop-number
invariant-loop-number l = l.out.items ++ loads_text l.tables l.number (drop l.number l.loads) ≡ l.initial.out.items ++ loads_text l.tables 0 l.loads
