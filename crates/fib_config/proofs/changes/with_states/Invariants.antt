use Rattle.std.proofs.Common.{◌≡◌, take, map}
use Rattle.fib_resolve.specs.Edits.{with_state}
use Rattle.fib_config.proofs.changes.with_states.Given as goal

abbrev pub invariant-loop-i : goal.invariant-loop-i
invariant-loop-i l = l.out ≡ map (with_state l.name l.up) (take l.i-index l.interfaces)
