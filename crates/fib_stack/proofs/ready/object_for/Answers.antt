use Rattle.fib_stack.proofs.Calling.{maybe_takes}
use Rattle.fib_stack.proofs.Readying.{maybe_quiet, maybe_serves}
use Rattle.fib_stack.proofs.ready.object_for.Goals as goal

pub returns-else-free-lt-NEEDED-clause-quiet : goal.returns-else-free-lt-NEEDED-clause-quiet
returns-else-free-lt-NEEDED-clause-quiet g c = maybe_quiet _ _ c.take.result (g.met.P.Objects.sound c.take.new.self) c.take.ensures.some c.take.ensures.same

pub returns-else-free-lt-NEEDED-clause-serves : goal.returns-else-free-lt-NEEDED-clause-serves
returns-else-free-lt-NEEDED-clause-serves g c = λ n h. maybe_serves (g.P.Objects.promise c.args.on.now) n _ _ c.take.result c.take.ensures.some c.take.ensures.same h

pub returns-else-free-lt-NEEDED-clause-calls : goal.returns-else-free-lt-NEEDED-clause-calls
returns-else-free-lt-NEEDED-clause-calls g c = maybe_takes _ _ c.take.result c.take.ensures.some c.take.ensures.same
