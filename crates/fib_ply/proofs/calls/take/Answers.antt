use Rattle.std.proofs.lemmas.Option.{IfSome_then}
use Rattle.fib_ply.proofs.Undropped.{none_taken}
use Rattle.fib_ply.proofs.calls.take.Goals as goal

pub returns-clause-none_dropped : goal.returns-clause-none_dropped
returns-clause-none_dropped g c = IfSome_then c.take.result c.take.ensures.some (λ o taken. none_taken (g.P.Objects.view c.args.on.now) (g.P.Objects.view c.take.new.self) o taken)
