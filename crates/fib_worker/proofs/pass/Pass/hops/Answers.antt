use Rattle.std.proofs.Common.{◌<◌, subst}
use Rattle.fib_worker.specs.Passes.{Passing}
use Rattle.fib_worker.proofs.Runs.{few_hops}
use Rattle.fib_worker.proofs.pass.Pass.hops.Goals as goal

pub returns-clause-few : goal.returns-clause-few
returns-clause-few c =
    subst (λ (p : Passing). c.self.inside.hops < p.seat.worker.objects) c.self.view_is (few_hops _ _ _ _ _ _ c.self.invariant)
