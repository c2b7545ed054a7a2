use Rattle.std.proofs.Common.{arith, vec_capacity}
use Rattle.fib_pool.proofs.Pools.{idle_few}
use Rattle.fib_pool.proofs.pool.Pool.used.Goals as goal

pub overflow_sub-result : goal.overflow_sub-result
overflow_sub-result c = omega (arith, idle_few c.self.inside.objects.items c.self.inside.idle.items (vec_capacity c.self.inside.idle) c.self.invariant, c.self.inside.idle.ok.0, c.self.inside.objects.ok.0)
