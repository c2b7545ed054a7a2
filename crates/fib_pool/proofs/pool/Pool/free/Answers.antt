use Rattle.std.proofs.Common.{arith, vec_capacity}
use Rattle.fib_pool.proofs.Pools.{idle_few}
use Rattle.fib_pool.proofs.pool.Pool.free.Goals as goal

pub overflow_cast-result : goal.overflow_cast-result
overflow_cast-result c = omega (arith, idle_few c.self.inside.objects.items c.self.inside.idle.items (vec_capacity c.self.inside.idle) c.self.invariant, c.self.invariant.few, c.self.inside.idle.ok.0)
