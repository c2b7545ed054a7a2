use Rattle.std.proofs.Common.{vec_capacity, ◌∙◌, ap}
use Rattle.fib_pool.specs.Objects.{free_in}
use Rattle.fib_pool.proofs.Pools.{kept_count, free_same, live_read}
use Rattle.fib_pool.proofs.pool.Pool.hold.Goals as goal

pub invariant_of-self : goal.invariant_of-self
invariant_of-self c = kept_count c.self.inside.objects.items c.self.inside.idle.items (vec_capacity c.self.inside.idle) c.self.invariant c.args.object c.in-Some.taken (live_read c.self.inside.objects.items c.args.self.now c.args.object c.index.result.now c.in-Some.taken c.self.view_is c.requires.live c.index.ensures c.in-Some.is) _

pub returns-in-Some-clause-free : goal.returns-in-Some-clause-free
returns-in-Some-clause-free c = free_same c.self.inside.objects.items c.self.inside.idle.items (vec_capacity c.self.inside.idle) c.self.invariant c.args.object c.in-Some.taken (live_read c.self.inside.objects.items c.args.self.now c.args.object c.index.result.now c.in-Some.taken c.self.view_is c.requires.live c.index.ensures c.in-Some.is) _ ∙ ap free_in c.self.view_is
