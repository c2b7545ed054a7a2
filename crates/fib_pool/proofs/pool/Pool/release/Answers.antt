use Rattle.std.proofs.Common.{vec_capacity, ◌∙◌, ap}
use Rattle.fib_pool.specs.Objects.{free_in}
use Rattle.fib_pool.proofs.Pools.{kept_count, free_same, live_read, last_count}
use Rattle.fib_pool.proofs.pool.Pool.release.Goals as goal

pub invariant_of-self : goal.invariant_of-self
invariant_of-self c = kept_count c.self.inside.objects.items c.self.inside.idle.items (vec_capacity c.self.inside.idle) c.self.invariant c.args.object c.in-Some.taken (live_read c.self.inside.objects.items c.args.self.now c.args.object c.index.result.now c.in-Some.taken c.self.view_is c.requires c.index.ensures c.in-Some.is) _

pub returns-clause-free : goal.returns-clause-free
returns-clause-free c = free_same c.self.inside.objects.items c.self.inside.idle.items (vec_capacity c.self.inside.idle) c.self.invariant c.args.object c.in-Some.taken (live_read c.self.inside.objects.items c.args.self.now c.args.object c.index.result.now c.in-Some.taken c.self.view_is c.requires c.index.ensures c.in-Some.is) _ ∙ ap free_in c.self.view_is

pub returns-clause-last : goal.returns-clause-last
returns-clause-last c = rw (← c.self.view_is) (last_count c.self.inside.objects.items c.args.object c.in-Some.taken (live_read c.self.inside.objects.items c.args.self.now c.args.object c.index.result.now c.in-Some.taken c.self.view_is c.requires c.index.ensures c.in-Some.is) (rw c.self.view_is c.requires))
