use Rattle.std.proofs.Common.{arith, vec_capacity, refl}
use Rattle.fib_pool.proofs.Pools.{kept_taken, free_less, taken_in, taken_free}
use Rattle.fib_pool.proofs.pool.Pool.take.Goals as goal

pub index_mut-requires : goal.index_mut-requires
index_mut-requires c = (let i = taken_in c.self.inside.objects.items c.self.inside.idle.items c.pop.new.self.items (vec_capacity c.self.inside.idle) c.self.invariant c.in_ok-object.object c.in_ok-object.ensures.items in omega (arith, i, c.self.inside.objects.ok.0))

pub invariant_of-self-2 : goal.invariant_of-self-2
invariant_of-self-2 c = rw c.pop.ensures.capacity (kept_taken c.self.inside.objects.items c.self.inside.idle.items c.pop.new.self.items (vec_capacity c.self.inside.idle) c.self.invariant c.in_ok-object.object c.in_ok-object.ensures.items _)

pub returns-clause-taken : goal.returns-clause-taken
returns-clause-taken c =
    let o = c.self.inside.objects.items in
    let i = c.self.inside.idle.items in
    let r = c.pop.new.self.items in
    rw (← c.self.view_is) (record {
      inside = taken_in o i r (vec_capacity c.self.inside.idle) c.self.invariant c.in_ok-object.object c.in_ok-object.ensures.items;
      free = taken_free o i r (vec_capacity c.self.inside.idle) c.self.invariant c.in_ok-object.object c.in_ok-object.ensures.items;
      taken = refl;
    })

pub returns-clause-free : goal.returns-clause-free
returns-clause-free c =
    rw (← c.self.view_is) (free_less c.self.inside.objects.items c.self.inside.idle.items c.pop.new.self.items (vec_capacity c.self.inside.idle)
    c.self.invariant c.in_ok-object.object c.in_ok-object.ensures.items _)
