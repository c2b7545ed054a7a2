use Rattle.std.proofs.Common.{arith, vec_capacity, vec_len, ◌<◌, ◌≡◌, ◌++◌, ◌∷◌, [], refl}
use Rattle.std.proofs.lemmas.Grind.{common_steps}
use Rattle.fib_pool.proofs.Pools.{kept_back, free_more, idle_room, dying_at}
use Rattle.fib_pool.proofs.pool.Pool.put_back.Goals as goal

pub unreachable-requires : goal.unreachable-requires
unreachable-requires c =
    let d = dying_at c.self.inside.objects.items c.args.self.now c.args.object c.self.view_is c.requires in
    let r = idle_room c.self.inside.objects.items c.self.inside.idle.items (vec_capacity c.self.inside.idle) c.self.invariant c.args.object d.0 d.1 in
    let room : vec_len c.self.inside.idle < vec_capacity c.self.inside.idle = omega (arith, r, c.self.inside.idle.ok.0) in
    let done = c.push.ensures.succeeds room in
    grind (arith, common_steps, done)

pub invariant_of-self : goal.invariant_of-self
invariant_of-self c =
    let d = dying_at c.self.inside.objects.items c.args.self.now c.args.object c.self.view_is c.requires in
    let pushed : c.push.new.self.items ≡ c.self.inside.idle.items ++ c.args.object ∷ [] = rw (c.push.ensures.items, c.if-is_err.ensures.negation) refl in
    kept_back c.self.inside.objects.items c.self.inside.idle.items (vec_capacity c.self.inside.idle) c.self.invariant c.args.object d.0 d.1 c.push.new.self.items (vec_capacity c.push.new.self) pushed c.push.ensures.capacity

pub returns-clause-free : goal.returns-clause-free
returns-clause-free c =
    let d = dying_at c.self.inside.objects.items c.args.self.now c.args.object c.self.view_is c.requires in
    rw (← c.self.view_is) (free_more c.self.inside.objects.items c.self.inside.idle.items (vec_capacity c.self.inside.idle) c.self.invariant c.args.object d.0 d.1)
