use Rattle.std.proofs.Common.{arith, rules, vec_capacity, ◌≡◌, ◌+◌, length, None}
use Rattle.std.specs.Prelude.{replicate}
use Rattle.fib_pool.proofs.Pools.{fresh_pool}
use Rattle.fib_pool.proofs.pool.Pool.new.Goals as goal

pub invariant_of-result : goal.invariant_of-result
invariant_of-result c =
    let is : c.in_ok-all.all.items ≡ replicate c.args.objects None = c.in_ok-all.ensures.items_if_clones_equal (search rules) in
    let long : length c.loop-number.idle.items + 1 ≡ c.args.objects = (let l = c.loop-number.invariant.long in omega arith) in
    fresh_pool c.args.objects c.in_ok-all.all.items c.loop-number.idle.items (vec_capacity c.loop-number.idle) _ is c.requires (omega arith) long c.loop-number.invariant.items c.loop-number.invariant.room
