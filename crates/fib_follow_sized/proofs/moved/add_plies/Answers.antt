use Rattle.std.proofs.Common.{arith, ◌*◌, zero-add}
use Rattle.std.proofs.lemmas.Grind.{common_steps}
use Rattle.std.proofs.lemmas.List.FromFn.{map-range_with_len_more}
use Rattle.fib_addr.specs.Prefixes.{masked}
use Rattle.fib_follow_sized.proofs.moved.add_plies.Goals as goal

pub loop-k-preserved : goal.loop-k-preserved
loop-k-preserved c =
    let e = map-range_with_len_more (λ k. masked c.args.p.bits (4 * k)) 0 c.loop-k.k c.loop-k.k (zero-add c.loop-k.k) in
    grind (arith, common_steps, c.loop-k.invariant)
