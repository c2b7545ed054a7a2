use Rattle.std.proofs.lemmas.Result.{on_ok_weaker}
use Rattle.fib_addr.specs.Prefixes.{same_prefix}
use Rattle.fib_follow_looked.specs.inner.Naming.{are_hops}
use Rattle.fib_follow_looked.proofs.Growth.{adds_route}
use Rattle.fib_follow_looked.proofs.named.add_route.Goals as goal

pub returns : goal.returns
returns c = on_ok_weaker c.add_hops-2.result
    (adds_route (λ q. same_prefix q c.args.prefix) (are_hops c.args.old.now)
    (are_hops c.args.new.now) c.args.set.now c.add_one.new.set c.add_hops.new.set c.add_hops-2.new.set
    c.in_ok-add_one.ensures c.in_ok-add_hops.ensures) c.add_hops-2.ensures
