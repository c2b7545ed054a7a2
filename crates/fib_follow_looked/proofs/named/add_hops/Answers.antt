use Rattle.std.proofs.Common.{arith, length, refl, subst}
use Rattle.std.proofs.lemmas.Option.{slice_get_read}
use Rattle.fib_resolve.specs.Pairs.{recursive_of}
use Rattle.fib_follow_looked.specs.inner.Adding.{Adds}
use Rattle.fib_follow_looked.specs.inner.Naming.{is_hop}
use Rattle.fib_follow_looked.proofs.Growth.{adds_none, adds_step, adds_whole}
use Rattle.fib_follow_looked.proofs.named.add_hops.Goals as goal

pub paths-init : goal.paths-init
paths-init c = adds_none (λ p. is_hop (recursive_of p)) c.args.paths.now c.args.set.now

pub paths-preserved : goal.paths-preserved
paths-preserved c =
    adds_step (λ p. is_hop (recursive_of p)) c.args.paths.now c.paths.place c.index-paths-place.result c.args.set.now c.paths.set c.add_hop.new.set
    (slice_get_read c.args.paths.now (length c.args.paths.now) c.paths.place c.index-paths-place.result refl c.paths-test.true c.index-paths-place.is)
    c.paths.invariant (subst (λ o. Adds (is_hop o) c.paths.set c.add_hop.new.set) c.recursive.ensures c.in_ok-add_hop.ensures)

pub returns : goal.returns
returns c = let over = c.paths-test.false
    in adds_whole (λ p. is_hop (recursive_of p)) c.args.paths.now c.paths.place c.args.set.now c.paths.set (omega (arith, over)) c.paths.invariant
