use Rattle.std.proofs.Common.{rules, [], None, refl, subst, ◌≡◌}
use Rattle.fib_follow_features.specs.inner.Puts.{TakesOut}
use Rattle.fib_follow_features.proofs.Holding.{takes_same, same_in, Updated}
use Rattle.fib_follow_features.proofs.Same.{updated_is}
use Rattle.fib_follow_features.proofs.features.Features.take_out.Goals as goal

pub returns-then-strike : goal.returns-then-strike
returns-then-strike c =
    let mid = c.strike.new.self in
    let new = c.remove.new.self.entries in
    let f = c.args.feature in
    let same : new ≡ c.match-remove.self = search rules in
    subst (λ z. TakesOut c.args.self.now z f c.args.e) same
    (takes_same c.args.self.now mid new f c.args.e c.strike.ensures.out
    (same_in mid new f None
    (subst (λ l. Updated l new f None) c.self.view_is (updated_is c.self.inside.sets.entries new f None c.remove.ensures.updates.0))
    [] (c.strike.ensures.none c.if-strike.true) refl))
