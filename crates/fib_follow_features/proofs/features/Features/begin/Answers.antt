use Rattle.std.proofs.Common.{[], Some, ap, subst, ◌⊎◌, ◌↔◌, ◌≡◌}
use Rattle.std.specs.Prelude.{Contains}
use Rattle.fib_follow_features.specs.Holders.{members_of}
use Rattle.fib_follow_features.proofs.Holding.{puts_in, Updated}
use Rattle.fib_follow_features.proofs.Same.{updated_is}
use Rattle.fib_follow_features.proofs.features.Features.begin.Goals as goal

pub returns-clause-ok : goal.returns-clause-ok
returns-clause-ok c =
    let new = c.insert-2.new.self.entries in
    let set = Some c.insert.new.set in
    puts_in c.args.self.now new c.args.feature set
    (subst (λ l. Updated l new c.args.feature set) c.self.view_is
    (updated_is c.self.inside.sets.entries new c.args.feature set c.in_ok-insert-2.ensures.updates.0))
    [] (ap members_of c.requires) c.args.e
    (λ q. subst (λ l. Contains c.insert.new.set q ↔ Contains l q ⊎ (q ≡ c.args.e)) c.new-set.ensures (c.in_ok-insert.ensures.ok q))
