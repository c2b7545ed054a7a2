use Rattle.std.proofs.Common.{◌||◌, ap, ap₂, refl, subst}
use Rattle.std.proofs.lemmas.Result.{on_ok_weaker}
use Rattle.fib_addr.specs.Prefixes.{same_prefix}
use Rattle.fib_resolve_changes.specs.Affected.{is_own}
use Rattle.fib_resolve_changes.specs.declared.change.Change.TheVariants as changes
use Rattle.fib_follow_looked.specs.Looks.{IsShortChange}
use Rattle.fib_follow_looked.specs.inner.Naming.{are_hops}
use Rattle.fib_follow_looked.proofs.Growth.{names_like}
use Rattle.fib_follow_looked.proofs.named.add_change.Goals as goal

pub add_address-requires : goal.add_address-requires
add_address-requires c = subst IsShortChange c.in-Address.is c.requires

pub returns-in-Address : goal.returns-in-Address
returns-in-Address c = on_ok_weaker c.add_address.result
    (names_like c.args.before.now c.args.after.now.tables c.args.change (changes.Address c.in-Address.a)
    (is_own c.in-Address.a) c.args.set.now c.add_address.new.set
    c.in-Address.is (λ q. refl)) c.add_address.ensures

pub returns-in-Neighbor : goal.returns-in-Neighbor
returns-in-Neighbor c = on_ok_weaker c.add_one.result
    (names_like c.args.before.now c.args.after.now.tables c.args.change (changes.Neighbor _ c.in-Neighbor.addr)
    (λ q. same_prefix q c.host.result) c.args.set.now c.add_one.new.set
    c.in-Neighbor.is (λ q. ap (same_prefix q) c.host.ensures)) c.add_one.ensures

pub returns-in-Route : goal.returns-in-Route
returns-in-Route c = on_ok_weaker c.add_route.result
    (names_like c.args.before.now c.args.after.now.tables c.args.change (changes.Route c.in-Route.prefix c.in-Route.source)
    (λ q. same_prefix q c.in-Route.prefix || (are_hops c.old_paths-old.result.now q || are_hops c.paths_of.result.now q)) c.args.set.now c.add_route.new.set
    c.in-Route.is (λ q. ap₂ (λ old new. same_prefix q c.in-Route.prefix || (are_hops old q || are_hops new q)) c.old_paths-old.ensures
    c.paths_of.ensures)) c.add_route.ensures
