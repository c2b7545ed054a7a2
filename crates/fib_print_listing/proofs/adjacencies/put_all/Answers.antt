use Rattle.fib_print_listing.specs.Order.{adjacency_before}
use Rattle.fib_print_listing.proofs.Adding.{keys_rise}
use Rattle.fib_print_listing.proofs.Orders.{adjacency_lower}
use Rattle.fib_print_listing.proofs.adjacencies.put_all.Goals as goal

pub returns-clause-ordered : goal.returns-clause-ordered
returns-clause-ordered c = keys_rise _ (λ x. x) adjacency_before adjacency_lower c.args.hops.now.entries c.iter-x-items.ensures.ordered
