use Rattle.fib_print_listing.specs.Order.{list_before}
use Rattle.fib_print_listing.specs.inner.Lists.{paths_in}
use Rattle.fib_print_listing.proofs.Adding.{keys_rise}
use Rattle.fib_print_listing.proofs.Paths.{list_lower}
use Rattle.fib_print_listing.proofs.lists.put_all.Goals as goal

pub returns-clause-ordered : goal.returns-clause-ordered
returns-clause-ordered c = keys_rise _ paths_in list_before (λ k l. list_lower k.now l.now) c.args.counts.now.entries c.iter-paths-items.ensures.ordered
