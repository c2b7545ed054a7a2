use Rattle.std.proofs.Common.{map}
use Rattle.std.specs.Set.{unique_keys}
use Rattle.fib_addr.specs.Prefixes.{same_prefix}
use Rattle.fib_resolve.specs.Pairs.{pairs, entries}
use Rattle.fib_resolve.specs.Sizes.{adjacencies, same_adjacency}
use Rattle.fib_resolve.proofs.Covering.{entries_apart, adjacencies_apart, distinct_keys}
use Rattle.fib_print_listing.specs.Order.{prefix_before, adjacency_before, list_before}
use Rattle.fib_print_listing.specs.PathLists.{same_list, list_of}
use Rattle.fib_print_listing.proofs.Sorting.{listed}
use Rattle.fib_print_listing.proofs.Orders.{prefix_trans, prefix_apart, adjacency_trans, adjacency_apart, list_trans, list_apart, same_list_equiv}
use Rattle.fib_print_listing.proofs.laws.listings_are_in_order.Goals as goal

pub returns-clause-entries : goal.returns-clause-entries
returns-clause-entries c S = listed prefix_before same_prefix prefix_trans prefix_apart (entries S) (entries_apart S)

pub returns-clause-adjacencies : goal.returns-clause-adjacencies
returns-clause-adjacencies c S = listed adjacency_before same_adjacency adjacency_trans adjacency_apart (adjacencies S) (adjacencies_apart S)

pub returns-clause-lists : goal.returns-clause-lists
returns-clause-lists c S =
    listed list_before same_list list_trans list_apart (unique_keys same_list (map list_of (pairs S))) (distinct_keys same_list same_list_equiv (map list_of (pairs S)))
