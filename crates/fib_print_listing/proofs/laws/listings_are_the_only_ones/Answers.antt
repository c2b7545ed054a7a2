use Rattle.std.proofs.Common.{map}
use Rattle.std.specs.Set.{unique_keys}
use Rattle.fib_addr.specs.Prefixes.{same_prefix}
use Rattle.fib_resolve.specs.Pairs.{pairs, entries}
use Rattle.fib_resolve.specs.Sizes.{adjacencies, same_adjacency}
use Rattle.fib_resolve.proofs.Covering.{entries_apart, adjacencies_apart, distinct_keys}
use Rattle.fib_print_listing.specs.Order.{prefix_before, adjacency_before, list_before, in_order}
use Rattle.fib_print_listing.specs.PathLists.{same_list, list_of}
use Rattle.fib_print_listing.proofs.Sorting.{listed, only_listed}
use Rattle.fib_print_listing.proofs.Orders.{prefix_off, prefix_trans, prefix_apart, adjacency_off, adjacency_trans, adjacency_apart, list_off, list_trans, list_apart, same_list_equiv}
use Rattle.fib_print_listing.proofs.laws.listings_are_the_only_ones.Goals as goal

pub returns-clause-entries : goal.returns-clause-entries
returns-clause-entries c S es =
    λ h. only_listed prefix_before prefix_off prefix_trans (entries S) es (in_order prefix_before (entries S)) h (listed prefix_before same_prefix prefix_trans prefix_apart (entries S) (entries_apart S))

pub returns-clause-adjacencies : goal.returns-clause-adjacencies
returns-clause-adjacencies c S xs =
    λ h. only_listed adjacency_before adjacency_off adjacency_trans (adjacencies S) xs (in_order adjacency_before (adjacencies S)) h (listed adjacency_before same_adjacency adjacency_trans adjacency_apart (adjacencies S) (adjacencies_apart S))

pub returns-clause-lists : goal.returns-clause-lists
returns-clause-lists c S ls =
    let all = unique_keys same_list (map list_of (pairs S)) in
    λ h. only_listed list_before list_off list_trans all ls (in_order list_before all) h (listed list_before same_list list_trans list_apart all (distinct_keys same_list same_list_equiv (map list_of (pairs S))))
