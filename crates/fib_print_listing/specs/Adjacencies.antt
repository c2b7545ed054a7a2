-- show adj: a line for each Hop end of the chosen paths, usable or not.
use Rattle.std.specs.Prelude.{ℕ, ◌++◌, List, codes, flat_map}
use Rattle.fib_resolve.specs.Resolution.{hop_end}
use Rattle.fib_resolve.specs.Sizes.{adjacencies}
use Rattle.fib_resolve.specs.declared.pairs.Adjacency.{Adjacency}
use Rattle.fib_resolve.specs.declared.types.Tables.{Tables}
use Rattle.fib_print.specs.Ends.{end_text}
use Rattle.fib_print_listing.specs.Order.{in_order, adjacency_before}

abbrev pub adjacency_text : Tables → Adjacency → List ℕ
adjacency_text S x = end_text S (hop_end S x.interface x.next_hop) ++ codes "\n"

-- in order of the interface, then of the next hop
unfoldable pub adjacencies_text : Tables → List ℕ
adjacencies_text S = flat_map (adjacency_text S) (in_order adjacency_before (adjacencies S))
