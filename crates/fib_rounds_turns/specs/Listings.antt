-- The text of each of the three listings.
use Rattle.std.specs.Prelude.{ℕ, List}
use Rattle.fib_resolve.specs.declared.types.Tables.{Tables}
use Rattle.fib_print_listing.specs.Entries.{fib_text}
use Rattle.fib_print_listing.specs.PathLists.{lists_text}
use Rattle.fib_print_listing.specs.Adjacencies.{adjacencies_text}
use Rattle.fib_rounds_turns.specs.declared.turn.Listing.{Listing}
use Rattle.fib_rounds_turns.specs.declared.turn.Listing.TheVariants as listings

abbrev pub listing_text : Listing → Tables → List ℕ
listing_text listings.Entries S = fib_text S
listing_text listings.PathLists S = lists_text S
listing_text listings.Adjacencies S = adjacencies_text S
