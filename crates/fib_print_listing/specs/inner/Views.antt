-- What a view of tables holds. No contract of a public call rests on this.
use Rattle.std.specs.Prelude.{ℕ, List}
use Rattle.fib_addr.specs.Prefixes.{Prefix}
use Rattle.fib_resolve.specs.declared.types.FibSource.{FibSource}
use Rattle.fib_resolve.specs.declared.types.Tables.{Tables}
use Rattle.fib_entries_rows.specs.Known.{Known, StandsFor}
use Rattle.fib_print_listing.specs.inner.Forwards.{AreForwarding}

abbrev pub source_in : FibSource × ℕ → FibSource
source_in p = p.0

pub record IsView (S : Tables) (v : Known) (ks : List Prefix) : Type 0 where
  pub stands : StandsFor v S
  pub forwarding : AreForwarding S ks
