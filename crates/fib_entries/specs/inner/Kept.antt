-- What entries keep beside what contracts see. No contract of a public call rests on this.
use Rattle.std.specs.Prelude.{List}
use Rattle.fib_addr.specs.Prefixes.{Prefix}
use Rattle.fib_entries_rows.specs.Known.{PathKept}
use Rattle.fib_entries_rows.specs.Rows.{Row}
use Rattle.fib_entries_rows.specs.inner.Used.{AreUsed}
use Rattle.fib_follow_features.specs.FoundBy.{AreNoted}
use Rattle.fib_follow_features.specs.Holders.{Holders}

-- each list has as many users as rows name it, the set has the rows' prefixes, and each row is found by its features
pub record AreKept (rows : List Row) (lists : List PathKept) (order : List Prefix) (sets : List Holders) : Type 0 where
  pub used : AreUsed rows lists order
  pub noted : AreNoted lists order rows sets
