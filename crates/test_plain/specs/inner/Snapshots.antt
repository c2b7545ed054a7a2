-- What is kept beside tables is what they mean.
use Rattle.std.specs.Prelude.{◌≡◌, Bool, List, map}
use Rattle.fib_resolve.specs.Pairs.{entries}
use Rattle.fib_resolve.specs.Forwarding.{forwards}
use Rattle.fib_resolve.specs.declared.types.Tables.{Tables}
use Rattle.test_plain.specs.inner.Rows.{rows_of}
use Rattle.test_plain.specs.declared.facts.PathFacts.{PathFacts}

pub record IsSnapshot (S : Tables) (row_list : List (List PathFacts)) (mark_list : List Bool) : Type 0 where
  pub rows_are : row_list ≡ rows_of S
  pub marks_are : mark_list ≡ map (forwards S) (entries S)
