-- Which edges one side of a change has and the other lacks, by what rows and entries made anew tell. No contract of a public call rests on
-- this.
use Rattle.std.specs.Prelude.{Contains}
use Rattle.fib_addr.specs.Prefixes.{Prefix}
use Rattle.fib_follow_view.specs.Views.{Seen}
use Rattle.fib_follow_view.specs.inner.Told.{next_before, next_in}

abbrev pub Comes : Seen → Prefix → Prefix → Type 0
Comes v e t = Contains (next_in v e) t × (Contains (next_before v e) t → ⊥)

abbrev pub Goes : Seen → Prefix → Prefix → Type 0
Goes v e t = Contains (next_before v e) t × (Contains (next_in v e) t → ⊥)
