-- Ranks by places. No contract of a public call rests on this.
use Rattle.std.specs.Prelude.{◌≡◌, ◌<◌, ◌+◌, ℕ, nat_lt, Bool, false, List, map, Contains, Option, Some, None, slice_get}
use Rattle.fib_addr.specs.Prefixes.{Prefix}
use Rattle.fib_entries_rows.specs.Known.{rank_of}
use Rattle.fib_follow_view.specs.Views.{Seen}

abbrev pub falls_at : Option ℕ → Option ℕ → Bool
falls_at None to = false
falls_at (Some a) None = false
falls_at (Some a) (Some b) = nat_lt b a

-- the rank falls along the edge
abbrev pub does_fall : List ℕ → ℕ × ℕ → Bool
does_fall ranks d = falls_at (slice_get ranks d.0) (slice_get ranks d.1)

-- the numbers above a base, all below these ranks
pub record IsBlock (ranks numbers block : List ℕ) : Type 0 where
  pub base : ℕ
  pub made : block ≡ map (λ n. base + n) numbers
  pub low : (n m : ℕ) → Contains block n → Contains ranks m → n < m

abbrev pub below_at : ℕ → Option ℕ → Bool
below_at had None = false
below_at had (Some a) = nat_lt had a

-- the rank falls along an edge that leaves the part
abbrev pub leaves_below : Seen → List ℕ → ℕ × Prefix → Bool
leaves_below v ranks d = below_at (rank_of v.before.rows d.1) (slice_get ranks d.0)
