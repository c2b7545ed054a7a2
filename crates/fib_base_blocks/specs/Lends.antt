-- What a list in blocks ends as, where a `&mut` to one of its elements is returned.
use Rattle.std.specs.Prelude.{ℕ, List, slice_set}
use Rattle.std.specs.Borrow.{Lends, Fml, RattleType, MutBor}
use Rattle.fib_base_blocks.specs.contracts.list.Blocks.{the_row}

-- once the borrow r ends, the last value written through it stands at the place
abbrev pub lends_element : (T : RattleType) → MutBor (List T.Denot) → ℕ → MutBor T.Denot → Fml
lends_element T s place r = Lends (the_row T) T s r (slice_set s.now place)
