-- Seats on the counters, as contracts see them.
use Rattle.std.specs.Prelude.{ℕ, ◌∷◌, Bool, List}
use Rattle.atomic_table.specs.Seated.{TableId}
use Rattle.fib_counts.specs.Counts.{Tally}
use Rattle.fib_counts.specs.declared.keeper.Counters.{Counters}

-- which words a table has: what no other table shares with it
abbrev pub id_of : TableId → List ℕ
id_of z = z.words ∷ z.slots ∷ z.views_name ∷ z.atom ∷ z.block ∷ z.offset ∷ z.slot_names

abbrev pub id_in : Counters → List ℕ
id_in counters = id_of counters.words.shared.table_id

-- the keeper: which numbers are out, and the words that came home, one for each count
pub record Keeping : Type 0 where
  pub id : List ℕ
  pub out : List Bool
  pub tally : List ℕ

-- a seat: its number, and the words that it counted, in order
pub record Counting : Type 0 where
  pub id : List ℕ
  pub tally : Tally
