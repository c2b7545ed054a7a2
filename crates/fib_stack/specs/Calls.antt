-- The calls of a plane that an entry's turn makes beside its sixteen puts.
use Rattle.std.specs.Prelude.{◌⊎◌, ℕ}
use Rattle.fib_reach.specs.Walks.{Leads}
use Rattle.fib_pool.specs.declared.object.AdjacencyRecord.{AdjacencyRecord}
use Rattle.fib_pool.specs.declared.object.Kind.TheVariants as kinds
use Rattle.fib_plane_view.specs.View.{View, GaveRecord, HasRoom, IsTaken, TookRecord}
use Rattle.fib_ply.specs.Calls.{IsCall}

-- room is made, a record gets a user more, or a balance is taken
abbrev pub IsTaking : View → View → Type 0
IsTaking u v = HasRoom u v ⊎ (((m : AdjacencyRecord) × (x : ℕ) × TookRecord u v m x) ⊎ ((c : ℕ) × IsTaken u v kinds.Balance c))

-- a record loses a user, or the prefix table makes a call
abbrev pub IsGiving : View → View → Type 0
IsGiving u v = ((m : AdjacencyRecord) × GaveRecord u v m) ⊎ IsCall u v

-- such calls alone lead from one view to the other
abbrev pub TakesOnly : View → View → Type 0
TakesOnly u v = Leads IsTaking u v

abbrev pub GivesOnly : View → View → Type 0
GivesOnly u v = Leads IsGiving u v
