-- Workers that were in threads are of the same words.
use Rattle.std.proofs.Common.{ℕ, List, Option, Some, None, ◌∙◌}
use Rattle.fib_core_board.specs.Crews.{Seated}
use Rattle.test_workers.specs.Homes.{IsOf}
use Rattle.test_live.specs.Stays.{StaysOf}

pub stays_of : (id : List ℕ) (o p : Option Seated) → StaysOf o p → IsOf id o → IsOf id p
stays_of id None None stays is = tt
stays_of id None (Some w) stays is = absurd stays
stays_of id (Some v) None stays is = tt
stays_of id (Some v) (Some w) stays is = stays ∙ is
