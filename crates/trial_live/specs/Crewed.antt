-- What tests know of a control plane over live cells and of its workers.
use Rattle.std.specs.Prelude.{◌≡◌, ℕ, Bool, false, List, [], replicate}
use Rattle.fib_core_board.specs.Boards.{Board}

-- a board's workers: whose words they share, and who is out
pub record Crew : Type 0 where
  pub id : List ℕ
  pub workers : ℕ
  pub out : List Bool
  pub gathered : List ℕ

abbrev pub crew_of : Board → Crew
crew_of b = record { id = b.id; workers = b.workers; out = b.out; gathered = b.gathered }

-- nobody is out
abbrev pub IsHome : Board → Type 0
IsHome b = b.out ≡ replicate 8 false

-- so many workers, all of them at home, where no claim came yet
abbrev pub manned : ℕ → List ℕ → Crew
manned n id = record { id = id; workers = n; out = replicate 8 false; gathered = [] }

abbrev pub IsManned : ℕ → Board → Type 0
IsManned n b = crew_of b ≡ manned n b.id

-- the same words, and the same workers out
abbrev pub SameCrew : Board → Board → Type 0
SameCrew b c = crew_of c ≡ crew_of b
