-- What holds of every board at rest, by the rule.
use Rattle.std.specs.Prelude.{◌≡◌, ℕ, ◌+◌, ◌*◌, ◌%◌, ◌^◌, ◌<◌, ◌≤◌, false, length, nat_lt, slice_index, slice_index_or, slice_get, if◌then◌else◌, Some}
use Rattle.std.specs.List.{AllByRecursion}
use Rattle.fib_reach.specs.Walks.{IsAcyclic}
use Rattle.fib_union.specs.Unions as edges
use Rattle.fib_resolve.specs.Tables.{IsSound, fresh}
use Rattle.fib_core.specs.Words.{IsWord}
use Rattle.fib_core.specs.Union.{IsTyped}
use Rattle.fib_core.specs.Trails.{AreLawful}
use Rattle.fib_core_lawful.specs.Lawful.{IsSettled}
use Rattle.fib_core_lawful.specs.Claims.{times}
use Rattle.fib_core_steady.specs.Rooted.{PliesHang}
use Rattle.fib_core_rule.specs.Steady.{AreSteady}
use Rattle.fib_core_board.specs.Boards.{Board, union_of}

-- the program's limits
pub record IsWithinLimits (objects workers : ℕ) : Type 0 where
  pub least : 64 ≤ objects
  pub most : objects ≤ 131072
  pub even : objects % 2 ≡ 0
  pub some : 0 < workers
  pub eight : workers ≤ 8

-- the versions in order, each with its tables, which are well formed
pub record IsHistory (b : Board) : Type 0 where
  pub fits : b.log.version.applied < 2 ^ 32
  pub order : b.log.version.settled ≤ b.log.version.applied
  pub long : length b.log.history ≡ b.log.version.applied + 1
  pub first : slice_get b.log.history 0 ≡ Some fresh
  pub sound : AllByRecursion IsSound b.log.history

-- while nobody is out, the claims are the numbers from 0 on, each drawn once
abbrev pub AreClaims : Board → Type 0
AreClaims b =
    ((n : ℕ) → slice_index_or b.out n false ≡ false)
    → (n : ℕ) → times n b.gathered ≡ (if nat_lt n (length b.gathered) then 1 else 0)

pub record IsBoard (b : Board) : Type 0 where
  pub limits : IsWithinLimits b.objects b.workers
  pub long : length b.union.cells ≡ 16 * b.objects
  -- each cell holds the code of a word
  pub words : (k : ℕ) → IsWord (slice_index b.union.cells k)
  pub history : IsHistory b
  pub typed : IsTyped b.union
  pub acyclic : IsAcyclic (edges.Edge (union_of b))
  pub hangs : PliesHang b.workers b.union
  -- a settled version's cells answer as resolution over its tables
  pub settled : IsSettled b.union b.log
  -- the trails that came home are right
  pub lawful : AreLawful b.log.history b.trails
  pub steady : AreSteady b.log.history b.trails
  pub claims : AreClaims b
