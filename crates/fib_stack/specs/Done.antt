-- What a turn and a retry answer.
use Rattle.std.specs.Prelude.{◌≡◌, ◌⊎◌, ℕ, ◌-◌, ◌%◌, ◌^◌, ◌≤◌, true, false, List, length, Option, Some}
use Rattle.fib_addr.specs.Prefixes.{Prefix}
use Rattle.fib_resolve.specs.declared.types.Tables.{Tables}
use Rattle.fib_resolve_changes.specs.Ranks.{has_entry}
use Rattle.fib_stack_ledger.specs.declared.late.Late.{Late}
use Rattle.fib_stack_ledger.specs.Deferred.{late_at, late_count}
use Rattle.fib_core.specs.declared.word.Word.{Word}
use Rattle.fib_plane_view.specs.Stores.{StoresEach}
use Rattle.fib_plane_view.specs.Promise.{Promise}
use Rattle.fib_plane_view.specs.View.{View, Closes}
use Rattle.fib_stack.specs.declared.turn.Turn.{Turn}
use Rattle.fib_stack.specs.declared.turn.Turn.TheVariants as turns
use Rattle.fib_stack.specs.Joined.{Joined, Parts, balance_in, queued_in}
use Rattle.fib_stack.specs.Moments.{Moment, state_at}
use Rattle.fib_stack.specs.Room.{HasRoomLeft, Took}
use Rattle.fib_stack.specs.States.{State}
use Rattle.fib_stack.specs.Steps.{IsLeast, Removed, Retried}
use Rattle.fib_stack.specs.Turns.{HasRun, IsRestacked}

-- a prefix of the least rank was taken
abbrev pub HadItsTurn : Tables → (Prefix → ℕ) → Prefix → State → State → Type 0
HadItsTurn S rank e s t = IsLeast rank s e × (((has_entry S e ≡ true) × IsRestacked S e s t) ⊎ ((has_entry S e ≡ false) × Removed e s t))

-- idle exactly where nothing is queued
abbrev pub TurnDone : Tables → (Prefix → ℕ) → Turn → State → State → Type 0
TurnDone S rank turns.Idle s t = (t ≡ s) × ((d : Prefix) → s.queued d ≡ false)
TurnDone S rank (turns.Restacked e stores dropped) s t = HadItsTurn S rank e s t

-- the turn of an entry has its run of puts, from the plane before it to the plane after it
abbrev pub RunDone : Tables → Turn → View → View → State → Type 0
RunDone S turns.Idle u v t = v ≡ u
RunDone S (turns.Restacked e stores dropped) u v t = has_entry S e ≡ true → HasRun S e u v t

-- the buckets that the turn left deferred are counted
abbrev pub IsCounted : Turn → List Late → Type 0
IsCounted turns.Idle late = Unit {0}
IsCounted (turns.Restacked e stores dropped) late = dropped ≡ late_count (late_at late e) 16

-- and the stores, modulo 2^64
abbrev pub IsStored : Turn → ℕ → ℕ → Type 0
IsStored turns.Idle old new = new ≡ old
IsStored (turns.Restacked e stores dropped) old new = (old ≤ new) × (stores ≡ (new - old) % 2 ^ 64)

-- where an entry was in the prefix table, there are as many stores as cells that differ afterwards, modulo 2^64
abbrev pub StoresDiffering : Tables → Turn → (Prefix → Option ℕ) → View → View → Type 0
StoresDiffering S turns.Idle balances u v = Unit {0}
StoresDiffering S (turns.Restacked e stores dropped) balances u v =
    has_entry S e ≡ true → (o : ℕ) → balances e ≡ Some o
    → (all : StoresEach (λ x k. Unit {0}) u v) × (stores ≡ length all.cells % 2 ^ 64)

-- what a turn did, from one moment to another
pub record IsTurnDone (S : Tables) (rank : Prefix → ℕ) (turn : Turn) (m n : Moment) : Type 0 where
  pub state : TurnDone S rank turn (state_at m) (state_at n)
  pub run : RunDone S turn m.view n.view (state_at n)
  pub dropped : IsCounted turn n.parts.late
  pub stores : IsStored turn m.view.stored n.view.stored
  pub exact : StoresDiffering S turn (balance_in m.parts) m.view n.view

-- where room was left for objects it is left still, and what was taken was made
pub record LeavesRoom (S : Tables) (m n : Moment) : Type 0 where
  pub left : HasRoomLeft S m.view.free (state_at m) → HasRoomLeft S n.view.free (state_at n)
  pub takes : Took S (state_at m) (state_at n) m.view.free n.view.free

-- what stands after a turn, done or not: all stands joined; where room was left no object is lacking, and room is left
pub record LeavesAll (S : Tables) (rank : Prefix → ℕ) (p : Promise) (lacks : Type 0) (m n : Moment) : Type 0 where
  pub joined : Joined S rank p n.view n.parts
  pub finds : HasRoomLeft S m.view.free (state_at m) → lacks → ⊥
  pub room : LeavesRoom S m n

-- what a retry did: deferred words may have been stored, and all stands joined still
pub record IsRetryDone (S : Tables) (rank : Prefix → ℕ) (p : Promise) (m n : Moment) : Type 0 where
  pub retried : Retried (state_at m) (state_at n)
  pub joined : Joined S rank p n.view n.parts

-- why a bucket stays deferred: its prefix is queued, or the edge that it wants closes a cycle
abbrev pub StaysLate : View → Parts → Prefix → Word → Type 0
StaysLate v s e w = (queued_in s e ≡ true) ⊎ ((o : ℕ) × (balance_in s e ≡ Some o) × Closes v o w)
