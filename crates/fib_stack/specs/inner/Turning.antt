-- What the steps of a turn may count on, and what they leave.
use Rattle.std.specs.Prelude.{◌≡◌, ℕ, true, Some}
use Rattle.fib_addr.specs.Prefixes.{Prefix}
use Rattle.fib_resolve.specs.declared.types.Tables.{Tables}
use Rattle.fib_resolve_changes.specs.Ranks.{has_entry}
use Rattle.fib_entries_rows.specs.Known.{Known, StandsFor, rank_of}
use Rattle.fib_plane_view.specs.Promise.{Promise}
use Rattle.fib_plane_view.specs.Stores.{StoresEach}
use Rattle.fib_stack.specs.Done.{HadItsTurn}
use Rattle.fib_stack.specs.Joined.{Joined, balance_in}
use Rattle.fib_stack.specs.Moments.{Moment, state_at}
use Rattle.fib_stack.specs.Steps.{IsLeast}
use Rattle.fib_stack.specs.Turns.{HasRun, IsRestacked}

-- all stands joined, and the prefix is queued under the least rank
pub record IsNext (S : Tables) (rank : Prefix → ℕ) (p : Promise) (m : Moment) (e : Prefix) : Type 0 where
  pub joined : Joined S rank p m.view m.parts
  pub least : IsLeast rank (state_at m) e

-- and it is an entry
pub record IsTurnOf (S : Tables) (rank : Prefix → ℕ) (p : Promise) (m : Moment) (e : Prefix) : Type 0 where
  pub joined : Joined S rank p m.view m.parts
  pub least : IsLeast rank (state_at m) e
  pub effective : has_entry S e ≡ true

-- this holds of any tables for which the entries stand
abbrev pub ForTables : Known → (Tables → Type 0) → Type 0
ForTables k P = (S : Tables) → StandsFor k S → P S

-- this holds of those with which, under the ranks that are known, the turn is this prefix's
abbrev pub FromNext : Known → Promise → Moment → Prefix → (Tables → (Prefix → ℕ) → Type 0) → Type 0
FromNext k p m e P = (S : Tables) → StandsFor k S → IsNext S (rank_of k.rows) p m e → P S (rank_of k.rows)

-- or this entry's
abbrev pub FromTurn : Known → Promise → Moment → Prefix → (Tables → (Prefix → ℕ) → Type 0) → Type 0
FromTurn k p m e P = (S : Tables) → StandsFor k S → IsTurnOf S (rank_of k.rows) p m e → P S (rank_of k.rows)

-- an entry had its turn: by a run of puts, which store each cell that differs once where it was in the prefix table
pub record EntryTurned (S : Tables) (e : Prefix) (m n : Moment) : Type 0 where
  pub restacked : IsRestacked S e (state_at m) (state_at n)
  pub run : HasRun S e m.view n.view (state_at n)
  pub exact : (o : ℕ) → balance_in m.parts e ≡ Some o → StoresEach (λ x k. Unit {0}) m.view n.view

-- a prefix had its turn, as one that left or as an entry
pub record PrefixTurned (S : Tables) (rank : Prefix → ℕ) (e : Prefix) (m n : Moment) : Type 0 where
  pub turn : HadItsTurn S rank e (state_at m) (state_at n)
  pub run : has_entry S e ≡ true → HasRun S e m.view n.view (state_at n)
  pub exact : has_entry S e ≡ true → (o : ℕ) → balance_in m.parts e ≡ Some o → StoresEach (λ x k. Unit {0}) m.view n.view
