-- Who passes beneath a control plane over a plain board, and how far the pass of worker 0 came.
use Rattle.std.specs.Prelude.{◌≡◌, ℕ, ◌<◌, ◌≤◌, Bool, true, false, not, List, Option, Some, None, slice_index, slice_index_or, slice_set}
use Rattle.std.specs.List.{list_any}
use Rattle.fib_resolve.specs.declared.types.End.{End}
use Rattle.fib_core.specs.Walk.{ended}
use Rattle.fib_core.specs.Trails.{IsGoing, place}
use Rattle.fib_core_lawful.specs.State.{left_of}
use Rattle.fib_core_board.specs.Boards.{Board, Pass}
use Rattle.fib_core_plainboard.specs.Passes.{fresh_plain}
use Rattle.fib_control.specs.Controls.{Control}

-- the workers of a board, who of them is out, their pass words at rest, and the passes that run: all that only a pass's own calls change
pub record Seats : Type 0 where
  pub workers : ℕ
  pub out : List Bool
  pub rests : List ℕ
  pub passes : List (Option Pass)

abbrev pub seats_of : Board → Seats
seats_of b = record { workers = b.workers; out = b.out; rests = b.rests; passes = b.passes }

abbrev pub seats_in : Control → Seats
seats_in c = seats_of c.plane.board

-- those over 200 objects and one worker, before any pass
abbrev pub first_seats : Seats
first_seats = seats_of (fresh_plain 200 1)

-- the tables, and what waits for a turn, are as before
pub record IsUnchanged (c d : Control) : Type 0 where
  pub setup : d.setup ≡ c.setup
  pub queue : d.queue ≡ c.queue

-- nobody is out; or nobody but worker 0
abbrev pub IsHome : Seats → Type 0
IsHome s = not (list_any (λ away. away) s.out) ≡ true

abbrev pub IsElseHome : Seats → Type 0
IsElseHome s = not (list_any (λ away. away) (slice_set s.out 0 false)) ≡ true

-- nobody is out, and worker 0 has so many passes left at least
pub record IsRested (n : ℕ) (s : Seats) : Type 0 where
  pub some : 0 < s.workers
  pub home : IsHome s
  pub rests : slice_index_or s.passes 0 None ≡ None
  pub left : n ≤ left_of (slice_index s.rests 0)

-- its pass has this end; with none it is on its way
abbrev pub HasCome : Option End → Seats → Type 0
HasCome None s = (q : Pass) × (slice_index_or s.passes 0 None ≡ Some q) × IsGoing (place q.loads)
HasCome (Some e) s = (q : Pass) × (slice_index_or s.passes 0 None ≡ Some q) × (place q.loads ≡ ended e)

-- worker 0 alone makes a pass, which has come so far; so many passes at least were left to it before
pub record IsHeld (n : ℕ) (e : Option End) (s : Seats) : Type 0 where
  pub some : 0 < s.workers
  pub home : IsElseHome s
  pub left : n ≤ left_of (slice_index s.rests 0)
  pub come : HasCome e s
