-- What the calls of a worker make of its seat.
use Rattle.std.specs.Prelude.{◌≡◌, ℕ, ◌+◌, ◌<◌, true, false, List, [], ◌∷◌, ◌++◌, length, None}
use Rattle.std.specs.List.{AllByRecursion}
use Rattle.fib_reach.specs.Walks.{AllDiffer}
use Rattle.fib_core_results.specs.declared.record.Record.{Record}
use Rattle.fib_core_results.specs.declared.record.Version.{Version}
use Rattle.fib_core_results.specs.Trails.{AtLeast}
use Rattle.fib_core.specs.Words.{goes}
use Rattle.fib_core.specs.Walk.{Place, ply, balance, adjacency, ended}
use Rattle.fib_core.specs.Trails.{Load, Trail, Follows, place, result_of, visited}
use Rattle.fib_core_lawful.specs.State.{Worker, lo_at}
use Rattle.fib_core_board.specs.Crews.{Seated}
use Rattle.fib_cells.specs.Seats.{seat_started, seat_learned, seat_stopped}

-- a pass that runs: its seat, its packet, the version as it began, and the hops since
pub record Passing : Type 0 where
  pub seat : Seated
  pub addr : ℕ
  pub hash : ℕ
  pub lo : Version
  pub hops : ℕ

-- the seat started, and loaded the version before any cell, once: it is no earlier than what was known
pub record HasBegun (a h : ℕ) (old : Seated) (p : Passing) : Type 0 where
  pub seat : p.seat ≡ seat_learned (seat_started old) p.lo
  pub once : p.seat.worker.version_loads ≡ old.worker.version_loads + 1
  pub later : AtLeast old.worker.knows p.lo
  pub addr : p.addr ≡ a
  pub hash : p.hash ≡ h
  pub hops : p.hops ≡ 0

-- one load of a ply's or a balance's cell, or three of an adjacency's
abbrev pub loads_at : Place → ℕ
loads_at (ply o d) = 1
loads_at (balance o n) = 1
loads_at (adjacency o read) = 3
loads_at (ended e) = 0

-- these loads were made, the newest first
abbrev pub hopped_by : Worker → List Load → Worker
hopped_by v loads = record v { lo = lo_at v.trail v.lo v.knows; trail = loads ++ v.trail; hi = None }

-- they are the next of the packet's walk
pub record HasHopped (a h : ℕ) (old new : Worker) : Type 0 where
  pub loads : List Load
  pub count : length loads ≡ loads_at (place old.trail)
  pub known : new ≡ hopped_by old loads
  pub follows : Follows a h new.trail

pub record IsHop (old new : Passing) : Type 0 where
  pub id : new.seat.id ≡ old.seat.id
  pub hopped : HasHopped old.addr old.hash old.seat.worker new.seat.worker
  -- no object that the pass has visited comes twice, and each is one
  pub apart : AllDiffer (visited new.seat.worker.trail)
  pub below : AllByRecursion (λ o. o < new.seat.worker.objects) (visited new.seat.worker.trail)
  pub addr : new.addr ≡ old.addr
  pub hash : new.hash ≡ old.hash
  pub lo : new.lo ≡ old.lo
  pub hops : new.hops ≡ old.hops + 1

-- the last of these loads was of an edge
abbrev pub FoundEdge : List Load → Type 0
FoundEdge [] = ⊥
FoundEdge (l ∷ t) = goes l.1 ≡ true

-- the trail of a pass that loaded this version last
abbrev pub trail_of : Passing → Version → Trail
trail_of d hi = record { lo = d.lo; loads = d.seat.worker.trail; hi = hi }

-- the seat loaded the version, once, and stopped: its past is longer by that trail, whose result for the packet is the answer
pub record HasEnded (d : Passing) (new : Seated) (r : Record) : Type 0 where
  pub follows : Follows d.addr d.hash d.seat.worker.trail
  pub result : r ≡ result_of (trail_of d r.hi) d.addr d.hash
  pub order : AtLeast r.lo r.hi
  pub seat : new ≡ seat_stopped (seat_learned d.seat r.hi)
  pub once : new.worker.version_loads ≡ d.seat.worker.version_loads + 1
  pub past : new.worker.past ≡ d.seat.worker.past ++ trail_of d r.hi ∷ []

-- what a seat knows after a whole pass with that trail: two loads of the version, before the first cell and after the last
abbrev pub passed : Worker → Trail → Worker
passed v t = record v {
  pass = v.pass + 2;
  walks = false;
  version_loads = v.version_loads + 2;
  knows = t.hi;
  lo = t.lo;
  trail = [];
  hi = None;
  past = v.past ++ t ∷ [];
}

-- the past grew by exactly the trail whose result is the answer. It follows the packet, from no earlier version than was known to one that is known
-- then; and nothing else happened
pub record HasForwarded (a h : ℕ) (old new : Seated) (r : Record) : Type 0 where
  pub trail : Trail
  pub follows : Follows a h trail.loads
  pub result : r ≡ result_of trail a h
  pub later : AtLeast old.worker.knows r.lo
  pub order : AtLeast r.lo r.hi
  pub seat : new ≡ record old { worker = passed old.worker trail }
