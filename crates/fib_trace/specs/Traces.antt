-- The loads of a pass as they are told, and as the seat knows them.
use Rattle.std.specs.Prelude.{◌≡◌, ℕ, ◌+◌, ◌*◌, List, reverse, map}
use Rattle.fib_core_results.specs.declared.record.Record.{Record}
use Rattle.fib_core_results.specs.Trails.{AtLeast}
use Rattle.fib_core.specs.Words.{encoded}
use Rattle.fib_core.specs.Trails.{Trail, Follows, result_of}
use Rattle.fib_core_board.specs.Crews.{Seated}
use Rattle.fib_worker.specs.Passes.{passed}
use Rattle.fib_trace.specs.declared.load.Load.{Load}

-- the loads that a pass told, and for how many objects there is room
pub record Trace : Type 0 where
  pub loads : List Load
  pub objects : ℕ

-- a load's cell and the number that was found there
abbrev pub code_of : Load → ℕ × ℕ
code_of l = (16 * l.object + l.slot, encoded l.word)

-- the seat's trail has the newest load first
abbrev pub coded : List Load → List (ℕ × ℕ)
coded loads = reverse (map code_of loads)

-- the past grew by exactly the trail that is told, whose result is the answer. It follows the packet, from no earlier version than was known to one
-- that is known then; and nothing else happened
pub record HasTraced (a h : ℕ) (old new : Seated) (r : Record) (loads : List Load) : Type 0 where
  pub trail : Trail
  pub told : trail.loads ≡ coded loads
  pub follows : Follows a h trail.loads
  pub result : r ≡ result_of trail a h
  pub later : AtLeast old.worker.knows r.lo
  pub order : AtLeast r.lo r.hi
  pub seat : new ≡ record old { worker = passed old.worker trail }
