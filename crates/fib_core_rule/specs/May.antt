-- What the events ask of the seat that makes them, in the words of its own view. Events that are not here ask nothing. Settling asks
-- `MaySettle` of fib_core_lawful.
use Rattle.std.specs.Prelude.{◌≡◌, ℕ, ◌*◌, ◌+◌, ◌%◌, ◌^◌, ◌<◌, false, length, slice_index_or}
use Rattle.fib_resolve.specs.Tables.{IsSound, fresh}
use Rattle.fib_resolve.specs.declared.types.Tables.{Tables}
use Rattle.fib_union.specs.Unions.{owner}
use Rattle.fib_core.specs.StandsFor.{Stands}
use Rattle.fib_core.specs.Trails.{stands}
use Rattle.fib_core_lawful.specs.State.{Control, Worker}
use Rattle.fib_core_lawful.specs.May.{MayStoreLawfully, HasNext}
use Rattle.fib_core_steady.specs.Rooted.{IsRootedStore}
use Rattle.fib_core_rule.specs.Steady.{MayStoreSteadily}

-- the control plane stores w into the cell k
pub record MayStore (c : Control) (k w : ℕ) : Type 0 where
  -- forms, edges, ends, and a time at which stores are allowed
  pub lawful : MayStoreLawfully c.objects c.union c.log c.desk.out k w
  -- the promise of steady traffic holds before it and after it
  pub steady : MayStoreSteadily c k w
  -- a ply is linked below a linked one, and unlinked as a leaf
  pub rooted : IsRootedStore c.union.cells k w

-- it begins a version with these tables: they are well formed, and at the first change the cells stand for the fresh tables
pub record MayBegin (c : Control) (next : Tables) : Type 0 where
  pub room : HasNext c.log
  pub sound : IsSound next
  pub first : c.log.version.applied ≡ 0 → Stands c.union fresh

-- it sends out a seat with the number that it picked: one of the workers', which isn't out, while there are claims left
pub record MaySend (c : Control) : Type 0 where
  pub known : c.desk.picked < c.workers
  pub home : slice_index_or c.desk.out c.desk.picked false ≡ false
  pub few : length c.gathered < 2 ^ 60

-- a worker starts a pass with an odd number in its pass word, and stops with an even one
abbrev pub MayStart : ℕ → Type 0
MayStart p = p % 2 ≡ 1

abbrev pub MayStop : ℕ → Type 0
MayStop p = p % 2 ≡ 0

-- it comes home at rest
abbrev pub MayComeHome : Worker → Type 0
MayComeHome v = v.walks ≡ false

-- a walking worker loads the cell k of the object where it stands
pub record MayLoad (v : Worker) (k : ℕ) : Type 0 where
  pub walking : v.pass % 2 ≡ 1
  pub inside : k < 16 * v.objects
  pub here : owner k ≡ stands v.trail

-- a worker draws a claim: it has drawn fewer than 2^32 - 1
abbrev pub MayDraw : Worker → Type 0
MayDraw v = length v.claims + 1 < 2 ^ 32
