-- Steady traffic as a list of parts, for one choice of names: a packet that no change from settled to applied touches keeps its answer.
--
-- Before the first change nothing is promised: no cell is stored while a worker is out, so what a pass loaded is what its cells hold.
use Rattle.std.specs.Prelude.{◌≡◌, ℕ, ◌<◌, List}
use Rattle.std.specs.List.{AllByRecursion}
use Rattle.fib_resolve.specs.Tables.{IsSound}
use Rattle.fib_resolve.specs.declared.types.Tables.{Tables}
use Rattle.fib_core.specs.Trails.{Trail, finished}
use Rattle.fib_core_lawful.specs.State.{Log, Control, Worker, stored_union}
use Rattle.fib_core_lawful.specs.Frame.{Parts}
use Rattle.fib_core_steady.specs.Names.{Names}
use Rattle.fib_core_steady.specs.Promise.{IsPromised}
use Rattle.fib_core_steady.specs.Undisturbed.{since, IsUndisturbed, IsCurrent, IsSteadyTrail}

-- the versions from settled to applied
abbrev pub versions : Log → List Tables
versions l = since l.history l.version.settled

-- from the first change on
abbrev pub IsBegun : Log → Type 0
IsBegun l = 0 < l.version.applied

abbrev pub AreSteady : List Tables → List Trail → Type 0
AreSteady H ts = AllByRecursion (IsSteadyTrail H) ts

-- the tables are well formed, and the cells hold what all versions from settled to applied want alike
pub record SteadyControl (n : Names) (c : Control) : Type 0 where
  pub sound : AllByRecursion IsSound c.log.history
  pub promised : IsBegun c.log → IsPromised (versions c.log) n c.union
  pub home : AreSteady c.log.history c.home

-- a running pass is where its packet's way leads, as long as that is one way in all versions that it spans
pub record SteadyWorker (n : Names) (c : Control) (w : Worker) : Type 0 where
  pub undisturbed : IsBegun c.log → IsUndisturbed c.log.history n.balance c.union.cells w.lo.settled w.trail
  pub current : c.log.version.applied ≡ 0 → IsCurrent c.union.cells w.trail
  pub done : AreSteady c.log.history (finished w.lo w.trail w.hi)
  pub past : AreSteady c.log.history w.past

abbrev pub steady : Names → Parts
steady n = record {
  of_control = λ words c. SteadyControl n c;
  of_worker = λ words c w. SteadyWorker n c w;
  of_note = λ words c v. Unit {0};
}

-- what a store asks for it: there are names for which the promise holds before it and after it
abbrev pub MayStoreSteadily : Control → ℕ → ℕ → Type 0
MayStoreSteadily c k w =
    IsBegun c.log → (n : Names) × IsPromised (versions c.log) n c.union × IsPromised (versions c.log) n (stored_union c k w)
