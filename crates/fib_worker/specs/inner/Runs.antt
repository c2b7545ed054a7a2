-- How the fields of a pass and the view of its seat belong together.
use Rattle.std.specs.Prelude.{◌≡◌, ℕ, suc, ◌+◌, ◌-◌, ◌≤◌, length}
use Rattle.fib_resolve.specs.declared.types.End.{End}
use Rattle.fib_core_results.specs.declared.record.Version.{Version}
use Rattle.fib_core.specs.Walk.{ended}
use Rattle.fib_core.specs.Trails.{visited, place, Follows, IsSoundTrail}
use Rattle.fib_core_lawful.specs.State.{Worker, lo_at}
use Rattle.fib_core.specs.declared.stage.Stage.{Stage}
use Rattle.fib_core.specs.declared.stage.Stage.TheVariants as stages
use Rattle.fib_core.specs.Stages.{StandsAt}

abbrev pub IsOn : Stage → Type 0
IsOn (stages.Ply o d) = Unit {0}
IsOn (stages.Balance o left) = Unit {0}
IsOn (stages.Adjacency o) = Unit {0}
IsOn (stages.Ended e) = ⊥

-- a walking seat at a stage of its packet's walk, which may be its end
pub record IsUnderWay (a h : ℕ) (v : Worker) (s : Stage) : Type 0 where
  pub follows : Follows a h v.trail
  pub at : StandsAt h (place v.trail) s
  pub sound : IsSoundTrail v.objects v.trail

-- what is left of the walk at most: one more than the objects not yet visited, or nothing
abbrev pub rest_in : Worker → Stage → ℕ
rest_in v (stages.Ended e) = 0
rest_in v (stages.Ply o d) = suc (v.objects - length (visited v.trail))
rest_in v (stages.Balance o left) = suc (v.objects - length (visited v.trail))
rest_in v (stages.Adjacency o) = suc (v.objects - length (visited v.trail))

-- a walking seat at a stage of its packet's walk
pub record IsRunning (a h : ℕ) (v : Worker) (s : Stage) : Type 0 where
  pub follows : Follows a h v.trail
  pub at : StandsAt h (place v.trail) s
  pub on : IsOn s
  pub sound : IsSoundTrail v.objects v.trail

-- with the version that it knew at its first load, and so many hops behind it
pub record IsOnItsWay (a h : ℕ) (v : Worker) (s : Stage) (lo : Version) (hops : ℕ) : Type 0 where
  pub running : IsRunning a h v s
  pub low : lo_at v.trail v.lo v.knows ≡ lo
  pub knows : v.knows ≡ lo
  pub few : v.objects ≤ 131072
  pub count : hops + 1 ≡ length (visited v.trail)

pub record IsAtItsEnd (a h : ℕ) (v : Worker) (e : End) (lo : Version) (hops : ℕ) : Type 0 where
  pub follows : Follows a h v.trail
  pub at : place v.trail ≡ ended e
  pub low : lo_at v.trail v.lo v.knows ≡ lo
  pub knows : v.knows ≡ lo
  pub few : hops ≤ v.objects

-- only the running trail changed, and it is longer
pub record WithTrail (old new : Worker) : Type 0 where
  pub objects : new.objects ≡ old.objects
  pub number : new.number ≡ old.number
  pub pass : new.pass ≡ old.pass
  pub version_loads : new.version_loads ≡ old.version_loads
  pub knows : new.knows ≡ old.knows
  pub past : new.past ≡ old.past
  pub claims : new.claims ≡ old.claims
  pub lo : lo_at new.trail new.lo new.knows ≡ lo_at old.trail old.lo old.knows

-- it has its end, or stands on one object more
abbrev pub Nears : Worker → Worker → Stage → Type 0
Nears old new (stages.Ended e) = Unit {0}
Nears old new (stages.Ply o d) = length (visited new.trail) ≡ suc (length (visited old.trail))
Nears old new (stages.Balance o left) = length (visited new.trail) ≡ suc (length (visited old.trail))
Nears old new (stages.Adjacency o) = length (visited new.trail) ≡ suc (length (visited old.trail))
