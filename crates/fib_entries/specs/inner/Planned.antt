-- A change that was worked out, and what is to be written of it. No contract of a public call rests on this.
use Rattle.std.specs.Prelude.{◌≡◌, ◌-◌, ◌^◌, ℕ, List, map, min}
use Rattle.fib_addr.specs.Prefixes.{Prefix}
use Rattle.fib_resolve.specs.Sizes.{size}
use Rattle.fib_resolve.specs.declared.types.Tables.{Tables}
use Rattle.fib_resolve_changes.specs.Differ.{Differ}
use Rattle.fib_resolve_changes.specs.declared.change.Change.{Change}
use Rattle.fib_entries_rows.specs.Known.{Known, StandsFor, prefix_of}
use Rattle.fib_follow_view.specs.Views.{Seen}
use Rattle.fib_follow_part.specs.Parts.{Part}
use Rattle.fib_follow_features.specs.FoundBy.{AreNoted}
use Rattle.fib_follow_features.specs.Holders.{Holders}
use Rattle.fib_follow_looked.specs.Looks.{AreAllLooked, AreHops, AreShorts}
use Rattle.fib_follow_told.specs.Told.{IsTold}
use Rattle.fib_follow_told.specs.declared.body.Body.{Body}
use Rattle.fib_follow_told.specs.declared.edges.Edges.{Edges}
use Rattle.fib_follow_write.specs.Plans.{IsPlan, IsWritten}
use Rattle.fib_follow_write.specs.declared.writing.Plan.{Plan}
use Rattle.fib_follow_plan.specs.Made.{plan_of}
use Rattle.fib_follow_plan.specs.Noted.{AreTold}
use Rattle.fib_follow_plan.specs.Stands.{IsWorkedOut}
use Rattle.fib_entries.specs.declared.steps.Looked.{Looked}
use Rattle.fib_entries.specs.declared.steps.Planned.{Planned}

-- these are tables before: the entries stand for them, and they differ from those after at most where the changes say
pub record IsFrom (v : Known) (list : List Change) (S T : Tables) : Type 0 where
  pub stands : StandsFor v S
  pub differ : Differ list S T

abbrev pub AreRowsNoted : Known → List Holders → Type 0
AreRowsNoted v sets = AreNoted v.lists (map prefix_of v.rows) v.rows sets

-- all are looked at that have to be, and what is known around them
pub record IsAround (list : List Change) (S T : Tables) (x : Looked) : Type 0 where
  pub shorts : AreShorts S T x.around.shorts
  pub hops : AreHops T x.prefixes x.around.hops
  pub all : AreAllLooked list S T x.prefixes

abbrev pub IsSize : Tables → ℕ → Type 0
IsSize T objects = objects ≡ min (size T) (2 ^ 32 - 1)

-- all of which the plan is made was worked out for these tables
pub record IsMadeFor (v : Seen) (S T : Tables) (x : Planned) : Type 0 where
  pub part : Part
  pub ranks : List ℕ
  pub list : List Prefix
  pub bodies : List Body
  pub edges : Edges
  pub made : x.plan ≡ plan_of v part ranks bodies edges
  pub works : IsWorkedOut v S T part ranks list bodies edges
  pub told : IsTold v S T part ranks x.followed

-- what is noted of a plan is all that has to be
abbrev pub IsRenoted : Known → Planned → Type 0
IsRenoted v x = AreTold v.rows v.lists (map prefix_of v.rows) x.plan x.renoted.items

-- the plan suits the rows of before, what is noted of it is all that has to be, and it was worked out for all tables before
pub record IsPlanned (v : Known) (list : List Change) (T : Tables) (x : Planned) : Type 0 where
  pub suits : IsPlan v.rows x.plan
  pub noted : IsRenoted v x
  pub works : (S : Tables) → IsFrom v list S T → (w : Seen) × (w.before ≡ v) × IsMadeFor w S T x
  pub sized : (S : Tables) → IsFrom v list S T → IsSize T x.objects

-- the plan was written into rows and lists
pub record HasWritten (plan : Plan) (v w : Known) : Type 0 where
  pub after : List Prefix
  pub written : IsWritten plan v.rows w.rows v.lists w.lists after
  pub objects : w.objects ≡ v.objects
