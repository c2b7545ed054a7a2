-- What stands where all memory of a plan was taken. No contract of a public call rests on this.
use Rattle.std.specs.Prelude.{◌≡◌, ℕ, List, map}
use Rattle.std.specs.List.{AllZip}
use Rattle.fib_addr.specs.Prefixes.{Prefix}
use Rattle.fib_resolve.specs.declared.types.Path.{Path}
use Rattle.fib_entries_rows.specs.Known.{PathKept}
use Rattle.fib_entries_rows.specs.Rows.{Row}
use Rattle.fib_entries_rows.specs.inner.Used.{AreUsed, named_count}
use Rattle.fib_follow_write.specs.Plans.{IsPlan}
use Rattle.fib_follow_write.specs.Steps.{AreTaken}
use Rattle.fib_follow_write.specs.Written.{IsSourced, TakesLists, changed, led, lists_of}
use Rattle.fib_follow_write.specs.inner.Stepped.{HasCome, HasJoined}
use Rattle.fib_follow_write.specs.declared.plan.Paired.{Paired}
use Rattle.fib_follow_write.specs.declared.plan.Sourced.{Sourced}
use Rattle.fib_follow_write.specs.declared.writing.Plan.{Plan}

-- the lists were taken, and the entries have their numbers
pub record AreNumbered (paired : List Paired) (entries : List Sourced) (f : List Path → ℕ) (old new : List PathKept) : Type 0 where
  pub numbered : AllZip (IsSourced new) paired entries
  pub takes : TakesLists (lists_of paired) f old new

pub record IsReady (plan : Plan) (entries : List Sourced) (old new : List Row) (lists later : List PathKept)
    (members order : List Prefix) : Type 0 where
  pub mid : List Row
  pub come : AreTaken HasCome plan.came old mid
  pub made : new ≡ map (changed led plan.edges_in) mid
  pub join : AreTaken HasJoined plan.came members order
  pub taken : AreNumbered plan.paired entries (named_count lists old) lists later

-- it stands so for some rows, lists and members of before
pub record IsToFinish (plan : Plan) (entries : List Sourced) (rows : List Row) (lists : List PathKept) (order : List Prefix) : Type 0 where
  pub old : List Row
  pub before : List PathKept
  pub members : List Prefix
  pub suits : IsPlan old plan
  pub ready : IsReady plan entries old rows before lists members order
  pub used : AreUsed old before members
