-- What stands of what is kept of a script.
use Rattle.std.specs.Prelude.{ℕ, ◌+◌, ◌<◌, ◌≤◌, Option, Some, None, length}
use Rattle.std.specs.List.{AllByRecursion}
use Rattle.fib_resolve.specs.Reachable.{IsWritten}
use Rattle.fib_rounds_turns.specs.declared.progress.Batch.{Batch}
use Rattle.fib_rounds_turns.specs.Routers.{Progress}

-- a batch's edits are as lines write them, and fewer than the lines; a line of it, its first, isn't refused
pub record Fits (p : Progress) (b : Batch) : Type 0 where
  pub written : AllByRecursion IsWritten b.edits
  pub few : length b.edits < p.lines
  pub fewer : p.refused < p.lines

-- the same of a batch in which the line stands that was counted last: it may have one edit more, or be refused
pub record FitsLast (p : Progress) (b : Batch) : Type 0 where
  pub written : AllByRecursion IsWritten b.edits
  pub few : length b.edits + 1 < p.lines
  pub fewer : p.refused + 1 < p.lines

abbrev pub AnyFits : Progress → Option Batch → Type 0
AnyFits p None = Unit {0}
AnyFits p (Some b) = Fits p b

pub record IsProgress (p : Progress) : Type 0 where
  pub refused : p.refused ≤ p.lines
  pub batch : AnyFits p p.batch
