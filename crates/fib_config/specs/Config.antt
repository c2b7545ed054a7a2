-- What a configuration is, and how its edits fail.
use Rattle.std.specs.Prelude.{◌≡◌, ℕ, ◌<◌, ◌^◌, ◌-◌, Option, Some, Result, Err}
use Rattle.fib_resolve.specs.Tables.{IsSound}
use Rattle.fib_resolve.specs.Refusals.{FirstRefused}
use Rattle.fib_resolve.specs.declared.types.Tables.{Tables}
use Rattle.fib_resolve.specs.declared.types.Refusal.{Refusal}
use Rattle.fib_config.specs.declared.errors.EditError.{EditError}
use Rattle.fib_config.specs.declared.errors.EditError.TheVariants as edit_errors
use Rattle.fib_config.specs.declared.errors.BatchError.{BatchError}
use Rattle.fib_config.specs.declared.errors.BatchError.TheVariants as batch_errors

-- tables, and the most objects that they may take
pub record Setup : Type 0 where
  pub tables : Tables
  pub room : ℕ

pub record IsFine (c : Setup) : Type 0 where
  pub sound : IsSound c.tables
  pub room : c.room < 2 ^ 32 - 1

-- the error says why the edit is refused, unless memory ran out
abbrev pub TellsRefusal : Option Refusal → EditError → Type 0
TellsRefusal why (edit_errors.Refused refusal) = why ≡ Some refusal
TellsRefusal why edit_errors.Memory = Unit {0}

-- the error says which edit is the first refused one, and why, unless memory ran out
abbrev pub TellsFirstRefused : Result Tables FirstRefused → BatchError → Type 0
TellsFirstRefused made (batch_errors.Refused place refusal) = made ≡ Err (record { place = place; refusal = refusal })
TellsFirstRefused made batch_errors.Memory = Unit {0}
