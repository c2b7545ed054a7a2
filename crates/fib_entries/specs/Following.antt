-- Why a change of the tables is not made.
use Rattle.std.specs.Prelude.{◌≡◌, ℕ, ◌-◌, ◌^◌, ◌<◌, Some, None, min}
use Rattle.fib_resolve.specs.Edits.{edited}
use Rattle.fib_resolve.specs.Refusals.{first_reason, reasons}
use Rattle.fib_resolve.specs.Sizes.{size}
use Rattle.fib_resolve.specs.declared.types.Edit.{Edit}
use Rattle.fib_resolve.specs.declared.types.Tables.{Tables}
use Rattle.fib_entries.specs.declared.errors.ChangeError.{ChangeError}
use Rattle.fib_entries.specs.declared.errors.ChangeError.TheVariants as errors

-- a size that is above the most that is allowed
pub record IsAbove (most n shown : ℕ) : Type 0 where
  pub above : most < n
  pub told : shown ≡ min n (2 ^ 32 - 1)

-- the first reason of its own; or that it has none, and the size of the tables that it makes; want of memory says nothing
abbrev pub TellsChange : Tables → ℕ → Edit → ChangeError → Type 0
TellsChange S most e (errors.Refused r) = first_reason (reasons S e) ≡ Some r
TellsChange S most e (errors.TooMany n) = (first_reason (reasons S e) ≡ None) × IsAbove most (size (edited S e)) n
TellsChange S most e errors.Memory = Unit {0}
