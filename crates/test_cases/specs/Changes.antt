-- What a script changes.
use Rattle.std.specs.Prelude.{◌<◌, ◌^◌, length}
use Rattle.std.specs.List.{AllByRecursion}
use Rattle.fib_resolve.specs.Reachable.{IsWritten}
use Rattle.test_cases.specs.declared.changing.Change.{Change}
use Rattle.test_cases.specs.declared.changing.Change.TheVariants as changes

-- a line can write each of its edits, and there are few
abbrev pub AreWritten : Change → Type 0
AreWritten (changes.One e) = IsWritten e
AreWritten (changes.Batch es) = AllByRecursion IsWritten es.items × (length es.items < 2 ^ 32)
