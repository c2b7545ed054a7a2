-- The reasons against a list of paths. No contract of a public call rests on this.
use Rattle.std.specs.Prelude.{Bool, true, false, List, [], ◌∷◌, length, nat_lt}
use Rattle.fib_resolve.specs.Tables.{is_mixed}
use Rattle.fib_resolve.specs.Refusals.{Reason, when}
use Rattle.fib_resolve.specs.declared.types.Path.{Path}
use Rattle.fib_resolve.specs.declared.types.SpecKind.{SpecKind}
use Rattle.fib_resolve.specs.declared.types.SpecKind.TheVariants as written
use Rattle.fib_resolve.specs.declared.types.Refusal.TheVariants as refusals

-- those of a list that paths are set in
abbrev pub list_reasons : List Path → List Reason
list_reasons ps = when (is_mixed ps) refusals.MixedPaths ∷ when (nat_lt 16 (length ps)) refusals.TooManyPaths ∷ []

abbrev pub writes_drop_or_local : SpecKind → Bool
writes_drop_or_local written.Drop = true
writes_drop_or_local written.Local = true
writes_drop_or_local (written.Attached name) = false
writes_drop_or_local (written.Hop a name) = false
writes_drop_or_local (written.Recursive a) = false
