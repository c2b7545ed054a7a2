-- The tables that unrefused edits give.
use Rattle.std.specs.Prelude.{◌≡◌, ◌≤◌, ◌<◌, ℕ, List, [], ◌∷◌, length, None}
use Rattle.std.specs.List.{AllByRecursion}
use Rattle.fib_resolve.specs.Tables.{fresh}
use Rattle.fib_resolve.specs.Edits.{edited}
use Rattle.fib_resolve.specs.Refusals.{refused}
use Rattle.fib_resolve.specs.declared.types.Need.TheVariants as needs
use Rattle.fib_resolve.specs.declared.types.PathSpec.{PathSpec}
use Rattle.fib_resolve.specs.declared.types.SpecKind.{SpecKind}
use Rattle.fib_resolve.specs.declared.types.SpecKind.TheVariants as written
use Rattle.fib_resolve.specs.declared.types.Need.{Need}
use Rattle.fib_resolve.specs.declared.types.Tables.{Tables}
use Rattle.fib_resolve.specs.declared.types.Edit.{Edit}
use Rattle.fib_resolve.specs.declared.types.Edit.TheVariants as edits

-- only a recursive path is written with a need
abbrev pub WritesNeed : Need → SpecKind → Type 0
WritesNeed need (written.Recursive a) = Unit {0}
WritesNeed need written.Drop = need ≡ needs.Any
WritesNeed need written.Local = need ≡ needs.Any
WritesNeed need (written.Attached name) = need ≡ needs.Any
WritesNeed need (written.Hop a name) = need ≡ needs.Any

pub record IsWrittenPath (spec : PathSpec) : Type 0 where
  pub weighted : 0 < spec.weight
  pub need : WritesNeed spec.need spec.kind

-- what the grammar of lines gives of every edit: lengths are at most 32, weights at least 1, only recursive paths have needs, and a
-- route is added with at least one path
abbrev pub IsWritten : Edit → Type 0
IsWritten (edits.AddAddress name addr len) = len ≤ 32
IsWritten (edits.DelAddress name addr len) = len ≤ 32
IsWritten (edits.CreateInterface name) = Unit {0}
IsWritten (edits.SetState name up) = Unit {0}
IsWritten (edits.SetNeighbor name addr mac) = Unit {0}
IsWritten (edits.DelNeighbor name addr) = Unit {0}
IsWritten (edits.AddRoute prefix api specs) = (0 < length specs) × AllByRecursion IsWrittenPath specs
IsWritten (edits.DelRoute prefix api specs) = AllByRecursion IsWrittenPath specs

-- the most objects that tables may take anywhere
abbrev pub most_objects : ℕ
most_objects = 4294967294

abbrev pub edited_all : Tables → List Edit → Tables
edited_all S [] = S
edited_all S (e ∷ es) = edited_all (edited S e) es

-- each is as written, and none is refused on the tables that those before it give
abbrev pub NoneRefused : Tables → List Edit → Type 0
NoneRefused S [] = Unit {0}
NoneRefused S (e ∷ es) = IsWritten e × (refused S most_objects e ≡ None) × NoneRefused (edited S e) es

-- some list of such edits gives them
abbrev pub IsReachable : Tables → Type 0
IsReachable S = (list : List Edit) × NoneRefused fresh list × (edited_all fresh list ≡ S)
