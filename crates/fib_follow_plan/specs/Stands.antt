-- All of which a plan is made.
use Rattle.std.specs.Prelude.{ℕ, List, Contains}
use Rattle.std.specs.Set.{is_member}
use Rattle.fib_addr.specs.Prefixes.{Prefix, IsPrefix, same_prefix}
use Rattle.fib_reach.specs.Walks.{AllDiffer}
use Rattle.fib_resolve.specs.declared.types.Tables.{Tables}
use Rattle.fib_resolve_changes.specs.Reached.{HoldsTouched}
use Rattle.fib_follow_view.specs.Views.{IsAfter, Seen, is_changed}
use Rattle.fib_follow_view.specs.declared.view.Anew.{Anew}
use Rattle.fib_follow_part.specs.Parts.{AreRanks, IsPart, Part, in_part}
use Rattle.fib_follow_told.specs.Told.{AreBodies, AreEdges}
use Rattle.fib_follow_told.specs.declared.body.Body.{Body}
use Rattle.fib_follow_told.specs.declared.edges.Edges.{Edges}

-- all that a plan is made of, worked out for these tables before and after
pub record IsWorkedOut (v : Seen) (S T : Tables) (p : Part) (numbers : List ℕ) (list : List Prefix) (bs : List Body) (x : Edges) : Type 0 where
  pub after : IsAfter v S T
  pub part : IsPart v S T p
  pub ranks : AreRanks v S T p numbers
  pub once : AllDiffer list
  pub holds : HoldsTouched S T (is_changed v.changed) (in_part p) (is_member same_prefix list)
  pub bodies : AreBodies T list bs
  pub edges : AreEdges S T x
  pub prefixes : (y : Anew) → Contains v.changed y → IsPrefix y.prefix
