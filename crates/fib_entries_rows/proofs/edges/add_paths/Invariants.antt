use Rattle.std.proofs.Common.{◌≡◌, Some, take, slice_get}
use Rattle.fib_addr.specs.Prefixes.{Prefix}
use Rattle.fib_entries_rows.specs.inner.Edges.{AddsPaths}
use Rattle.fib_entries_rows.proofs.edges.add_paths.Given as goal

abbrev pub invariant-loop-p : goal.invariant-loop-p
invariant-loop-p l = (e : Prefix) → slice_get l.order l.from ≡ Some e → AddsPaths l.meaning l.order l.from e (take l.p-index l.p-items) l.fn.out.items l.out.items
