-- The usable paths of all entries, and their ends.
use Rattle.std.specs.Prelude.{List, map, filter, flat_map, Option, Some, None}
use Rattle.fib_addr.specs.Prefixes.{Prefix}
use Rattle.fib_resolve.specs.Pairs.{entries, chosen}
use Rattle.fib_resolve.specs.Forwarding.{usable}
use Rattle.fib_resolve.specs.Resolution.{attached_end, hop_end}
use Rattle.fib_resolve.specs.declared.types.End.{End}
use Rattle.fib_resolve.specs.declared.types.End.TheVariants as answers
use Rattle.fib_resolve.specs.declared.types.Path.{Path}
use Rattle.fib_resolve.specs.declared.types.PathKind.{PathKind}
use Rattle.fib_resolve.specs.declared.types.PathKind.TheVariants as kinds
use Rattle.fib_resolve.specs.declared.types.Tables.{Tables}
use Rattle.test_plain.specs.declared.possible.Exit.{Exit}

abbrev pub exit_of : Prefix → Path → Exit
exit_of e p = record { entry = e; kind = p.kind }

abbrev pub exits_of : Tables → Prefix → List Exit
exits_of S e = map (exit_of e) (filter (usable S e) (chosen S e))

abbrev pub exits : Tables → List Exit
exits S = flat_map (exits_of S) (entries S)

abbrev pub end_of : Tables → Prefix → PathKind → Option End
end_of S e kinds.Local = Some answers.Receive
end_of S e (kinds.Attached i) = Some (attached_end S e i)
end_of S e (kinds.Hop a i) = Some (hop_end S i a)
end_of S e kinds.Drop = None
end_of S e (kinds.Recursive a) = None
end_of S e kinds.Cover = None

abbrev pub exit_end : Tables → Exit → Option End
exit_end S x = end_of S x.entry x.kind
