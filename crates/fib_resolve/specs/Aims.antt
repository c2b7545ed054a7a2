-- What the paths of an entry are for: the end of a packet, or another entry.
use Rattle.std.specs.Prelude.{ℕ, Bool, true, false, not, ◌&&◌, List, map, Option, Some, None, slice_get}
use Rattle.fib_addr.specs.Prefixes.{Prefix, host}
use Rattle.fib_resolve.specs.Pairs.{chosen, cover}
use Rattle.fib_resolve.specs.Loops.{looped}
use Rattle.fib_resolve.specs.Forwarding.{is_up, is_met}
use Rattle.fib_resolve.specs.Buckets.{wanted}
use Rattle.fib_resolve.specs.Resolution.{hop_end, attached_end}
use Rattle.fib_resolve.specs.declared.aims.Aim.{Aim}
use Rattle.fib_resolve.specs.declared.aims.Aim.TheVariants as aims
use Rattle.fib_resolve.specs.declared.aims.Marked.{Marked}
use Rattle.fib_resolve.specs.declared.types.Need.{Need}
use Rattle.fib_resolve.specs.declared.types.Path.{Path}
use Rattle.fib_resolve.specs.declared.types.PathKind.{PathKind}
use Rattle.fib_resolve.specs.declared.types.PathKind.TheVariants as kinds
use Rattle.fib_resolve.specs.declared.types.End.TheVariants as answers
use Rattle.fib_resolve.specs.declared.types.Tables.{Tables}

abbrev pub kind_aim : Tables → Prefix → PathKind → Aim
kind_aim S e kinds.Drop = aims.Ends answers.Drop
kind_aim S e kinds.Local = aims.Ends answers.Receive
kind_aim S e (kinds.Attached i) = aims.Ends (attached_end S e i)
kind_aim S e (kinds.Hop a i) = aims.Ends (hop_end S i a)
kind_aim S e (kinds.Recursive a) = aims.On (host a)
kind_aim S e kinds.Cover = aims.On (cover S e.bits)

-- nowhere is the same as Drop
abbrev pub path_aim : Tables → Prefix → Option Path → Aim
path_aim S e None = aims.Ends answers.Drop
path_aim S e (Some p) = kind_aim S e p.kind

-- what the tables want of the entry's bucket
unfoldable pub aim : Tables → Prefix → ℕ → Aim
aim S e bucket = path_aim S e (slice_get (wanted S e) bucket)

-- the path is usable where the entry that it is aimed at, if there is one, forwards
abbrev pub kind_counts : Tables → Prefix → Need → PathKind → Bool
kind_counts S e need kinds.Drop = false
kind_counts S e need kinds.Local = true
kind_counts S e need (kinds.Attached i) = is_up S i
kind_counts S e need (kinds.Hop a i) = is_up S i
kind_counts S e need (kinds.Recursive a) = not (looped S e a) && is_met S need a
kind_counts S e need kinds.Cover = true

abbrev pub marked : Tables → Prefix → Path → Marked
marked S e p = record { aim = kind_aim S e p.kind; counts = kind_counts S e p.need p.kind; weight = p.weight; preference = p.preference }

-- the chosen list in the form in which the entry is restacked; empty where the prefix is no entry
unfoldable pub marked_list : Tables → Prefix → List Marked
marked_list S e = map (marked S e) (chosen S e)
