-- The orders of sources and paths, as numbers, and tests of equality.
use Rattle.std.specs.Prelude.{ℕ, Bool, true, false, ◌==◌, ◌&&◌, nat_lt}
use Rattle.std.specs.declared.cmp.Ordering.{Ordering}
use Rattle.std.specs.Ordering.{is_lt, nat_cmp, ordering_then}
use Rattle.fib_resolve.specs.declared.keys.Key.{Key}
use Rattle.fib_resolve.specs.declared.types.Path.{Path}
use Rattle.fib_resolve.specs.declared.types.PathKind.{PathKind}
use Rattle.fib_resolve.specs.declared.types.PathKind.TheVariants as kinds
use Rattle.fib_resolve.specs.declared.types.Need.{Need}
use Rattle.fib_resolve.specs.declared.types.Need.TheVariants as needs
use Rattle.fib_resolve.specs.declared.types.FibSource.{FibSource}
use Rattle.fib_resolve.specs.declared.types.FibSource.TheVariants as sources

-- the place of a source in the order of sources, the best first
abbrev pub source_rank : FibSource → ℕ
source_rank sources.Special = 0
source_rank sources.Interface = 1
source_rank sources.Api = 2
source_rank sources.Cli = 3
source_rank sources.Adjacency = 4
source_rank sources.RecursiveResolution = 5
source_rank sources.DefaultRoute = 6

abbrev pub same_source : FibSource → FibSource → Bool
same_source s t = source_rank s == source_rank t

-- recursive resolution
abbrev pub is_derived_source : FibSource → Bool
is_derived_source s = source_rank s == 5

abbrev pub kind_rank : PathKind → ℕ
kind_rank kinds.Drop = 0
kind_rank kinds.Local = 1
kind_rank (kinds.Attached i) = 2
kind_rank (kinds.Hop a i) = 3
kind_rank (kinds.Recursive a) = 4
kind_rank kinds.Cover = 5

-- Drop or Local: a list with such a path has no other
abbrev pub is_drop_or_local : PathKind → Bool
is_drop_or_local kind = nat_lt (kind_rank kind) 2

-- an absent part counts as 0
abbrev pub next_hop_of : PathKind → ℕ
next_hop_of kinds.Drop = 0
next_hop_of kinds.Local = 0
next_hop_of (kinds.Attached i) = 0
next_hop_of (kinds.Hop a i) = a
next_hop_of (kinds.Recursive a) = a
next_hop_of kinds.Cover = 0

abbrev pub interface_of : PathKind → ℕ
interface_of kinds.Drop = 0
interface_of kinds.Local = 0
interface_of (kinds.Attached i) = i
interface_of (kinds.Hop a i) = i
interface_of (kinds.Recursive a) = 0
interface_of kinds.Cover = 0

-- packets of the path leave by an interface
abbrev pub kind_leaves : PathKind → Bool
kind_leaves kinds.Drop = false
kind_leaves kinds.Local = false
kind_leaves (kinds.Attached i) = true
kind_leaves (kinds.Hop a i) = true
kind_leaves (kinds.Recursive a) = false
kind_leaves kinds.Cover = false

abbrev pub need_rank : Need → ℕ
need_rank needs.Any = 0
need_rank needs.Host = 1
need_rank needs.Attached = 2

-- what a path is known by: kind, next hop, interface and need
abbrev pub key_of : Path → Key
key_of p = record { kind = kind_rank p.kind; next_hop = next_hop_of p.kind; interface = interface_of p.kind; need = need_rank p.need }

abbrev pub same_key : Key → Key → Bool
same_key a b = (a.kind == b.kind) && ((a.next_hop == b.next_hop) && ((a.interface == b.interface) && (a.need == b.need)))

abbrev pub key_cmp : Key → Key → Ordering
key_cmp a b =
    ordering_then (nat_cmp a.kind b.kind)
    (ordering_then (nat_cmp a.next_hop b.next_hop) (ordering_then (nat_cmp a.interface b.interface) (nat_cmp a.need b.need)))

unfoldable pub key_lt : Key → Key → Bool
key_lt a b = is_lt (key_cmp a b)

-- by key, then weight, then preference
abbrev pub path_cmp : Path → Path → Ordering
path_cmp p q = ordering_then (key_cmp (key_of p) (key_of q)) (ordering_then (nat_cmp p.weight q.weight) (nat_cmp p.preference q.preference))

abbrev pub same_path : Path → Path → Bool
same_path p q = same_key (key_of p) (key_of q) && ((p.weight == q.weight) && (p.preference == q.preference))
