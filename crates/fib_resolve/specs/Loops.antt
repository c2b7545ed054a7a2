-- The edges of recursion, and which recursive paths are looped.
use Rattle.std.specs.Prelude.{◌≡◌, ℕ, Bool, true, false, not, ◌||◌, List, [], ◌∷◌, flat_map, Contains, Option, Some, None, slice_get}
use Rattle.fib_reach.specs.Walks.{Leads, Next}
use Rattle.fib_reach.specs.Search.{leads_through}
use Rattle.fib_addr.specs.Prefixes.{Prefix, host, same_prefix}
use Rattle.fib_resolve.specs.Pairs.{entries, chosen, cover}
use Rattle.fib_resolve.specs.declared.types.Path.{Path}
use Rattle.fib_resolve.specs.declared.types.PathKind.{PathKind}
use Rattle.fib_resolve.specs.declared.types.PathKind.TheVariants as kinds
use Rattle.fib_resolve.specs.declared.types.Tables.{Tables}

-- where a path leads: a recursive one to its next hop's entry, Cover to the cover
abbrev pub kind_targets : Tables → Prefix → PathKind → List Prefix
kind_targets S e (kinds.Recursive a) = host a ∷ []
kind_targets S e kinds.Cover = cover S e.bits ∷ []
kind_targets S e kinds.Drop = []
kind_targets S e kinds.Local = []
kind_targets S e (kinds.Attached i) = []
kind_targets S e (kinds.Hop a i) = []

-- the entries to which an entry has an edge
unfoldable pub targets : Tables → Prefix → List Prefix
targets S e = flat_map (λ p. kind_targets S e p.kind) (chosen S e)

-- a recursive path of the entry with this next hop is looped: its edge lies on a cycle
abbrev pub Looped : Tables → Prefix → ℕ → Type 0
Looped S e a = Leads (Next (targets S)) (host a) e

-- the same as a test, which looks for walks whose entries between the ends are effective
unfoldable pub looped : Tables → Prefix → ℕ → Bool
looped S e a = same_prefix (host a) e || leads_through same_prefix (targets S) (entries S) (host a) e

abbrev pub looped_kind : Tables → Prefix → PathKind → Bool
looped_kind S e (kinds.Recursive a) = looped S e a
looped_kind S e kinds.Drop = false
looped_kind S e kinds.Local = false
looped_kind S e (kinds.Attached i) = false
looped_kind S e (kinds.Hop a i) = false
looped_kind S e kinds.Cover = false

abbrev pub looped_one : Tables → Prefix → Option Path → Bool
looped_one S e None = false
looped_one S e (Some p) = looped_kind S e p.kind

-- the path at that place of the chosen list is there and looped
abbrev pub looped_at : Tables → Prefix → ℕ → Bool
looped_at S e place = looped_one S e (slice_get (chosen S e) place)

-- the path isn't a looped one
abbrev pub is_kept : Tables → Prefix → PathKind → Bool
is_kept S e kind = not (looped_kind S e kind)

-- an edge that is left when the looped paths are left out
abbrev pub Kept : Tables → Prefix → Prefix → Type 0
Kept S e to = (p : Path) × Contains (chosen S e) p × (is_kept S e p.kind ≡ true) × Contains (kind_targets S e p.kind) to
