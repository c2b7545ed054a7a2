-- What is written of a change of entries, and what is told of it.
use Rattle.std.specs.Prelude.{◌≡◌, ◌≢◌, ◌↔◌, ℕ, Bool, true, List, map, Contains, if◌then◌else◌}
use Rattle.fib_addr.specs.Prefixes.{Prefix, host}
use Rattle.fib_reach.specs.Walks.{AllDiffer}
use Rattle.fib_resolve.specs.Aims.{marked_list}
use Rattle.fib_resolve.specs.Loops.{looped_kind, targets}
use Rattle.fib_resolve.specs.Pairs.{chosen}
use Rattle.fib_resolve.specs.declared.types.Need.TheVariants as needs
use Rattle.fib_resolve.specs.declared.types.Path.{Path}
use Rattle.fib_resolve.specs.declared.types.PathKind.TheVariants as kinds
use Rattle.fib_resolve.specs.declared.types.Tables.{Tables}
use Rattle.fib_resolve_changes.specs.Causes.{means_else}
use Rattle.fib_resolve_changes.specs.Ranks.{has_entry}
use Rattle.fib_entries_rows.specs.Changes.{AreTouched, prefix_moved}
use Rattle.fib_entries_rows.specs.Known.{kind_met, rank_of}
use Rattle.fib_entries_rows.specs.declared.changes.Followed.{Followed}
use Rattle.fib_entries_rows.specs.declared.changes.Moved.{Moved}
use Rattle.fib_follow_view.specs.Views.{Seen}
use Rattle.fib_follow_part.specs.Parts.{Part, rank_after}
use Rattle.fib_follow_told.specs.declared.body.Body.{Body}
use Rattle.fib_follow_told.specs.declared.edges.Edges.{Edges}

-- the edges that the tables after have alone come, and those that the tables before have alone go; each stands once
pub record AreEdges (S T : Tables) (x : Edges) : Type 0 where
  pub come_once : AllDiffer x.come
  pub come : (e t : Prefix) → Contains x.come (e, t) ↔ (Contains (targets T e) t × (Contains (targets S e) t → ⊥))
  pub go_once : AllDiffer x.go
  pub go : (e t : Prefix) → Contains x.go (e, t) ↔ (Contains (targets S e) t × (Contains (targets T e) t → ⊥))

-- the list has each prefix with a path that needs something of a changed host, and each with a path that means another end
pub record AreOthers (S T : Tables) (changed : Prefix → Bool) (others : List Prefix) : Type 0 where
  pub needing : (e : Prefix) (p : Path) (a : ℕ) → Contains (chosen S e) p → p.kind ≡ kinds.Recursive a → p.need ≢ needs.Any
      → changed (host a) ≡ true → Contains others e
  pub ends : (e : Prefix) (p : Path) → Contains (chosen S e) p → means_else S T e p.kind ≡ true → Contains others e

-- for each path of the prefix's chosen list whether it is looped, whether its need is met, and what it is for; nothing where it is no entry
pub record IsBody (T : Tables) (b : Body) : Type 0 where
  pub looped : b.looped ≡ map (λ p. looped_kind T b.prefix p.kind) (chosen T b.prefix)
  pub met : b.met ≡ map (λ p. kind_met T p.need p.kind) (chosen T b.prefix)
  pub marked : b.marked ≡ marked_list T b.prefix

abbrev pub body_prefix : Body → Prefix
body_prefix b = b.prefix

-- a body for each of the prefixes, in their order
pub record AreBodies (T : Tables) (list : List Prefix) (bodies : List Body) : Type 0 where
  pub prefixes : map body_prefix bodies ≡ list
  pub each : (b : Body) → Contains bodies b → IsBody T b

-- a prefix's rank after the change: 0 where it is no entry then
abbrev pub rank_left : Tables → Seen → Part → List ℕ → Prefix → ℕ
rank_left T v p ranks e = if has_entry T e then rank_after v p ranks e else 0

-- each prefix that has another rank after than before, once, with the rank that it had
pub record AreMovedBy (before after : Prefix → ℕ) (list : List Moved) : Type 0 where
  pub once : AllDiffer (map prefix_moved list)
  pub real : (m : Moved) → Contains list m → (m.rank ≡ before m.prefix) × (after m.prefix ≢ m.rank)
  pub found : (e : Prefix) → after e ≢ before e → Contains (map prefix_moved list) e

-- the touched prefixes are told, and those of another rank
pub record IsTold (v : Seen) (S T : Tables) (p : Part) (ranks : List ℕ) (f : Followed) : Type 0 where
  pub touched : AreTouched S T f.touched
  pub moved : AreMovedBy (rank_of v.before.rows) (rank_left T v p ranks) f.moved
