-- The Hop ends that entries beside the changed ones have, as rows tell. No contract of a public call rests on this.
use Rattle.std.specs.Prelude.{◌≡◌, ◌⊎◌, ◌↔◌, ◌&&◌, not, Bool, true, List, Contains}
use Rattle.std.specs.List.{list_any}
use Rattle.std.specs.Set.{is_member}
use Rattle.fib_addr.specs.Prefixes.{Prefix}
use Rattle.fib_resolve.specs.Sizes.{kind_adjacency, same_adjacency}
use Rattle.fib_resolve.specs.declared.pairs.Adjacency.{Adjacency}
use Rattle.fib_resolve.specs.declared.types.Path.{Path}
use Rattle.fib_resolve.specs.declared.types.PathKind.{PathKind}
use Rattle.fib_entries_rows.specs.Known.{row_of}
use Rattle.fib_follow_view.specs.Views.{Seen, is_changed}
use Rattle.fib_follow_view.specs.inner.Told.{chosen_row}
use Rattle.fib_follow_features.specs.Holders.{Holders, holders}
use Rattle.fib_follow_features.specs.declared.feature.Feature.TheVariants as features

abbrev pub is_end : Adjacency → Prefix → PathKind → Bool
is_end x e kind = is_member same_adjacency (kind_adjacency e kind) x

abbrev pub has_end : Adjacency → Prefix → List Path → Bool
has_end x e paths = list_any (λ p. is_end x e p.kind) paths

-- the entry isn't changed, and the list that it had has the Hop end
abbrev pub is_beside : Seen → Adjacency → Prefix → Bool
is_beside v x e = not (is_changed v.changed e) && has_end x e (chosen_row v.before.lists (row_of v.before.rows e))

-- so is one that is found by it
abbrev pub is_held : Seen → List Holders → Adjacency → Bool
is_held v sets x = list_any (is_beside v x) (holders sets (features.End x))

-- the Hop end comes where the test passed
abbrev pub AddsEnd : Bool → Adjacency → List Adjacency → List Adjacency → Type 0
AddsEnd test x old new = (y : Adjacency) → Contains new y ↔ Contains old y ⊎ ((x ≡ y) × (test ≡ true))

-- those of them that pass
abbrev pub AreEndsAmong : (Adjacency → Bool) → List Adjacency → List Adjacency → Type 0
AreEndsAmong test ends held = (y : Adjacency) → Contains held y ↔ Contains ends y × (test y ≡ true)
