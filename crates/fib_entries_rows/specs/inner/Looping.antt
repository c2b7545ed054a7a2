-- Which edges close a cycle among what a prefix leads to, before or after its list is another. No contract of a public call rests on this.
use Rattle.std.specs.Prelude.{◌≡◌, ◌↔◌, ◌⊎◌, ◌<◌, ◌&&◌, ℕ, Bool, true, false, List, slice_get}
use Rattle.std.specs.Prelude.{slice_index_or, Contains, Some}
use Rattle.std.specs.Set.{is_member}
use Rattle.fib_addr.specs.Prefixes.{Prefix, same_prefix}
use Rattle.fib_reach.specs.Walks.{AllDiffer, Leads, Next}
use Rattle.fib_loops.specs.Loops.{IsLooped}

-- what stood at a place stands there still
abbrev pub IsMore : List Prefix → List Prefix → Type 0
IsMore old new = (i : ℕ) (e : Prefix) → slice_get old i ≡ Some e → slice_get new i ≡ Some e

abbrev pub same_ends : Prefix × Prefix → Prefix × Prefix → Bool
same_ends x y = same_prefix x.0 y.0 && same_prefix x.1 y.1

-- the edge is among them
abbrev pub has_ends : List (Prefix × Prefix) → Prefix → Prefix → Bool
has_ends edges e t = is_member same_ends edges (e, t)

-- of the edges that begin at these, those are listed that lie on a cycle
abbrev pub AreLoops : (Prefix → List Prefix) → List Prefix → List (Prefix × Prefix) → Type 0
AreLoops next seen edges = (e t : Prefix) → Contains seen e → Contains (next e) t → (has_ends edges e t ≡ true) ↔ Leads (Next next) t e

-- these are seen beside those that were
abbrev pub Sees : List Prefix → List Prefix → List Prefix → Type 0
Sees list old new = IsMore old new × AllDiffer new × ((t : Prefix) → Contains list t → Contains new t)

-- the edges and one from the place to that of the target
abbrev pub AddsEdge : List Prefix → ℕ → Prefix → List (ℕ × ℕ) → List (ℕ × ℕ) → Type 0
AddsEdge order from t old new = (d : ℕ × ℕ) → Contains new d ↔ Contains old d ⊎ ((d.0 ≡ from) × (slice_get order d.1 ≡ Some t))

abbrev pub AddsEdges : List Prefix → ℕ → List Prefix → List (ℕ × ℕ) → List (ℕ × ℕ) → Type 0
AddsEdges order from targets old new =
    (d : ℕ × ℕ) → Contains new d ↔ Contains old d ⊎ ((d.0 ≡ from) × (t : Prefix) × Contains targets t × (slice_get order d.1 ≡ Some t))

-- the edge between the places of a prefix and one to which it leads
abbrev pub IsEdgeAmong : (Prefix → List Prefix) → List Prefix → ℕ × ℕ → Type 0
IsEdgeAmong next order d =
    (e : Prefix) × (t : Prefix) × (slice_get order d.0 ≡ Some e) × (slice_get order d.1 ≡ Some t) × Contains (next e) t

-- those that begin at the first places
abbrev pub AreEdgesAmong : (Prefix → List Prefix) → List Prefix → ℕ → List (ℕ × ℕ) → Type 0
AreEdgesAmong next order done edges = (d : ℕ × ℕ) → Contains edges d ↔ (d.0 < done) × IsEdgeAmong next order d

-- the prefixes stand at the edge's places
abbrev pub AreEnds : List Prefix → ℕ × ℕ → Prefix → Prefix → Type 0
AreEnds order d e t = (slice_get order d.0 ≡ Some e) × (slice_get order d.1 ≡ Some t)

-- the ends of those of the first edges that are marked
abbrev pub AreMarkedEnds : List Prefix → List (ℕ × ℕ) → List Bool → ℕ → List (Prefix × Prefix) → Type 0
AreMarkedEnds order edges marks count found =
    (e t : Prefix)
    → (has_ends found e t ≡ true) ↔ ((k : ℕ) × (d : ℕ × ℕ) × (k < count) × (slice_get edges k ≡ Some d)
    × (slice_index_or marks k false ≡ true) × AreEnds order d e t)

-- the ends of those that lie on cycles
abbrev pub AreLoopedEnds : List Prefix → List (ℕ × ℕ) → List (Prefix × Prefix) → Type 0
AreLoopedEnds order edges found =
    (e t : Prefix) → (has_ends found e t ≡ true) ↔ ((d : ℕ × ℕ) × Contains edges d × IsLooped edges d × AreEnds order d e t)
