-- Lists that are put together, each member once. No contract of a public call rests on this.
use Rattle.std.specs.Prelude.{◌≡◌, ◌↔◌, ◌⊎◌, ◌<◌, ◌++◌, ◌∷◌, [], ℕ, List, map, Contains, Some, slice_get, if◌then◌else◌}
use Rattle.std.specs.Set.{is_member}
use Rattle.fib_addr.specs.Prefixes.{Prefix, same_prefix}
use Rattle.fib_reach.specs.Walks.{AllDiffer}

-- those of the list come to those that were there
pub record Gathers (list old new : List Prefix) : Type 0 where
  pub once : AllDiffer new
  pub each : (t : Prefix) → Contains new t ↔ Contains old t ⊎ Contains list t

-- the edge, where it doesn't lead to one of the others
abbrev pub edge_beside : Prefix → List Prefix → Prefix → List (Prefix × Prefix)
edge_beside e others t = if is_member same_prefix others t then [] else (e, t) ∷ []

-- the edges from that prefix are appended that are so, each once
pub record AddsEdges (IsSo : Prefix → Type 0) (e : Prefix) (old new : List (Prefix × Prefix)) : Type 0 where
  pub ends : List Prefix
  pub once : AllDiffer ends
  pub each : (t : Prefix) → Contains ends t ↔ IsSo t
  pub made : new ≡ old ++ map (λ t. (e, t)) ends

-- the edges that are so and begin at the first of these prefixes, each once
pub record AreEdgesFrom (IsSo : Prefix → Prefix → Type 0) (from : List Prefix) (place : ℕ) (out : List (Prefix × Prefix)) : Type 0 where
  pub once : AllDiffer out
  pub each : (e t : Prefix) → Contains out (e, t) ↔ ((k : ℕ) × (k < place) × (slice_get from k ≡ Some e) × IsSo e t)
