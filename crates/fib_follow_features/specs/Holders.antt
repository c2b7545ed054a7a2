-- The entries that are found by each feature, and how these change.
use Rattle.std.specs.Prelude.{◌≡◌, ◌⊎◌, ◌↔◌, ◌==◌, Bool, false, List, [], Option, Some, None, Contains}
use Rattle.std.specs.Map.{lookup}
use Rattle.fib_addr.specs.Prefixes.{Prefix, same_prefix}
use Rattle.fib_resolve.specs.Sizes.{same_adjacency}
use Rattle.fib_follow_features.specs.declared.feature.Feature.{Feature}
use Rattle.fib_follow_features.specs.declared.feature.Feature.TheVariants as features

-- a feature with the entries that are found by it, in order
abbrev pub Holders : Type 0
Holders = Feature × List Prefix

abbrev pub same_feature : Feature → Feature → Bool
same_feature (features.Over i) (features.Over j) = i == j
same_feature (features.End x) (features.End y) = same_adjacency x y
same_feature (features.Needs a) (features.Needs b) = a == b
same_feature (features.Via a) (features.Via b) = a == b
same_feature (features.Under p) (features.Under q) = same_prefix p q
same_feature f g = false

abbrev pub members_of : Option (List Prefix) → List Prefix
members_of None = []
members_of (Some es) = es

-- the entries that are found by the feature
abbrev pub holders : List Holders → Feature → List Prefix
holders sets f = members_of (lookup (same_feature f) sets)

abbrev pub IsFound : List Holders → Feature → Prefix → Type 0
IsFound sets f e = Contains (holders sets f) e

-- the entry is found by each of these features too, and all else stays
abbrev pub Notes : List Holders → List Holders → Prefix → List Feature → Type 0
Notes old new e fs = (f : Feature) (q : Prefix) → IsFound new f q ↔ IsFound old f q ⊎ ((q ≡ e) × Contains fs f)

-- the entry is found by some of these features too, and all else stays
pub record NotesSome (old new : List Holders) (e : Prefix) (fs : List Feature) : Type 0 where
  pub stays : (f : Feature) (q : Prefix) → IsFound old f q → IsFound new f q
  pub real : (f : Feature) (q : Prefix) → IsFound new f q → IsFound old f q ⊎ ((q ≡ e) × Contains fs f)

-- the prefix is the entry, and the feature among the old ones and not among the new ones
abbrev pub IsGone : Prefix → List Feature → List Feature → Feature → Prefix → Type 0
IsGone e olds news f q = (q ≡ e) × Contains olds f × (Contains news f → ⊥)

-- the entry isn't found any more by those of the old features that aren't among the new ones, and all else stays
abbrev pub Forgets : List Holders → List Holders → Prefix → List Feature → List Feature → Type 0
Forgets old new e olds news = (f : Feature) (q : Prefix) → IsFound new f q ↔ IsFound old f q × (IsGone e olds news f q → ⊥)
