-- How entries that are others are found. No contract of a public call rests on this.
use Rattle.std.specs.Prelude.{◌≡◌, ◌⊎◌, ◌++◌, ◌∷◌, ℕ, false, List, [], map, Contains, Option, Some, None}
use Rattle.fib_addr.specs.Prefixes.{Prefix}
use Rattle.fib_cover.specs.Covers.{IsAscending}
use Rattle.fib_resolve.specs.Pairs.{cover}
use Rattle.fib_resolve.specs.declared.pairs.Pair.{Pair}
use Rattle.fib_resolve.specs.declared.types.Tables.{Tables}
use Rattle.fib_resolve_changes.specs.Sources.{SameEntry}
use Rattle.fib_follow_view.specs.Views.{IsMade, anew_prefix, is_changed}
use Rattle.fib_follow_view.specs.declared.view.Anew.{Anew}
use Rattle.fib_follow_pairs.specs.declared.host.Host.{Host}
use Rattle.fib_follow_pairs.specs.inner.Parts.{hop_at, near_at}

-- with what a cover, neighbors and next hops bring a host
abbrev pub with_late : Tables → ℕ → Option Host → List Pair → List Pair
with_late T a None xs = xs
with_late T a (Some h) xs = xs ++ near_at T a h.attached ++ hop_at a h.attached h.is_hop

-- where the prefix is a host, that is its cover
abbrev pub IsCovered : Tables → Prefix → Prefix → Type 0
IsCovered T e c = e.len ≡ 32 → c ≡ cover T e.bits

-- nothing is appended, or what was made anew of that prefix
abbrev pub IsGrown : Prefix → List Anew → List Anew → Type 0
IsGrown e old new = (old ≡ new) ⊎ ((x : Anew) × (x.prefix ≡ e) × (new ≡ old ++ x ∷ []))

-- nothing where the entry stays, or the entry where it doesn't
abbrev pub IsStep : Tables → Tables → Prefix → List Anew → List Anew → Type 0
IsStep S T e old new =
    ((old ≡ new) × SameEntry S T e) ⊎ ((x : Anew) × (x.prefix ≡ e) × (new ≡ old ++ x ∷ []) × IsMade T x × (SameEntry S T e → ⊥))

-- of the list exactly the others, made anew
pub record AreFound (S T : Tables) (list : List Prefix) (changed : List Anew) : Type 0 where
  pub made : (x : Anew) → Contains changed x → IsMade T x
  pub others : (e : Prefix) → Contains (map anew_prefix changed) e → Contains list e × (SameEntry S T e → ⊥)
  pub same : (e : Prefix) → Contains list e → is_changed changed e ≡ false → SameEntry S T e

-- they ascend, and are of these
abbrev pub AreAmong : List Prefix → List Anew → Type 0
AreAmong first changed = IsAscending (map anew_prefix changed) × ((e : Prefix) → Contains (map anew_prefix changed) e → Contains first e)
