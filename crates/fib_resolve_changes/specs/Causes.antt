-- Why a prefix is touched, where the test `changed` holds of each prefix whose entry is another before and after.
use Rattle.std.specs.Prelude.{◌≡◌, ◌≢◌, ◌⊎◌, ◌||◌, ◌&&◌, ◌==◌, ℕ, Bool, true, false, Contains}
use Rattle.fib_reach.specs.Walks.{Leads, Reaches, Next}
use Rattle.fib_addr.specs.Prefixes.{Prefix, host}
use Rattle.fib_resolve.specs.Pairs.{chosen}
use Rattle.fib_resolve.specs.Loops.{targets}
use Rattle.fib_resolve.specs.Touched.{other_flag, other_mac}
use Rattle.fib_resolve.specs.declared.types.Path.{Path}
use Rattle.fib_resolve.specs.declared.types.PathKind.{PathKind}
use Rattle.fib_resolve.specs.declared.types.PathKind.TheVariants as kinds
use Rattle.fib_resolve.specs.declared.types.Need.TheVariants as needs
use Rattle.fib_resolve.specs.declared.types.Tables.{Tables}
use Rattle.fib_resolve_changes.specs.Sources.{SameEntry}

-- the test misses no prefix whose entry is another
abbrev pub IsCaught : Tables → Tables → (Prefix → Bool) → Type 0
IsCaught S T changed = (e : Prefix) → changed e ≡ false → SameEntry S T e

-- a changed entry lies on the way from the next hop back to the entry
pub record IsThrough (S : Tables) (changed : Prefix → Bool) (e : Prefix) (a : ℕ) : Type 0 where
  pub at : Prefix
  pub is_changed : changed at ≡ true
  pub there : Leads (Next (targets S)) (host a) at
  pub back : Reaches (Next (targets S)) at e

-- the edges that leave a part
abbrev pub Within : {A : Type 0} → (A → Bool) → (A → A → Type 0) → A → A → Type 0
Within part E x y = (part x ≡ true) × E x y

-- the path's interface has another flag, or its Hop end another MAC
abbrev pub means_else : Tables → Tables → Prefix → PathKind → Bool
means_else S T e (kinds.Attached i) = other_flag S T i || ((e.len == 32) && other_mac S T i e.bits)
means_else S T e (kinds.Hop a i) = other_flag S T i || other_mac S T i a
means_else S T e kinds.Drop = false
means_else S T e kinds.Local = false
means_else S T e (kinds.Recursive a) = false
means_else S T e kinds.Cover = false

pub data Cause (S T : Tables) (changed : Prefix → Bool) (e : Prefix) : Type 0 where
  -- its own entry is another
  own : changed e ≡ true → Cause S T changed e
  -- a path of its list has an interface with another flag, or a Hop end with another MAC
  ends : (p : Path) → Contains (chosen S e) p → means_else S T e p.kind ≡ true → Cause S T changed e
  -- a recursive path of its list needs something of a changed entry
  needing : (p : Path) (a : ℕ) → Contains (chosen S e) p → p.kind ≡ kinds.Recursive a → p.need ≢ needs.Any → changed (host a) ≡ true
      → Cause S T changed e
  -- a recursive path of its list closes a cycle through a changed entry, before or after
  loops : (p : Path) (a : ℕ) → Contains (chosen S e) p → p.kind ≡ kinds.Recursive a → IsThrough S changed e a ⊎ IsThrough T changed e a
      → Cause S T changed e
