-- The part of the entries to which the changed ones lead, before or after.
use Rattle.std.specs.Prelude.{◌≡◌, ◌≢◌, ℕ, Bool, true, false, Contains}
use Rattle.fib_addr.specs.Prefixes.{Prefix, host}
use Rattle.fib_resolve.specs.Pairs.{chosen}
use Rattle.fib_resolve.specs.declared.types.Path.{Path}
use Rattle.fib_resolve.specs.declared.types.PathKind.TheVariants as kinds
use Rattle.fib_resolve.specs.declared.types.Need.TheVariants as needs
use Rattle.fib_resolve.specs.Loops.{targets}
use Rattle.fib_resolve.specs.declared.types.Tables.{Tables}
use Rattle.fib_resolve_changes.specs.Causes.{IsCaught, means_else}

-- the test `changed` holds of each prefix whose entry is another, and `part` of these and of what a cycle through one of them can have: all
-- to which the part leads, before or after, but for where its free entries lead, to which only free ones do
pub record IsReached (S T : Tables) (changed part : Prefix → Bool) : Type 0 where
  pub free : Prefix → Bool
  pub caught : IsCaught S T changed
  pub has : (e : Prefix) → changed e ≡ true → part e ≡ true
  pub has_free : (e : Prefix) → free e ≡ true → part e ≡ true
  pub free_before : (x y : Prefix) → free y ≡ true → Contains (targets S x) y → free x ≡ true
  pub free_after : (x y : Prefix) → free y ≡ true → Contains (targets T x) y → free x ≡ true
  pub before : (x y : Prefix) → part x ≡ true → free x ≡ false → Contains (targets S x) y → part y ≡ true
  pub after : (x y : Prefix) → part x ≡ true → free x ≡ false → Contains (targets T x) y → part y ≡ true

-- what a change can touch: the part, what needs something of a changed host, and what has a path that means another end
pub record HoldsTouched (S T : Tables) (changed part written : Prefix → Bool) : Type 0 where
  pub reached : IsReached S T changed part
  pub has_part : (e : Prefix) → part e ≡ true → written e ≡ true
  pub needing : (e : Prefix) (p : Path) (a : ℕ) → Contains (chosen S e) p → p.kind ≡ kinds.Recursive a → p.need ≢ needs.Any
      → changed (host a) ≡ true
      → written e ≡ true
  pub ends : (e : Prefix) (p : Path) → Contains (chosen S e) p → means_else S T e p.kind ≡ true → written e ≡ true
