-- What is known of tables beside them. No contract of a public call rests on this.
use Rattle.std.specs.Prelude.{◌≡◌, ℕ, Bool, ◌&&◌, ◌==◌, List, Option, Some, None, map}
use Rattle.fib_addr.specs.Prefixes.{Prefix}
use Rattle.fib_resolve.specs.Keys.{source_rank}
use Rattle.fib_resolve.specs.declared.types.Route.{Route}
use Rattle.fib_resolve.specs.declared.types.Neighbor.{Neighbor}
use Rattle.fib_resolve.specs.declared.types.Tables.{Tables}
use Rattle.fib_config.specs.inner.Bounds.{allowance, IsBoundFor}
use Rattle.fib_config.specs.declared.digest.Digest.{Digest}

abbrev pub route_key : Route → Prefix × ℕ
route_key r = (r.prefix, source_rank r.source)

abbrev pub neighbor_key : Neighbor → ℕ × ℕ
neighbor_key n = (n.interface, n.addr)

abbrev pub is_neighbor : ℕ → ℕ → Neighbor → Bool
is_neighbor interface addr n = (n.interface == interface) && (n.addr == addr)

-- the keys of the list's items, in their order, where they are known
abbrev pub AreKeys : {X K : Type 0} → (X → K) → List X → Option (List K) → Type 0
AreKeys key xs None = Unit {0}
AreKeys key xs (Some ks) = ks ≡ map key xs

-- keys that are still known come of the former ones so
abbrev pub Follows : {K : Type 0} → (List K → List K) → Option (List K) → Option (List K) → Type 0
Follows f old None = Unit {0}
Follows f None (Some new) = ⊥
Follows f (Some old) (Some new) = new ≡ f old

-- the keys of the routes and of the neighbors
pub record HasKeys (S : Tables) (digest : Digest) : Type 0 where
  pub routes : AreKeys route_key S.routes digest.routes
  pub neighbors : AreKeys neighbor_key S.neighbors digest.neighbors

-- these, and a number that the allowance doesn't exceed
pub record IsDigest (S : Tables) (digest : Digest) : Type 0 where
  pub keys : HasKeys S digest
  pub bound : IsBoundFor digest.bound (allowance S)
