-- A longer entry that contains an address keeps a shorter one from being its cover.
use Rattle.std.proofs.Common.{arith, ◌≡◌, ℕ, ◌<◌, map, sym, ◌∙◌, ap}
use Rattle.std.specs.Prelude.{Contains}
use Rattle.std.proofs.lemmas.Bool.{lt-ltb}
use Rattle.fib_addr.specs.Prefixes.{host}
use Rattle.fib_resolve.specs.Pairs.{base_pairs, pairs, short_prefixes, prefix_of, is_short}
use Rattle.fib_resolve.specs.declared.pairs.Pair.{Pair}
use Rattle.fib_resolve.specs.declared.types.Tables.{Tables}
use Rattle.fib_resolve.proofs.Covering.{filter_in}
use Rattle.fib_resolve_changes.proofs.SamePairs.{map_in, Origin, origin, base, neighbor, derived, near_from, near_host, derived_host}

-- an entry shorter than a host covers, in each of the tables that have its base pairs
pub short_pair : (S U : Tables) (x : Pair) → Contains (pairs S) x → x.prefix.len < 32 → (Contains (base_pairs S) x → Contains (base_pairs U) x) → Contains (short_prefixes U) x.prefix
unfolding short_prefixes
short_pair S U x c short carried = by (origin S x c)
  where
    no_host : (a : ℕ) → host a ≡ x.prefix → Contains (short_prefixes U) x.prefix
    no_host a is = let long = ap (λ z. z.len) is in absurd (omega (arith, long, short))

    by : Origin S x → Contains (short_prefixes U) x.prefix
    by (base k) = filter_in is_short (map prefix_of (base_pairs U)) x.prefix (map_in prefix_of (base_pairs U) x (carried k)) (lt-ltb x.prefix.len 32 short)
    by (neighbor n k m) = no_host n.addr (sym (near_host n.addr n.interface) ∙ ap (λ z. z.prefix) (near_from S n x m).1)
    by (derived b k e) = no_host b (sym (derived_host S b) ∙ ap (λ z. z.prefix) e)
