-- The longest match among the prefixes that can be covers is the cover, and that among the entries is the best.
use Rattle.std.proofs.Common.{arith, ◌≡◌, ℕ, ◌<◌, ◌^◌, List, Some, None, ◌↔◌, map, ap, ◌∙◌, subst}
use Rattle.std.specs.Prelude.{Contains, filter}
use Rattle.std.proofs.lemmas.Bool.{ltb-true}
use Rattle.fib_addr.specs.Prefixes.{Prefix}
use Rattle.fib_addr.specs.Longest.{everything}
use Rattle.fib_cover.specs.Covers.{ArePrefixes, IsLongestMatch}
use Rattle.fib_cover.proofs.Sets.{match_is_longest, no_match_is_longest}
use Rattle.fib_resolve.specs.Pairs.{entries, cover, best, short_prefixes, is_short, prefix_of, base_pairs}
use Rattle.fib_resolve.specs.declared.pairs.Pair.{Pair}
use Rattle.fib_resolve.specs.declared.types.Tables.{Tables}
use Rattle.fib_resolve.proofs.Covering.{filter_from}

module _ (S : Tables) (members : List Prefix) (a : ℕ) (small : a < 2 ^ 32) (good : ArePrefixes members) where
  module _ (same : (q : Prefix) → Contains members q ↔ Contains (short_prefixes S) q) where
    short : (q : Prefix) → Contains (short_prefixes S) q → q.len < 32
    unfolding short_prefixes
    short q c = ltb-true q.len 32 (filter_from is_short (map prefix_of (base_pairs S)) q c).1

    pub cover_found : (p : Prefix) → IsLongestMatch members 32 a (Some p) → p ≡ cover S a
    unfolding cover
    cover_found p m = match_is_longest members (short_prefixes S) 32 a small good same short p m

    pub cover_none : IsLongestMatch members 32 a None → everything ≡ cover S a
    unfolding cover
    cover_none m = no_match_is_longest members (short_prefixes S) 32 a small good same short m

  module _ (same : (q : Prefix) → Contains members q ↔ Contains (entries S) q) where
    below : (q : Prefix) → Contains (entries S) q → q.len < 33
    below q c = let is = (good q ((same q).1 c)).short in omega (arith, is)

    pub best_found : (p : Prefix) → IsLongestMatch members 33 a (Some p) → p ≡ best S a
    unfolding best
    best_found p m = match_is_longest members (entries S) 33 a small good same below p m

    pub best_none : IsLongestMatch members 33 a None → everything ≡ best S a
    unfolding best
    best_none m = no_match_is_longest members (entries S) 33 a small good same below m

-- the set of the short prefixes of the base pairs
pub short_same : (S : Tables) (pairs : List Pair) (prefixes members : List Prefix) → pairs ≡ base_pairs S → prefixes ≡ filter is_short (map prefix_of pairs) →
    ((q : Prefix) → Contains members q ↔ Contains prefixes q) → (q : Prefix) → Contains members q ↔ Contains (short_prefixes S) q
unfolding short_prefixes
short_same S pairs prefixes members is are same q =
    subst (λ (xs : List Prefix). Contains members q ↔ Contains xs q) (are ∙ ap (λ (xs : List Pair). filter is_short (map prefix_of xs)) is) (same q)
